use Rattle.mum_route.proofs.Common.{◌≡◌, ◌≢◌, ◌∙◌, ℕ, Bool, true, false, List, [], ◌++◌, bytes_eq, Option, Some, refl, sym, ap, append_assoc, if◌then◌else◌, append-nil, All-from_recursion, same_Some, SessionId, User, session_of, hearers_at, shares, HasPositionBy}
use Rattle.mum_route.proofs.{Positioned.has_position_by, Seated.each_hearer, Seated.seated}
use Rattle.mum_route.proofs.laws.positions_by_context.Goals as goal

pub returns : goal.returns
returns c = λ state speaker target packet own mine.
    All-from_recursion (λ hearer. (user : User) → session_of state.roster hearer.session ≡ Some user → HasPositionBy own user speaker packet hearer) (hearers_at state speaker target)
    (each_hearer state speaker target (λ hearer. (user : User) → session_of state.roster hearer.session ≡ Some user → HasPositionBy own user speaker packet hearer)
    (λ member user found other again.
    let one : user ≡ other = same_Some user other (sym found ∙ again) in
    let same : shares (session_of state.roster speaker) user ≡ shares (Some own) other =
    ap (λ (o : Option User). shares o user) mine ∙ ap (shares (Some own)) one in
    has_position_by own other speaker packet (seated state speaker member user) same))
