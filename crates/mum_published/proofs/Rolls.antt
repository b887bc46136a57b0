-- Which logins are on a roll, as it grows.
use Rattle.mum_published.proofs.Common.{◌∙◌, ℕ, ◌==◌, Bool, List, [], ◌∷◌, ◌++◌, refl, ap, sym, ◌||◌, ◌&&◌, IsTrue, list_any, or-true, eq-eqb, list_any-append, IsPrefix, SessionId, ReplyEnd, Joined, Decided, Rejected, Login, is_admitted, is_on_roll, login, login_of}

abbrev is_it : ℕ → SessionId → Login → Bool
is_it connection session one = (one.connection == connection) && (one.session.0 == session.0)

-- what was on it stays on it
pub on_longer : (connection : ℕ) (session : SessionId) (roll longer : List Login) → IsPrefix roll longer → IsTrue (is_on_roll connection session roll)
    → IsTrue (is_on_roll connection session longer)
on_longer connection session roll longer front on =
    ap (list_any (is_it connection session)) (sym front.1) ∙ list_any-append (is_it connection session) roll front.0
    ∙ ap (λ (b : Bool). b || list_any (is_it connection session) front.0) on

-- a login that was added is on it
on_last : (connection : ℕ) (session : SessionId) (roll : List Login) → IsTrue (is_on_roll connection session (roll ++ login connection session ∷ []))
on_last connection session roll =
    list_any-append (is_it connection session) roll (login connection session ∷ [])
    ∙ ap (λ (b : Bool). list_any (is_it connection session) roll || ((b && (session.0 == session.0)) || list_any (is_it connection session) [])) (eq-eqb connection connection refl)
    ∙ ap (λ (b : Bool). list_any (is_it connection session) roll || (b || list_any (is_it connection session) [])) (eq-eqb session.0 session.0 refl)
    ∙ or-true (list_any (is_it connection session) roll)

-- so it has the login that a reply reports that goes with it
pub admitted_last : (end : ReplyEnd) (connection : ℕ) (roll : List Login) → IsTrue (is_admitted end connection (roll ++ login_of connection end))
admitted_last (Joined session slot) connection roll = on_last connection session roll
admitted_last Decided connection roll = refl
admitted_last Rejected connection roll = refl
