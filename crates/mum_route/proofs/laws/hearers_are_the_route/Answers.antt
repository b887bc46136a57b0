use Rattle.mum_route.proofs.Common.{◌≡◌, Some, refl, All-from_recursion, User, session_of, hearers_at}
use Rattle.mum_route.proofs.Seated.{each_hearer, hearers_are}
use Rattle.mum_route.proofs.laws.hearers_are_the_route.Goals as goal

pub returns-clause-members : goal.returns-clause-members
returns-clause-members c = hearers_are

pub returns-clause-slots : goal.returns-clause-slots
returns-clause-slots c = λ state speaker target.
    All-from_recursion (λ hearer. (user : User) × (session_of state.roster hearer.session ≡ Some user) × (hearer.slot ≡ user.slot)) (hearers_at state speaker target)
    (each_hearer state speaker target (λ hearer. (user : User) × (session_of state.roster hearer.session ≡ Some user) × (hearer.slot ≡ user.slot))
    (λ member user found. (user, found, refl)))
