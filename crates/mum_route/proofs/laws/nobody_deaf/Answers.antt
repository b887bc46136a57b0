use Rattle.mum_route.proofs.Common.{◌≡◌, Some, false, and_parts, not-true, session_of, User, is_deaf}
use Rattle.mum_route.proofs.Hearers.{each_hearing, found_own}
use Rattle.mum_route.proofs.laws.nobody_deaf.Goals as goal

pub returns : goal.returns
returns c = λ state speaker target proper away.
    each_hearing state speaker target (λ member. (user : User) × (session_of state.roster member.0 ≡ Some user) × (is_deaf user ≡ false)) away
    (λ own user context is. (user, found_own state user proper is.there, not-true (is_deaf user) (and_parts _ _ is.can).1))
