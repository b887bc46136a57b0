use Rattle.mum_users.proofs.Common.{◌&&◌, [], ◌∷◌, not, is_among, is_of_session}
use Rattle.mum_users.proofs.Indexes.{IsIndexed-filter}
use Rattle.mum_users.proofs.listeners.Listeners.leave.Goals as goal

pub invariant_of-self : goal.invariant_of-self
invariant_of-self c =
    rw (c.drop_pair.ensures, c.drop_pair-2.ensures) (
    IsIndexed-filter (λ pair. not (is_of_session c.args.session pair && is_among (c.args.channel ∷ []) pair.channel)) _ _ c.self.invariant)
