use Rattle.mum_users.proofs.Common.{not, is_of_session}
use Rattle.mum_users.proofs.Indexes.{IsIndexed-filter}
use Rattle.mum_users.proofs.listeners.Listeners.leave_all.Goals as goal

pub invariant_of-self : goal.invariant_of-self
invariant_of-self c =
    rw (c.drop_session.ensures, c.drop_session-2.ensures) (
    IsIndexed-filter (λ pair. not (is_of_session c.args.session pair)) _ _ c.self.invariant)
