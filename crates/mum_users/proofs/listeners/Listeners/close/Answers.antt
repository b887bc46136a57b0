use Rattle.mum_users.proofs.Common.{not}
use Rattle.mum_users.proofs.Indexes.{IsIndexed-filter}
use Rattle.mum_users.proofs.listeners.Listeners.close.Goals as goal

pub invariant_of-self : goal.invariant_of-self
invariant_of-self g c =
    rw (c.drop_gone.ensures, c.drop_gone-2.ensures) (
    IsIndexed-filter (λ pair. not (g.G.ChannelSet.has_channel c.args.gone.now pair.channel)) _ _ c.self.invariant)
