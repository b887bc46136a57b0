use Rattle.mum_users.proofs.Indexes.{IsIndexed-put}
use Rattle.mum_users.proofs.listeners.Listeners.put.Goals as goal

pub put_pair-requires-clause-rise : goal.put_pair-requires-clause-rise
put_pair-requires-clause-rise c = rw c.reserve.ensures.items c.self.invariant.rise

pub put_pair-requires-2-clause-rise : goal.put_pair-requires-2-clause-rise
put_pair-requires-2-clause-rise c = rw c.reserve-2.ensures.items c.self.invariant.channels_rise

pub invariant_of-self-2 : goal.invariant_of-self-2
invariant_of-self-2 c =
    rw (c.put_pair.ensures.items, c.put_pair-2.ensures.items, c.reserve.ensures.items, c.reserve-2.ensures.items) (
    IsIndexed-put c.args.new _ _ c.self.invariant)
