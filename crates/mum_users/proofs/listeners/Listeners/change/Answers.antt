use Rattle.mum_users.proofs.Common.{◌&&◌, not, is_among, is_of_session}
use Rattle.mum_users.proofs.Indexes.{IsIndexed-filter}
use Rattle.mum_users.proofs.listeners.Listeners.change.Goals as goal

pub put_channels-requires-clause-indexed : goal.put_channels-requires-clause-indexed
put_channels-requires-clause-indexed c =
    rw (c.drop_channels.ensures.items, c.drop_channels-2.ensures.items, c.reserve.ensures.items, c.reserve-2.ensures.items) (
    IsIndexed-filter (λ pair. not (is_of_session c.args.session pair && is_among c.args.left.now pair.channel)) _ _ c.self.invariant)
