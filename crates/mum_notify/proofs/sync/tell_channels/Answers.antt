use Rattle.mum_notify.proofs.Common.{map, given, channel_of, channel_told, channel_frame}
use Rattle.mum_notify.proofs.Pieces.{told_at}
use Rattle.mum_notify.proofs.sync.tell_channels.Goals as goal

pub loop-id-preserved : goal.loop-id-preserved
loop-id-preserved c =
    told_at channel_frame (λ id. map channel_told (given (channel_of c.args.state.now.tree id))) c.args.frames.now.items c.args.ids.now c.loop-id.id-index _ c.loop-id.frames.items _ c.loop-id-test.true c.loop-id.invariant c.in_ok-tell_channel.ensures
