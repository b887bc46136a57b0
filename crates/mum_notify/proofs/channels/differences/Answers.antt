use Rattle.mum_notify.proofs.Common.{[], channel_difference, channel_frame}
use Rattle.mum_notify.proofs.Pieces.{told_at}
use Rattle.mum_notify.proofs.channels.differences.Goals as goal

pub loop-id-preserved : goal.loop-id-preserved
loop-id-preserved c =
    told_at channel_frame (channel_difference c.args.before.now.tree c.args.after.now.tree) [] c.args.ids.now c.loop-id.id-index _ c.loop-id.frames.items _ c.loop-id-test.true c.loop-id.invariant c.in_ok-add_difference.ensures
