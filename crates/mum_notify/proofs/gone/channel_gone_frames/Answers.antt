use Rattle.mum_notify.proofs.Common.{[], channel_gone, channel_gone_frame}
use Rattle.mum_notify.proofs.Pieces.{mapped_at}
use Rattle.mum_notify.proofs.gone.channel_gone_frames.Goals as goal

pub loop-id-preserved : goal.loop-id-preserved
loop-id-preserved c =
    mapped_at (λ id. channel_gone_frame (channel_gone id)) [] c.args.gone.now c.loop-id.id-index _ c.loop-id.frames.items _ c.loop-id-test.true c.loop-id.invariant c.in_ok-tell_gone.ensures
