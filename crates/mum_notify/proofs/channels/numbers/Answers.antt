use Rattle.mum_notify.proofs.Common.{[], ChannelId}
use Rattle.mum_notify.proofs.Pieces.{mapped_at}
use Rattle.mum_notify.proofs.channels.numbers.Goals as goal

pub loop-id-preserved : goal.loop-id-preserved
loop-id-preserved c = mapped_at (λ (id : ChannelId). id.0) [] c.args.ids.now c.loop-id.id-index _ c.loop-id.listed.items _ c.loop-id-test.true c.loop-id.invariant c.in_ok-push.ensures.items
