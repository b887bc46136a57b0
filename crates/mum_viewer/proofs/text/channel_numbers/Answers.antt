use Rattle.mum_viewer.proofs.Common.{view, ChannelId, whole}
use Rattle.mum_viewer.proofs.Lists.{seen_at}
use Rattle.mum_viewer.proofs.text.channel_numbers.Goals as goal

pub loop-id-preserved : goal.loop-id-preserved
loop-id-preserved c =
    seen_at view (λ (id : ChannelId). whole id.0) c.args.ids.now c.loop-id.id-index _ c.loop-id.numbers.items _ c.from.result c.loop-id-test.true c.loop-id.invariant c.in_ok-push.ensures.items c.from.ensures
