use Rattle.mum_viewer.proofs.Common.{ListenerPair}
use Rattle.mum_viewer.proofs.Lists.{mapped_at}
use Rattle.mum_viewer.proofs.picture.channels_of.Goals as goal

pub loop-pair-preserved : goal.loop-pair-preserved
loop-pair-preserved c =
    mapped_at (λ (pair : ListenerPair). pair.channel) c.args.pairs.now c.loop-pair.pair-index _ c.loop-pair.channels.items _ c.loop-pair-test.true c.loop-pair.invariant c.in_ok-push.ensures.items
