use Rattle.mum_notify.proofs.Common.{[], ListenerPair}
use Rattle.mum_notify.proofs.Pieces.{mapped_at}
use Rattle.mum_notify.proofs.users.channels_of.Goals as goal

pub loop-pair-preserved : goal.loop-pair-preserved
loop-pair-preserved c = mapped_at (λ (pair : ListenerPair). pair.channel.0) [] c.args.pairs.now c.loop-pair.pair-index _ c.loop-pair.listed.items _ c.loop-pair-test.true c.loop-pair.invariant c.in_ok-push.ensures.items
