use Rattle.mum_kept.proofs.Common.{◌≡◌, take, children_of}
use Rattle.mum_kept.proofs.order.children_of.Given as goal

abbrev pub invariant-loop-channel : goal.invariant-loop-channel
invariant-loop-channel l = l.listed.items ≡ children_of (take l.channel-index l.channels)
