use Rattle.mum_viewer.proofs.Common.{◌≡◌, map, take}
use Rattle.mum_viewer.proofs.picture.channels_of.Given as goal

abbrev pub invariant-loop-pair : goal.invariant-loop-pair
invariant-loop-pair l = l.channels.items ≡ map (λ pair. pair.channel) (take l.pair-index l.pairs)
