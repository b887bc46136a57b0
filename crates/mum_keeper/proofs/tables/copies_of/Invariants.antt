use Rattle.mum_keeper.proofs.Common.{◌≡◌, take}
use Rattle.mum_keeper.proofs.tables.copies_of.Given as goal

abbrev pub invariant-loop-channel : goal.invariant-loop-channel
invariant-loop-channel l = l.copies.items ≡ take l.channel-index l.channels
