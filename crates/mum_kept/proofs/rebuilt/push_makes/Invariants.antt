use Rattle.mum_kept.proofs.Common.{◌≡◌, ◌++◌, map, take, make_edit, below_root}
use Rattle.mum_kept.proofs.rebuilt.push_makes.Given as goal

abbrev pub invariant-loop-channel : goal.invariant-loop-channel
invariant-loop-channel l = l.edits.items ≡ l.fn.edits.items ++ map (make_edit l.prefix) (below_root (take l.channel-index l.channels))
