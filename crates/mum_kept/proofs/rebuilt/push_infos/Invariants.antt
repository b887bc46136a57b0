use Rattle.mum_kept.proofs.Common.{◌≡◌, ◌++◌, take, info_edits}
use Rattle.mum_kept.proofs.rebuilt.push_infos.Given as goal

abbrev pub invariant-loop-channel : goal.invariant-loop-channel
invariant-loop-channel l = l.edits.items ≡ l.fn.edits.items ++ info_edits (take l.channel-index l.channels)
