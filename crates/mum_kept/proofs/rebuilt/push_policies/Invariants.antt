use Rattle.mum_kept.proofs.Common.{◌≡◌, ◌++◌, map, take, policy_edit}
use Rattle.mum_kept.proofs.rebuilt.push_policies.Given as goal

abbrev pub invariant-loop-channel : goal.invariant-loop-channel
invariant-loop-channel l = l.edits.items ≡ l.fn.edits.items ++ map policy_edit (take l.channel-index l.channels)
