use Rattle.mum_policy.proofs.Common.{◌≡◌, take}
use Rattle.mum_policy.proofs.policy.copy_of_groups.Given as goal

abbrev pub invariant-loop-group : goal.invariant-loop-group
invariant-loop-group l = l.copies.items ≡ take l.group-index l.groups
