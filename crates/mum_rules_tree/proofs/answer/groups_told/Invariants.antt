use Rattle.mum_rules_tree.proofs.Common.{◌≡◌, map, take, group_told}
use Rattle.mum_rules_tree.proofs.answer.groups_told.Given as goal

abbrev pub invariant-loop-group : goal.invariant-loop-group
invariant-loop-group l = l.told.items ≡ map group_told (take l.group-index l.groups)
