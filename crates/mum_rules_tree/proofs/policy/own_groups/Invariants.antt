use Rattle.mum_rules_tree.proofs.Common.{◌≡◌, map, not, take, filter, group_asked, is_inherited}
use Rattle.mum_rules_tree.proofs.policy.own_groups.Given as goal

abbrev pub invariant-loop-group : goal.invariant-loop-group
invariant-loop-group l = l.own.items ≡ map group_asked (filter (λ group. not (is_inherited group.inherited)) (take l.group-index l.groups))
