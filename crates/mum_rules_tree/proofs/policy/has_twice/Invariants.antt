use Rattle.mum_rules_tree.proofs.Common.{◌≡◌, drop, map, has_twice}
use Rattle.mum_rules_tree.proofs.policy.has_twice.Given as goal

abbrev pub invariant-loop-at : goal.invariant-loop-at
invariant-loop-at l = has_twice (map (λ group. group.name) l.groups) ≡ has_twice (map (λ group. group.name) (drop l.at l.groups))
