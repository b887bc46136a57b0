use Rattle.mum_rules_tree.proofs.Common.{◌≡◌, drop, map, list_any, bytes_eq}
use Rattle.mum_rules_tree.proofs.policy.is_among.Given as goal

abbrev pub invariant-loop-group : goal.invariant-loop-group
invariant-loop-group l =
    list_any (bytes_eq l.name) (map (λ group. group.name) l.groups)
    ≡ list_any (bytes_eq l.name) (map (λ group. group.name) (drop l.group-index l.groups))
