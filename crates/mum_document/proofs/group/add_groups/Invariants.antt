use Rattle.mum_document.proofs.Common.{◌≡◌, ◌++◌, drop, map, take, view, elements_fault, group_fault, group_of, with_group_met}
use Rattle.mum_document.proofs.group.add_groups.Given as goal

-- the first fault is not passed yet, and the groups so far are there
abbrev pub invariant-loop-place : goal.invariant-loop-place
invariant-loop-place l =
    (elements_fault group_fault with_group_met (map (λ n. n.now) l.names.keys) l.place (map view (drop l.place l.values))
    ≡ elements_fault group_fault with_group_met (map (λ n. n.now) l.fn.names.keys) 0 (map view l.values))
    × (l.groups.items ≡ l.fn.groups.items ++ map group_of (map view (take l.place l.values)))
