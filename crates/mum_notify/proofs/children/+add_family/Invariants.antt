use Rattle.mum_notify.proofs.Common.{◌≡◌, ◌-◌, ◌<◌, [], ◌∷◌, ◌++◌, filter, take, flat_map, family, is_under, children_in, Child}
use Rattle.mum_notify.proofs.children.+add_family.Given as goal

abbrev pub invariant-loop-child : goal.invariant-loop-child
invariant-loop-child l = record {
  some : 0 < l.levels;
  under : l.under ≡ filter (is_under l.fn.id) l.listed;
  front : l.ordered.items ≡ (l.fn.ordered.items ++ l.fn.id ∷ []) ++ flat_map (λ (child : Child). family (children_in l.listed) (l.levels - 1) child.id) (take l.child-index l.under);
}

abbrev pub decreases-add_family : goal.decreases-add_family
decreases-add_family l = l.levels
