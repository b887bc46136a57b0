use Rattle.mum_kept.proofs.Common.{◌≡◌, ◌-◌, ◌<◌, [], ◌∷◌, ◌++◌, filter, take, flat_map, Pair, ends_from, starts_at, family}
use Rattle.mum_kept.proofs.order.+add_family.Given as goal

abbrev pub invariant-loop-child : goal.invariant-loop-child
invariant-loop-child l = record {
  some : 0 < l.levels;
  under : l.under ≡ filter (starts_at l.fn.id) l.listed;
  front : l.ordered.items ≡ (l.fn.ordered.items ++ l.fn.id ∷ []) ++ flat_map (λ (child : Pair). family (λ parent. ends_from parent l.listed) (l.levels - 1) child.1) (take l.child-index l.under);
}

abbrev pub decreases-add_family : goal.decreases-add_family
decreases-add_family l = l.levels
