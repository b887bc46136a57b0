use Rattle.mum_kept.proofs.Common.{rules, IsNonDecreasingBy-from_sort_by_key, answers_always, Pair}
use Rattle.mum_kept.proofs.ByParents.{children_are_sorted}
use Rattle.mum_kept.proofs.order.sorted_children.Goals as goal

pub returns-clause-sorted : goal.returns-clause-sorted
returns-clause-sorted c =
    IsNonDecreasingBy-from_sort_by_key (λ (child : Pair). child.0.0) _ c.in_ok-sort_by_key.ensures.sorted (λ a r q k. search rules)

pub returns-clause-children : goal.returns-clause-children
returns-clause-children c = λ parent.
    children_are_sorted c.args.channels.now parent _ _ c.requires c.in_ok-listed.ensures
    (c.in_ok-sort_by_key.ensures.stable (λ (child : Pair). child.0.0) (answers_always _ _ _ (λ f a r g h. search rules)))
