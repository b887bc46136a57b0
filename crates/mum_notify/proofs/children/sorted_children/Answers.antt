use Rattle.mum_notify.proofs.Common.{ap, ◌∙◌, rules, IsNonDecreasingBy-from_sort_by_key, answers_always, children_of, Child}
use Rattle.mum_notify.proofs.ByParent.{children_are_sorted, rises_from}
use Rattle.mum_notify.proofs.children.sorted_children.Goals as goal

pub returns-clause-rise : goal.returns-clause-rise
returns-clause-rise c =
    rises_from _ (IsNonDecreasingBy-from_sort_by_key (λ (child : Child). child.parent.0) _ c.in_ok-sort_by_key.ensures.sorted (λ a r q k. search rules))

pub returns-clause-children : goal.returns-clause-children
returns-clause-children c = λ parent.
    children_are_sorted c.args.tree.now parent _ _ (c.in_ok-listed.ensures ∙ ap (children_of c.args.tree.now) (c.deref.ensures.value ∙ c.in_ok-ids.ensures))
    (c.in_ok-sort_by_key.ensures.stable (λ (child : Child). child.parent.0) (answers_always _ _ _ (λ f a r g h. search rules)))
