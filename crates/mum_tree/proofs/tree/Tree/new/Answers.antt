use Rattle.mum_tree.proofs.{Numbered.made_numbered, Start.made_proper}
use Rattle.mum_tree.proofs.tree.Tree.new.Goals as goal

pub invariant_of-result : goal.invariant_of-result
invariant_of-result c = record {
  proper = made_proper _ _ _ _ _ c.new-rows.ensures.items (c.in_ok-push.ensures {u = tt}).items c.in_ok-of.ensures c.plain.ensures c.new.ensures.items;
  numbered = made_numbered _ _ _ _ _ c.new-rows.ensures.items (c.in_ok-push.ensures {u = tt}).items c.new.ensures.items ((c.in_ok-vec.ensures {u = tt}).items_if_clones_equal (λ y is. is));
}

pub returns-clause-proper : goal.returns-clause-proper
returns-clause-proper c =
    made_proper _ _ _ _ _ c.new-rows.ensures.items (c.in_ok-push.ensures {u = tt}).items c.in_ok-of.ensures c.plain.ensures c.new.ensures.items
