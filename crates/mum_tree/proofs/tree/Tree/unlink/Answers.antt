use Rattle.mum_tree.proofs.Common.{◌≡◌, ◌∙◌, List, ap, sym, subst, rules, list_any, IsProper, Pair, TreeState, is_pair, pairs_without, without_link}
use Rattle.mum_tree.proofs.{Joined.links_parted, Joined.parted_none, Joined.relinked, Numbered.numbered_as_seen, Numbered.pairs_seen, tree.Tree.unlink.Goals.After-take_link}
use Rattle.mum_tree.proofs.tree.Tree.unlink.Goals as goal

-- the tree that is left
proper : (c : After-take_link) → IsProper (record { channels = c.self.inside.rows.items; links = c.take_link.new.links.items; greatest = c.self.inside.greatest; limit = c.self.inside.limit })
proper c =
    let tree : TreeState = record { channels = c.self.inside.rows.items; links = c.self.inside.links.items; greatest = c.self.inside.greatest; limit = c.self.inside.limit } in
    rw c.take_link.ensures.made (relinked tree (pairs_without c.args.a c.args.b tree.links) (links_parted tree.channels tree.links c.args.a c.args.b c.self.invariant.proper.joined) c.self.invariant.proper)

pub returns-then-not-has_link-clause-made : goal.returns-then-not-has_link-clause-made
returns-then-not-has_link-clause-made c =
    let a = c.args.a in
    let b = c.args.b in
    let links = c.self.inside.links.items in
    let left : List Pair → TreeState = λ ps. record { channels = c.self.inside.rows.items; links = ps; greatest = c.self.inside.greatest; limit = c.self.inside.limit } in
    let unlinked = ap (λ (ps : List Pair). list_any (is_pair a b) ps) (sym c.deref-2.ensures.value) ∙ sym c.has_link.ensures ∙ c.if-not-has_link.true in (
      search rules,
      subst (λ (t : TreeState). t ≡ without_link t a b) c.self.view_is (ap left (sym (parted_none links a b c.self.invariant.proper.joined.pairs.both unlinked))),
    )

pub number_components-requires-clause-pairs : goal.number_components-requires-clause-pairs
number_components-requires-clause-pairs c =
    pairs_seen _ _ _ _ c.deref-3.ensures.value c.deref-4.ensures.value (proper (goal.at.number_components-requires-clause-pairs c).After-take_link).joined.pairs

pub invariant_of-self : goal.invariant_of-self
invariant_of-self c = record {
  proper = proper (goal.at.invariant_of-self c).After-take_link;
  numbered = numbered_as_seen _ _ _ _ _ c.deref-3.ensures.value c.deref-4.ensures.value c.number_components.ensures;
}

pub returns-clause-proper : goal.returns-clause-proper
returns-clause-proper c = proper (goal.at.returns-clause-proper c).After-take_link
