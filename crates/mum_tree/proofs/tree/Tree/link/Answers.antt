use Rattle.mum_tree.proofs.Common.{◌≡◌, ◌∙◌, List, ap, sym, subst, None, list_any, IsProper, fault_of_link, Pair, TreeState, is_pair, with_pair}
use Rattle.mum_tree.proofs.{Linking.links_grown, Joined.relinked, Numbered.numbered_as_seen, Numbered.pairs_seen, tree.Tree.link.Goals.After-put_link}
use Rattle.mum_tree.proofs.tree.Tree.link.Goals as goal

-- the tree as it was, with these links
abbrev with_links : After-put_link → List Pair → TreeState
with_links c links = record { channels = c.self.inside.rows.items; links = links; greatest = c.self.inside.greatest; limit = c.self.inside.limit }

proper : (c : After-put_link) → IsProper (with_links c c.put_link.new.links.items)
proper c =
    let a = c.args.a in
    let b = c.args.b in
    let tree = with_links c c.self.inside.links.items in
    let made = c.put_link.ensures.made ∙ ap (λ (ps : List Pair). with_pair b a (with_pair a b ps)) c.reserve.ensures.items in
    let unlinked = ap (λ (ps : List Pair). list_any (is_pair a b) ps) (sym c.deref.ensures.value) ∙ sym c.has_link.ensures ∙ c.if-has_link.false in
    let allowed = subst (λ (t : TreeState). fault_of_link t a b ≡ None) (sym c.self.view_is) (sym c.cause_against_linking.ensures ∙ c.in_default.is) in
    subst (λ (links : List Pair). IsProper (with_links c links)) (sym made) (relinked tree (with_pair b a (with_pair a b tree.links)) (links_grown tree a b c.self.invariant.proper allowed c.if-a-b.false unlinked) c.self.invariant.proper)

pub number_components-requires-clause-pairs : goal.number_components-requires-clause-pairs
number_components-requires-clause-pairs c =
    pairs_seen _ _ _ _ c.deref-2.ensures.value c.deref-3.ensures.value (proper (goal.at.number_components-requires-clause-pairs c).After-put_link).joined.pairs

pub invariant_of-self-2 : goal.invariant_of-self-2
invariant_of-self-2 c = record { proper = proper (goal.at.invariant_of-self-2 c).After-put_link; numbered = numbered_as_seen _ _ _ _ _ c.deref-2.ensures.value c.deref-3.ensures.value c.number_components.ensures }

pub returns-clause-proper : goal.returns-clause-proper
returns-clause-proper c = proper (goal.at.returns-clause-proper c).After-put_link
