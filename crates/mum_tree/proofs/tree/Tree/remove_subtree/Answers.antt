use Rattle.mum_tree.proofs.Common.{◌≡◌, ◌∙◌, ◌<◌, ◌&&◌, Bool, false, not, List, get_or, ap, sym, subst, None, rules, All, filter, eqb-false, filter_same, AllPairs-filter, Row, fault_of_remove, is_below, is_there, number, Rise, Pair, TreeState, without_rows, without_subtree, IsProper}
use Rattle.mum_tree.proofs.{Edits.may_go, Shrunk.filter_agree_at, Shrunk.shrunk_proper, Shrunk.stays, Numbered.numbered_as_seen, Numbered.pairs_seen, tree.Tree.remove_subtree.Goals.After-keep_ends}
use Rattle.mum_tree.proofs.tree.Tree.remove_subtree.Goals as goal

pub keep_ends-requires : goal.keep_ends-requires
keep_ends-requires c =
    let rows = c.self.inside.rows.items in
    let keeps : Row → Bool = λ row. not (get_or c.places_below.new.below row.place false) in
    let kept = filter_same _ keeps _ (λ x b f k. search rules) rows c.retain.new.self.items c.retain.ensures.filtered in
    subst Rise (sym (c.deref-2.ensures.value ∙ kept)) (AllPairs-filter (λ (one : Row) (later : Row). number one < number later) keeps rows c.self.invariant.proper.rise)

-- the tree that is left
proper : (c : After-keep_ends) → IsProper (record { channels = c.retain.new.self.items; links = c.keep_ends.new.links.items; greatest = c.self.inside.greatest; limit = c.self.inside.limit })
proper c =
    let rows = c.self.inside.rows.items in
    let tree : TreeState = record { channels = rows; links = c.self.inside.links.items; greatest = c.self.inside.greatest; limit = c.self.inside.limit } in
    let allowed = subst (λ (t : TreeState). fault_of_remove t c.args.id ≡ None) (sym c.self.view_is) (sym c.cause_against_removing.ensures ∙ c.in_default.is) in
    let keeps : Row → Bool = λ row. not (get_or c.places_below.new.below row.place false) in
    let kept = filter_same _ keeps _ (λ x b f k. search rules) rows c.retain.new.self.items c.retain.ensures.filtered in
    let marks = subst (λ (seen : List Row). All (λ row. get_or c.places_below.new.below row.place false ≡ is_below seen c.args.id row.channel.id) seen) c.deref.ensures.value c.places_below.ensures.value in
    let same = filter_agree_at keeps (stays rows c.args.id) rows (λ k d within. ap not (marks k d within)) in
    let left = subst (λ (seen : List Row). c.keep_ends.new.links.items ≡ filter (λ (pair : Pair). is_there seen pair.0 && is_there seen pair.1) tree.links) (c.deref-2.ensures.value ∙ kept ∙ same) c.keep_ends.ensures in
    rw (kept ∙ same) (shrunk_proper tree c.args.id c.keep_ends.new.links.items c.self.invariant.proper (eqb-false c.args.id.0 0 (may_go tree c.args.id allowed).1) left)

pub number_components-requires-clause-rise : goal.number_components-requires-clause-rise
number_components-requires-clause-rise c = subst Rise (sym c.deref-3.ensures.value) (proper (goal.at.number_components-requires-clause-rise c).After-keep_ends).rise

pub number_components-requires-clause-pairs : goal.number_components-requires-clause-pairs
number_components-requires-clause-pairs c =
    pairs_seen _ _ _ _ c.deref-3.ensures.value c.deref-4.ensures.value (proper (goal.at.number_components-requires-clause-pairs c).After-keep_ends).joined.pairs

pub invariant_of-self : goal.invariant_of-self
invariant_of-self c = record {
  proper = proper (goal.at.invariant_of-self c).After-keep_ends;
  numbered = numbered_as_seen _ _ _ _ _ c.deref-3.ensures.value c.deref-4.ensures.value c.number_components.ensures;
}

pub returns-clause-made : goal.returns-clause-made
returns-clause-made c =
    let rows = c.self.inside.rows.items in
    let tree : TreeState = record { channels = rows; links = c.self.inside.links.items; greatest = c.self.inside.greatest; limit = c.self.inside.limit } in
    let allowed = subst (λ (t : TreeState). fault_of_remove t c.args.id ≡ None) (sym c.self.view_is) (sym c.cause_against_removing.ensures ∙ c.in_default.is) in
    let keeps : Row → Bool = λ row. not (get_or c.places_below.new.below row.place false) in
    let kept = filter_same _ keeps _ (λ x b f k. search rules) rows c.retain.new.self.items c.retain.ensures.filtered in
    let marks = subst (λ (seen : List Row). All (λ row. get_or c.places_below.new.below row.place false ≡ is_below seen c.args.id row.channel.id) seen) c.deref.ensures.value c.places_below.ensures.value in
    let same = filter_agree_at keeps (stays rows c.args.id) rows (λ k d within. ap not (marks k d within)) in
    let left : TreeState = record { channels = c.retain.new.self.items; links = c.keep_ends.new.links.items; greatest = tree.greatest; limit = tree.limit } in
    let links = subst (λ (seen : List Row). c.keep_ends.new.links.items ≡ filter (λ (pair : Pair). is_there seen pair.0 && is_there seen pair.1) tree.links) c.deref-2.ensures.value c.keep_ends.ensures in
    let done : left ≡ without_rows tree c.retain.new.self.items = ap (λ (ps : List Pair). record { channels = c.retain.new.self.items; links = ps; greatest = tree.greatest; limit = tree.limit }) links in (
      sym c.cause_against_removing.ensures ∙ c.in_default.is,
      subst (λ (t : TreeState). left ≡ without_subtree t c.args.id) c.self.view_is (done ∙ ap (without_rows tree) (kept ∙ same)),
    )

pub returns-clause-proper : goal.returns-clause-proper
returns-clause-proper c = proper (goal.at.returns-clause-proper c).After-keep_ends
