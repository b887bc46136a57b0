use Rattle.mum_tree.proofs.Common.{◌≡◌, ◌∙◌, ◌<◌, ℕ, List, refl, ap, sym, subst, All, Row, has_place, IsFree, TreeState}
use Rattle.mum_tree.proofs.{Limited.placed_within, Places.marks_had}
use Rattle.mum_tree.proofs.tree.Tree.taken_places.Goals as goal

pub returns-clause-taken : goal.returns-clause-taken
returns-clause-taken c = λ place.
    let rows : List Row = c.self.inside.rows.items in
    let same : c.deref.result.now ≡ rows = c.deref.ensures.value in
    let places_fit : All (λ (row : Row). row.place < 2048) rows = placed_within _ _ refl c.self.invariant.proper in
    marks_had rows c.taken_places.new.taken
    (subst (λ (n : ℕ). All (λ (row : Row). row.place < n) rows) (sym c.taken_places.ensures.length) places_fit)
    (λ place within free. subst (λ (rs : List Row). IsFree rs place) same (c.taken_places.ensures.free place (subst (λ (n : ℕ). place < n) c.taken_places.ensures.length within) free))
    (λ place marked free. c.taken_places.ensures.taken place marked (subst (λ (rs : List Row). IsFree rs place) (sym same) free))
    place
    ∙ ap (λ (t : TreeState). has_place t.channels place) c.self.view_is
