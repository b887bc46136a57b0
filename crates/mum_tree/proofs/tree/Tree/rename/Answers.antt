use Rattle.mum_tree.proofs.Common.{◌≡◌, ◌<◌, ◌∙◌, List, length, refl, ap, sym, subst, set, None, Row, AreComponents, IsProper, fault_of_rename, TreeState, changed, with_channel}
use Rattle.mum_tree.proofs.{Edits.named, Edits.renaming, Numbered.components_set, tree.Tree.rename.Goals.After-index_mut-row}
use Rattle.mum_tree.proofs.tree.Tree.rename.Goals as goal

-- the tree as it was
abbrev before : After-index_mut-row → TreeState
before c = record { channels = c.self.inside.rows.items; links = c.self.inside.links.items; greatest = c.self.inside.greatest; limit = c.self.inside.limit }

-- the rows as they are left
abbrev left : After-index_mut-row → List Row
left c = set c.self.inside.rows.items c.in-Some.at (record c.index_mut-row.result.now { channel = named c.in_ok-name.name c.index_mut-row.result.now.channel })

allowed : (c : After-index_mut-row) → fault_of_rename (before c) c.args.id c.args.name.now ≡ None
allowed c = subst (λ (t : TreeState). fault_of_rename t c.args.id c.args.name.now ≡ None) (sym c.self.view_is) (sym c.cause_against_renaming.ensures ∙ c.in_default-cause_against_renaming.is)

done : (c : After-index_mut-row) → (left c ≡ changed c.args.id (named c.args.name.now) c.self.inside.rows.items) × IsProper (with_channel (before c) c.args.id (named c.args.name.now))
done c = renaming (before c) _ c.in-Some.at c.args.id c.index_mut-row.result.now c.args.name.now c.in_ok-name.name c.self.invariant.proper c.deref.ensures.value (c.in-Some.ensures {u = tt}) c.index_mut-row.ensures.value (allowed c) (c.in_ok-name.ensures {u = tt})

-- the tree with these rows
abbrev with_rows : After-index_mut-row → List Row → TreeState
with_rows c rows = record { channels = rows; links = c.self.inside.links.items; greatest = c.self.inside.greatest; limit = c.self.inside.limit }

proper : (c : After-index_mut-row) → IsProper (with_rows c (left c))
proper c = let (made, proper) = done c in subst (λ (rows : List Row). IsProper (with_rows c rows)) (sym made) proper

numbered : (c : After-index_mut-row) → AreComponents (left c) c.self.inside.links.items c.self.inside.components.items
numbered c =
    components_set c.self.inside.rows.items c.self.inside.links.items c.self.inside.components.items c.in-Some.at c.index_mut-row.result.now
    (record c.index_mut-row.result.now { channel = named c.in_ok-name.name c.index_mut-row.result.now.channel })
    (subst (λ (rows : List Row). c.in-Some.at < length rows) c.deref.ensures.value (c.in-Some.ensures {u = tt}).0)
    c.index_mut-row.ensures.value refl c.self.invariant.numbered

pub invariant_of-self : goal.invariant_of-self
invariant_of-self c =
    let end = (goal.at.invariant_of-self c).After-index_mut-row in
    record { proper = proper end; numbered = numbered end }

pub returns-clause-made : goal.returns-clause-made
returns-clause-made c =
    let end = (goal.at.returns-clause-made c).After-index_mut-row in
    subst (λ (t : TreeState). (fault_of_rename t c.args.id c.args.name.now ≡ None) × (with_rows end (left end) ≡ with_channel t c.args.id (named c.args.name.now))) c.self.view_is
    (allowed end, ap (with_rows end) (done end).0)

pub returns-clause-proper : goal.returns-clause-proper
returns-clause-proper c = proper (goal.at.returns-clause-proper c).After-index_mut-row
