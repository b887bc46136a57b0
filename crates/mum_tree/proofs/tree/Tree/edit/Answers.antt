use Rattle.mum_tree.proofs.Common.{◌≡◌, ◌∙◌, ◌<◌, ℕ, true, List, Option, None, length, refl, ap, set, sym, subst, list_all, Channel, change_of, fault_of_edit, given_or, pairs_with_all, pairs_without_all, with_change, IsProper, Pair, TreeState, is_there, Row}
use Rattle.mum_tree.proofs.{Edited.edited, Edited.may_relink, Edited.same_given, Edited.MayRelink, Numbered.components_set, Numbered.numbered_as_seen, Numbered.pairs_seen, tree.Tree.edit.Goals.After-give-5, tree.Tree.edit.Goals.After-reserve}
use Rattle.mum_tree.proofs.tree.Tree.edit.Goals as goal

-- the tree as it was
abbrev before : After-give-5 → TreeState
before c = record { channels = c.self.inside.rows.items; links = c.self.inside.links.items; greatest = c.self.inside.greatest; limit = c.self.inside.limit }

allowed : (c : After-reserve) → fault_of_edit (record { channels = c.self.inside.rows.items; links = c.self.inside.links.items; greatest = c.self.inside.greatest; limit = c.self.inside.limit }) c.args.id (change_of c.args.change.now) ≡ None
allowed c = subst (λ (t : TreeState). fault_of_edit t c.args.id (change_of c.args.change.now) ≡ None) (sym c.self.view_is) (sym c.cause_against_editing.ensures ∙ c.in_default-cause_against_editing.is)

needs : (c : After-reserve) → MayRelink (record { channels = c.self.inside.rows.items; links = c.self.inside.links.items; greatest = c.self.inside.greatest; limit = c.self.inside.limit }) c.args.id (change_of c.args.change.now)
needs c = may_relink (record { channels = c.self.inside.rows.items; links = c.self.inside.links.items; greatest = c.self.inside.greatest; limit = c.self.inside.limit }) c.args.id (change_of c.args.change.now) (allowed c)

pub relink-requires-clause-pairs : goal.relink-requires-clause-pairs
relink-requires-clause-pairs c = pairs_seen _ _ _ _ c.deref-2.ensures.value c.reserve.ensures.items c.self.invariant.proper.joined.pairs

pub relink-requires-clause-numbered : goal.relink-requires-clause-numbered
relink-requires-clause-numbered c = rw (c.deref-2.ensures.value, c.reserve.ensures.items) c.self.invariant.numbered

pub relink-requires-clause-here : goal.relink-requires-clause-here
relink-requires-clause-here c = subst (λ (rows : List Row). is_there rows c.args.id ≡ true) (sym c.deref-2.ensures.value) (needs (goal.at.relink-requires-clause-here c).After-reserve).here

pub relink-requires-clause-added : goal.relink-requires-clause-added
relink-requires-clause-added c = subst (λ (rows : List Row). list_all (is_there rows) c.args.change.now.links_add.now ≡ true) (sym c.deref-2.ensures.value) (needs (goal.at.relink-requires-clause-added c).After-reserve).adds

pub relink-requires-clause-removed : goal.relink-requires-clause-removed
relink-requires-clause-removed c = subst (λ (rows : List Row). list_all (is_there rows) c.args.change.now.links_remove.now ≡ true) (sym c.deref-2.ensures.value) (needs (goal.at.relink-requires-clause-removed c).After-reserve).removes

pub relink-requires-clause-partners : goal.relink-requires-clause-partners
relink-requires-clause-partners c = rw (c.deref-2.ensures.value, c.reserve.ensures.items) (needs (goal.at.relink-requires-clause-partners c).After-reserve).partners

-- the tree as it is left
abbrev left : After-give-5 → TreeState
left c =
    let row = c.index_mut.result.now in
    let channel : Channel = record row.channel { name = c.give.new.place; parent = c.give-2.new.place; info = record { description = c.give-3.new.place; position = c.give-4.new.place; max_users = c.give-5.new.place } } in
    record { channels = set c.self.inside.rows.items c.in-Some.at (record row { channel = channel }); links = c.relink.new.links.items; greatest = c.self.inside.greatest; limit = c.self.inside.limit }

-- it is left as the definition says, and is a tree
done : (c : After-give-5) → (left c ≡ with_change (before c) c.args.id (change_of c.args.change.now)) × IsProper (with_change (before c) c.args.id (change_of c.args.change.now))
done c =
    let id = c.args.id in
    let change = change_of c.args.change.now in
    let row = c.index_mut.result.now in
    let allowed = subst (λ (t : TreeState). fault_of_edit t id change ≡ None) (sym c.self.view_is) (sym c.cause_against_editing.ensures ∙ c.in_default-cause_against_editing.is) in
    let made = same_given change row.channel c.give.new.place c.give-2.new.place c.give-3.new.place c.give-4.new.place c.give-5.new.place
    (c.give.ensures ∙ ap (λ (given : Option (List ℕ)). given_or given row.channel.name) (c.in_ok-name.ensures {u = tt}))
    c.give-2.ensures
    (c.give-3.ensures ∙ ap (λ (given : Option (List ℕ)). given_or given row.channel.info.description) (c.in_ok-description.ensures {u = tt}))
    c.give-4.ensures
    c.give-5.ensures in
    let links = c.relink.ensures.made ∙ ap (λ (ps : List Pair). pairs_without_all id change.links_remove (pairs_with_all id change.links_add ps)) c.reserve.ensures.items in
    edited (before c) c.deref.result.now c.in-Some.at id row _ change c.relink.new.links.items c.self.invariant.proper c.deref.ensures.value (c.in-Some.ensures {u = tt}) c.index_mut.ensures.value allowed made links

proper : (c : After-give-5) → IsProper (left c)
proper c = let (made, proper) = done c in subst IsProper (sym made) proper

pub invariant_of-self-2 : goal.invariant_of-self-2
invariant_of-self-2 c =
    let end = (goal.at.invariant_of-self-2 c).After-give-5 in
    let row = c.index_mut.result.now in
    let channel : Channel = record row.channel { name = c.give.new.place; parent = c.give-2.new.place; info = record { description = c.give-3.new.place; position = c.give-4.new.place; max_users = c.give-5.new.place } } in
    let numbered = numbered_as_seen c.self.inside.rows.items c.deref-2.result.now c.relink.new.links.items c.relink.new.links.items c.relink.new.numbers.items c.deref-2.ensures.value refl c.relink.ensures.numbered in
    record {
      proper = proper end;
      numbered =
          components_set c.self.inside.rows.items c.relink.new.links.items c.relink.new.numbers.items c.in-Some.at row (record row { channel = channel })
          (subst (λ (rows : List Row). c.in-Some.at < length rows) c.deref.ensures.value (c.in-Some.ensures {u = tt}).0)
          c.index_mut.ensures.value refl numbered;
    }

pub returns-clause-made : goal.returns-clause-made
returns-clause-made c =
    let end = (goal.at.returns-clause-made c).After-give-5 in
    (sym c.cause_against_editing.ensures ∙ c.in_default-cause_against_editing.is, (done end).0 ∙ ap (λ (t : TreeState). with_change t c.args.id (change_of c.args.change.now)) c.self.view_is)

pub returns-clause-proper : goal.returns-clause-proper
returns-clause-proper c = proper (goal.at.returns-clause-proper c).After-give-5
