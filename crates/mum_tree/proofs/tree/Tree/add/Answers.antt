use Rattle.mum_tree.proofs.Common.{◌≡◌, ◌<◌, ◌∙◌, List, length, arith, ap, sym, subst, None, Row, IsProper, fault_of_add, least_place, TreeState}
use Rattle.mum_tree.proofs.{Edits.added_proper, Numbered.grown_numbered, tree.Tree.add.Goals.In_ok-push}
use Rattle.mum_tree.proofs.tree.Tree.add.Goals as goal

proper : (c : In_ok-push) → IsProper (record { channels = c.push.new.self.items; links = c.self.inside.links.items; greatest = c.args.id.0; limit = c.self.inside.limit })
proper c =
    let tree : TreeState = record { channels = c.self.inside.rows.items; links = c.self.inside.links.items; greatest = c.self.inside.greatest; limit = c.self.inside.limit } in
    let above = subst (λ (t : TreeState). t.greatest < c.args.id.0) (sym c.self.view_is) c.requires in
    let allowed = subst (λ (t : TreeState). fault_of_add t c.args.id c.args.parent c.args.name.now ≡ None) (sym c.self.view_is) (sym c.cause_against_adding.ensures ∙ c.in_default.is) in
    let least = c.least_free_place-place.ensures.least ∙ ap (λ (rows : List Row). least_place rows) c.deref.ensures.value in
    let done = added_proper tree c.least_free_place-place.result c.args.id c.args.parent c.args.name.now c.in_ok-of.field-0 c.args.temporary c.plain.result c.self.invariant.proper above allowed c.in_ok-of.ensures c.plain.ensures least in
    rw (c.in_ok-push.ensures {u = tt}).items (rw done.0 done.1)

pub invariant_of-self-2 : goal.invariant_of-self-2
invariant_of-self-2 c =
    let end = (goal.at.invariant_of-self-2 c).In_ok-push in
    record {
      proper = proper end;
      numbered =
          grown_numbered _ _ _ _ _ _ _ _ c.self.inside.greatest (c.in_ok-push.ensures {u = tt}).items (c.in_ok-reserve.ensures {u = tt}).items c.push_reserved.ensures.items
          (omega (arith, c.len-component.ensures, c.deref.ensures.len, ap (λ (rows : List Row). length rows) c.deref.ensures.value))
          c.self.invariant.proper.joined.pairs c.self.invariant.proper.known
          (subst (λ (t : TreeState). t.greatest < c.args.id.0) (sym c.self.view_is) c.requires) c.self.invariant.numbered;
    }

pub returns-clause-proper : goal.returns-clause-proper
returns-clause-proper c = proper (goal.at.returns-clause-proper c).In_ok-push
