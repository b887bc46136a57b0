use Rattle.std.proofs.Common.{◌∙◌, ◌∷◌, ◌++◌, [], List, ap}
use Rattle.mum_state.specs.declared.edit.Edit.{Edit}
use Rattle.mum_history.proofs.Fronts.{kept_on}
use Rattle.mum_history.proofs.history.HistoryEditList.append.Goals as goal

pub invariant_of-self : goal.invariant_of-self
invariant_of-self c =
    kept_on c.self.inside.opening c.self.inside.accepted.items c.push_reserved.new.self.items c.self.inside.published c.self.inside.twin c.go_on.new.self c.args.edit
    c.self.invariant
    (c.push_reserved.ensures.items ∙ ap (λ (xs : List Edit). xs ++ c.args.edit ∷ []) c.in-Ok.ensures.items)
    (rw (← c.self.view_is) at c.requires.fits)
    (c.go_on.ensures ∙ (rw (← c.self.view_is) at c.requires.next))
