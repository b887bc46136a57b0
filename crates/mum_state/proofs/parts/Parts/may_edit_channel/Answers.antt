use Rattle.mum_state.proofs.Common.{◌∙◌, true, Option, ap, sym, is_none, option_map_or, Change, change_of, fault_of_edit, TreeState, StateValue}
use Rattle.mum_state.proofs.Judged.{none_from}
use Rattle.mum_state.proofs.parts.Parts.may_edit_channel.Goals as goal

pub returns-in-Some : goal.returns-in-Some
returns-in-Some c =
    none_from c.is_none.result c.cause_against_editing.result (sym c.is_none.ensures)
    ∙ ap is_none (
    c.cause_against_editing.ensures
    ∙ ap (λ (t : TreeState). fault_of_edit t c.args.id (change_of c.in-Some.change)) c.tree.ensures.tree
    ∙ ap (λ (s : StateValue). fault_of_edit s.tree c.args.id (change_of c.in-Some.change)) c.self.view_is)
    ∙ ap (λ (o : Option Change). option_map_or (λ change. is_none (fault_of_edit c.args.self.now.tree c.args.id change)) o true) c.in-Some.ensures
