use Rattle.mum_state.proofs.Common.{◌∙◌, ◌&&◌, ◌==◌, ap, sym, list_any, has_number, StateValue}
use Rattle.mum_state.proofs.Members.{any_found, any_missing}
use Rattle.mum_state.proofs.parts.Parts.slot_of.Goals as goal

pub returns-in-Some : goal.returns-in-Some
returns-in-Some c = λ slot.
    sym (any_found c.args.session (λ one. one.slot.0 == slot) c.self.inside.roster.sessions c.in-Some.ensures.proper.numbers c.in-Some.user.now (sym c.in-Some.ensures.row))
    ∙ ap (λ (s : StateValue). list_any (λ one. has_number c.args.session one && (one.slot.0 == slot)) s.roster.sessions) c.self.view_is

pub returns-in-None : goal.returns-in-None
returns-in-None c = λ slot.
    sym (any_missing c.args.session (λ one. one.slot.0 == slot) c.self.inside.roster.sessions (sym c.in-None.ensures.row))
    ∙ ap (λ (s : StateValue). list_any (λ one. has_number c.args.session one && (one.slot.0 == slot)) s.roster.sessions) c.self.view_is
