use Rattle.mum_state.proofs.Common.{◌∙◌, ◌&&◌, ◌==◌, ap, sym, list_any, has_number, enters, StateValue}
use Rattle.mum_state.proofs.Members.{any_found, any_missing}
use Rattle.mum_state.proofs.parts.Parts.slot_entering.Goals as goal

pub returns-in-Some : goal.returns-in-Some
returns-in-Some c = λ slot.
    c.slot_if.ensures slot
    ∙ ap (λ b. (c.in-Some.user.now.slot.0 == slot) && b) c.enters.ensures
    ∙ sym (any_found c.args.session (λ one. (one.slot.0 == slot) && enters c.args.channel one) c.self.inside.roster.sessions c.in-Some.ensures.proper.numbers c.in-Some.user.now (sym c.in-Some.ensures.row))
    ∙ ap (λ (s : StateValue). list_any (λ one. has_number c.args.session one && ((one.slot.0 == slot) && enters c.args.channel one)) s.roster.sessions) c.self.view_is

pub returns-in-None : goal.returns-in-None
returns-in-None c = λ slot.
    sym (any_missing c.args.session (λ one. (one.slot.0 == slot) && enters c.args.channel one) c.self.inside.roster.sessions (sym c.in-None.ensures.row))
    ∙ ap (λ (s : StateValue). list_any (λ one. has_number c.args.session one && ((one.slot.0 == slot) && enters c.args.channel one)) s.roster.sessions) c.self.view_is
