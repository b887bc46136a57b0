use Rattle.mum_control.proofs.Common.{◌∙◌, ap, sym, current, ControlFacts}
use Rattle.mum_control.proofs.control.Control.into_state.Goals as goal

pub returns-clause-state : goal.returns-clause-state
returns-clause-state g c = c.into_state.ensures ∙ ap current c.self.view_is

pub returns-clause-opening : goal.returns-clause-opening
returns-clause-opening g c = sym (ap (λ (k : ControlFacts). k.publisher.opening) c.self.view_is) ∙ c.self.invariant.same_opening
