use Rattle.mum_control.proofs.Common.{◌∙◌, ap, StateValue, current, next_slot}
use Rattle.mum_control.proofs.control.Control.next_slot.Goals as goal

pub returns : goal.returns
returns g c =
    c.next_slot.ensures ∙ ap (λ (s : StateValue). next_slot s) (c.latest.ensures ∙ ap current c.self.view_is)
