use Rattle.mum_control.proofs.Common.{◌∙◌, None, ap, refl, ControlFacts}
use Rattle.mum_control.proofs.Settling.{reply_so}
use Rattle.mum_control.proofs.control.Control.refuse.Goals as goal

pub returns : goal.returns
returns g c = (
  ap (λ (old : ControlFacts). record old { mark = None }) c.self.view_is,
  c.new.ensures ∙ reply_so _ _ _ _ _ _ _ _ _ _ _ _ refl refl refl c.no_bytes-wire.ensures refl c.roll-roll.ensures.log,
)
