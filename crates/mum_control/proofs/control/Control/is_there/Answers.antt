use Rattle.mum_control.proofs.Common.{◌∙◌, ap, StateValue, current, is_there}
use Rattle.mum_control.proofs.control.Control.is_there.Goals as goal

pub returns : goal.returns
returns g c =
    c.is_there.ensures.there ∙ ap (λ (s : StateValue). is_there s c.args.session) (c.latest.ensures ∙ ap current c.self.view_is)
