use Rattle.mum_control.proofs.Common.{◌≡◌, ◌∙◌, IfOk, ap, subst, StateValue, FitsWhereAccepted, verdict, current}
use Rattle.mum_control.proofs.control.Control.decide.Goals as goal

pub returns-clause-verdict : goal.returns-clause-verdict
returns-clause-verdict g c =
    subst (λ (s : StateValue). IfOk c.decide.result (λ d. d ≡ verdict s c.args.session c.args.what.now))
    (c.latest.ensures ∙ ap current c.self.view_is) c.decide.ensures.verdict

pub returns-clause-fits : goal.returns-clause-fits
returns-clause-fits g c =
    subst (λ (s : StateValue). IfOk c.decide.result (FitsWhereAccepted s))
    (c.latest.ensures ∙ ap current c.self.view_is) c.decide.ensures.fits
