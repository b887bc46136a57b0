use Rattle.mum_core.proofs.Common.{◌∙◌, ap, IfOk-weaker, Version, StateValue, start, version_of}
use Rattle.mum_core.proofs.cached.Core.open.Goals as goal

pub returns-clause-state : goal.returns-clause-state
returns-clause-state c =
    IfOk-weaker c.begin.result _ _
    (λ core is.
    is
    ∙ ap (λ (version : Version). start version c.in_ok-state_after.field-0 c.args.workers) c.version_of.ensures
    ∙ ap (λ (state : StateValue). start (version_of c.args.edits.now) state c.args.workers) c.in_ok-state_after.ensures)
    c.begin.ensures.state
