use Rattle.mum_exercise.proofs.Common.{◌∙◌, on_ok_weaker}
use Rattle.mum_exercise.proofs.Takings.{delivers}
use Rattle.mum_exercise.proofs.exercise.Course.deliver.Goals as goal

pub returns : goal.returns
returns c =
    on_ok_weaker c.deliver_to.result
    (λ is. delivers c.args.worker c.args.self.now c.deliver_to.new.self c.deref.result.now (c.deref.ensures.value ∙ c.in_ok-audience.ensures) is)
    c.deliver_to.ensures
