use Rattle.mum_exercise.proofs.Common.{◌∙◌, on_ok_weaker}
use Rattle.mum_exercise.proofs.Takings.{informs}
use Rattle.mum_exercise.proofs.exercise.Course.inform.Goals as goal

pub returns : goal.returns
returns c =
    on_ok_weaker c.bring_each.result
    (λ is. informs c.args.self.now c.bring_each.new.self c.deref.result.now (c.deref.ensures.value ∙ c.in_ok-recipients.ensures) is)
    c.bring_each.ensures
