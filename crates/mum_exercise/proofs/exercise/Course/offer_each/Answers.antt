use Rattle.mum_exercise.proofs.Common.{◌∙◌, Offer}
use Rattle.mum_exercise.proofs.Takings.{repeat_more}
use Rattle.mum_exercise.proofs.exercise.Course.offer_each.Goals as goal

pub loop-copy-preserved : goal.loop-copy-preserved
loop-copy-preserved c = c.in_ok-take.ensures ∙ repeat_more c.loop-copy._copy c.args.self.now c.loop-copy.self (Offer c.args.worker) c.loop-copy.invariant
