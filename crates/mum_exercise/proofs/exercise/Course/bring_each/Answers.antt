use Rattle.mum_exercise.proofs.Common.{◌∷◌, [], ◌∙◌, arith, SessionId, Collect, Post}
use Rattle.mum_exercise.proofs.Takings.{each_more}
use Rattle.mum_exercise.proofs.exercise.Course.bring_each.Goals as goal

pub loop-session-preserved : goal.loop-session-preserved
loop-session-preserved c =
    c.in_ok-bring.ensures
    ∙ each_more (λ (s : SessionId). Post ∷ Collect s.0 ∷ []) c.args.self.now c.loop-session.self c.args.recipients.now c.loop-session.session-index _ (omega arith) c.loop-session.invariant
