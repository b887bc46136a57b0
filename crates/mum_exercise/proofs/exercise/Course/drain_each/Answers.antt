use Rattle.mum_exercise.proofs.Common.{◌∷◌, [], ◌∙◌, arith, SessionId, Drain}
use Rattle.mum_exercise.proofs.Takings.{each_more}
use Rattle.mum_exercise.proofs.exercise.Course.drain_each.Goals as goal

pub loop-session-preserved : goal.loop-session-preserved
loop-session-preserved c =
    c.in_ok-drain.ensures
    ∙ each_more (λ (s : SessionId). Drain s.0 ∷ []) c.args.self.now c.loop-session.self c.args.audience.now c.loop-session.session-index _ (omega arith) c.loop-session.invariant
