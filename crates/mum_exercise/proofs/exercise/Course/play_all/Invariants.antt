use Rattle.mum_exercise.proofs.Common.{◌≡◌, progress}
use Rattle.mum_exercise.proofs.exercise.Course.play_all.Given as goal

abbrev pub invariant-loop-before : goal.invariant-loop-before
invariant-loop-before l = (l.self ≡ (progress l.seed l.before).course) × (l.draws ≡ (progress l.seed l.before).draws)
