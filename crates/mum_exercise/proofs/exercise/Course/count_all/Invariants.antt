use Rattle.mum_exercise.proofs.Common.{◌≡◌, IsAlike, progress}
use Rattle.mum_exercise.proofs.exercise.Course.count_all.Given as goal

abbrev pub invariant-loop-before : goal.invariant-loop-before
invariant-loop-before l = IsAlike l.self (progress l.seed l.before).course × (l.draws ≡ (progress l.seed l.before).draws)
