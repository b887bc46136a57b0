use Rattle.mum_exercise.proofs.Common.{◌≡◌, joined}
use Rattle.mum_exercise.proofs.exercise.Course.join_all.Given as goal

abbrev pub invariant-loop-before : goal.invariant-loop-before
invariant-loop-before l = l.self ≡ joined l.before
