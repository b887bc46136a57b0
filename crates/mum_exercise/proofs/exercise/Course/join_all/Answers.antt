use Rattle.mum_exercise.proofs.Common.{joined}
use Rattle.mum_exercise.proofs.Turns.{joins_more}
use Rattle.mum_exercise.proofs.exercise.Course.join_all.Goals as goal

pub loop-before-init : goal.loop-before-init
unfolding joined
loop-before-init c = c.requires

pub loop-before-preserved : goal.loop-before-preserved
loop-before-preserved c = joins_more c.loop-before.before c.loop-before.self c.join.new.self c.loop-before.invariant c.in_ok-join.ensures
