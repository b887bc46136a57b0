use Rattle.mum_exercise.proofs.Common.{on_ok_weaker}
use Rattle.mum_exercise.proofs.Alike.{counts_all}
use Rattle.mum_exercise.proofs.exercise.Course.count.Goals as goal

pub returns : goal.returns
returns c = on_ok_weaker c.take.result (counts_all c.args.seed c.args.rounds c.count_all.new.self c.take.new.self c.in_ok-count_all.ensures) c.take.ensures
