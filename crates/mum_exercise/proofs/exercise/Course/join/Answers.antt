use Rattle.mum_exercise.proofs.Common.{on_ok_weaker}
use Rattle.mum_exercise.proofs.Turns.{joins_by}
use Rattle.mum_exercise.proofs.exercise.Course.join.Goals as goal

pub returns : goal.returns
returns c =
    on_ok_weaker c.command.result
    (joins_by c.args.number c.worker_of-worker.result c.in_ok-bytes.bytes c.args.self.now c.take.new.self c.command.new.self c.in_ok-take.ensures c.worker_of-worker.ensures c.in_ok-bytes.ensures.frame)
    c.command.ensures
