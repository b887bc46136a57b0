use Rattle.mum_core.proofs.Taken.{done_of}
use Rattle.mum_core.proofs.machine.Machine.take.Goals as goal

pub returns-clause-settled : goal.returns-clause-settled
returns-clause-settled c =
    let changed = c.in_ok-change.ensures.settled in
    (changed.0, done_of c.args.self.now c.change.new.self c.count_line.new.self c.args.step.now changed.1 c.count_line.ensures)
