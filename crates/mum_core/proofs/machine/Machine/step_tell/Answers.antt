use Rattle.mum_core.proofs.Common.{Tell}
use Rattle.mum_core.proofs.Taken.{given_of}
use Rattle.mum_core.proofs.machine.Machine.step_tell.Goals as goal

pub returns : goal.returns
returns c =
    given_of c.args.self.now c.tell.new.self c.count_line.new.self (Tell c.args.connection c.args.note) c.in_ok-reported.reported _ c.in_ok-reported.ensures.gives c.tell.ensures c.count_line.ensures
