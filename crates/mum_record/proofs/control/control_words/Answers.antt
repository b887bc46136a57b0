use Rattle.mum_record.proofs.Common.{arith, common_steps}
use Rattle.mum_record.proofs.EntryLaws.{control_of-cut}
use Rattle.mum_record.proofs.control.control_words.Goals as goal

pub returns-in_err-command : goal.returns-in_err-command
returns-in_err-command c = rw c.from_residual-in_err-command.ensures (grind (arith, common_steps, control_of-cut))
