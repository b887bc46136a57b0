use Rattle.mum_record.proofs.Common.{arith, common_steps}
use Rattle.mum_record.proofs.EntryLaws.{entry_of-cut}
use Rattle.mum_record.proofs.entry.entry_in.Goals as goal

pub returns-in_err-mark : goal.returns-in_err-mark
returns-in_err-mark c = grind (arith, common_steps, entry_of-cut)
