use Rattle.mum_record.proofs.Common.{common_steps, arith, copy_word}
use Rattle.mum_record.proofs.entry.push_copy.Goals as goal

pub returns-clause-text : goal.returns-clause-text
unfolding copy_word
returns-clause-text c = grind (arith, common_steps)
