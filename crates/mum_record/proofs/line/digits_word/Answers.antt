use Rattle.mum_record.proofs.Common.{arith}
use Rattle.mum_record.proofs.line.digits_word.Goals as goal

pub returns-clause-fits : goal.returns-clause-fits
returns-clause-fits c = λ i. omega (arith, c.type_inv.bytes i)
