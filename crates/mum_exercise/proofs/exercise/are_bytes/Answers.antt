use Rattle.mum_exercise.proofs.Common.{arith}
use Rattle.mum_exercise.proofs.exercise.are_bytes.Goals as goal

pub returns : goal.returns
returns c = λ i. omega (arith, c.type_inv.bytes i)
