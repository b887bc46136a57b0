use Rattle.mum_pace.proofs.Common.{arith}
use Rattle.mum_pace.proofs.Arriving.{all_come_in}
use Rattle.mum_pace.proofs.laws.arrivals_are_within_the_rate.Goals as goal

pub returns : goal.returns
returns c = λ rate state times few fits come. omega (arith, all_come_in rate few times state fits come)
