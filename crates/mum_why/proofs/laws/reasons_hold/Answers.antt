use Rattle.mum_why.proofs.Holding.{reasons_hold}
use Rattle.mum_why.proofs.laws.reasons_hold.Goals as goal

pub returns : goal.returns
returns c = reasons_hold
