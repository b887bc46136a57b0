use Rattle.mum_why.proofs.Ranks.{reasons_are_first}
use Rattle.mum_why.proofs.laws.reasons_are_first.Goals as goal

pub returns : goal.returns
returns c = reasons_are_first
