use Rattle.mum_state.proofs.Keeping.{keeps_proper_lem}
use Rattle.mum_state.proofs.laws.keeps_proper.Goals as goal

pub returns : goal.returns
returns c = keeps_proper_lem
