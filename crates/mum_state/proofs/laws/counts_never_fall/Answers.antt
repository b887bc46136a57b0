use Rattle.mum_state.proofs.Counting.{counts_never_fall_lem}
use Rattle.mum_state.proofs.laws.counts_never_fall.Goals as goal

pub returns : goal.returns
returns c = counts_never_fall_lem
