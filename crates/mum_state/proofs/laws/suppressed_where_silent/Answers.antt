use Rattle.mum_state.proofs.Silent.{suppressed_where_silent_lem}
use Rattle.mum_state.proofs.laws.suppressed_where_silent.Goals as goal

pub returns : goal.returns
returns c = suppressed_where_silent_lem
