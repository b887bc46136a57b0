use Rattle.mum_state.proofs.Numbers.{numbers_never_fall_lem}
use Rattle.mum_state.proofs.laws.numbers_never_fall.Goals as goal

pub returns : goal.returns
returns c = numbers_never_fall_lem
