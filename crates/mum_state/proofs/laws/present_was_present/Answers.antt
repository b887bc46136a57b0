use Rattle.mum_state.proofs.Present.{present_was_present_lem}
use Rattle.mum_state.proofs.laws.present_was_present.Goals as goal

pub returns : goal.returns
returns c = present_was_present_lem
