use Rattle.mum_state.proofs.Granted.{permissions_stand_lem}
use Rattle.mum_state.proofs.laws.permissions_stand.Goals as goal

pub returns : goal.returns
returns c = permissions_stand_lem
