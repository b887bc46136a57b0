use Rattle.mum_state.proofs.Routes.{routes_stand_lem}
use Rattle.mum_state.proofs.laws.routes_stand.Goals as goal

pub returns : goal.returns
returns c = routes_stand_lem
