use Rattle.mum_route.proofs.Inputs.{route_is_of_its_inputs_lem}
use Rattle.mum_route.proofs.laws.route_is_of_its_inputs.Goals as goal

pub returns : goal.returns
returns c = route_is_of_its_inputs_lem
