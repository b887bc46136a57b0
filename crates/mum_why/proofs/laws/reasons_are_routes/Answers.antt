use Rattle.mum_why.proofs.Routed.{reasons_are_routes}
use Rattle.mum_why.proofs.laws.reasons_are_routes.Goals as goal

pub returns : goal.returns
returns c = reasons_are_routes
