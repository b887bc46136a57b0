use Rattle.mum_route.proofs.Hearers.{route_of_silent}
use Rattle.mum_route.proofs.laws.silent_are_unheard.Goals as goal

pub returns : goal.returns
returns c = λ state speaker target user found silent. route_of_silent state speaker target user found silent
