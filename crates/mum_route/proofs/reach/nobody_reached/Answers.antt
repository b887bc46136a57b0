use Rattle.mum_route.proofs.Known.{none_at}
use Rattle.mum_route.proofs.reach.nobody_reached.Goals as goal

pub returns-clause-nobody : goal.returns-clause-nobody
returns-clause-nobody c = λ place. none_at 512 place
