use Rattle.mum_route.proofs.Known.{none_at}
use Rattle.mum_route.proofs.cover.nothing_known.Goals as goal

pub returns-clause-nothing : goal.returns-clause-nothing
returns-clause-nothing c = λ place. none_at 2048 place
