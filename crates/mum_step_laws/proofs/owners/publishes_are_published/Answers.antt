use Rattle.mum_step_laws.proofs.OwnerParts.{publishes}
use Rattle.mum_step_laws.proofs.owners.publishes_are_published.Goals as goal

pub returns : goal.returns
returns g c = publishes
