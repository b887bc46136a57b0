use Rattle.mum_step_laws.proofs.ApartParts.{workers_apart}
use Rattle.mum_step_laws.proofs.apart.workers_are_apart.Goals as goal

pub returns : goal.returns
returns c = workers_apart
