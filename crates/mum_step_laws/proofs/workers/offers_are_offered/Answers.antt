use Rattle.mum_step_laws.proofs.WorkerParts.{offers}
use Rattle.mum_step_laws.proofs.workers.offers_are_offered.Goals as goal

pub returns : goal.returns
returns c = offers
