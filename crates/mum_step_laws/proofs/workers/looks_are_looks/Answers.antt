use Rattle.mum_step_laws.proofs.WorkerParts.{looks}
use Rattle.mum_step_laws.proofs.workers.looks_are_looks.Goals as goal

pub returns : goal.returns
returns c = looks
