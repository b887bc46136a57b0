use Rattle.mum_step_laws.proofs.WorkerTurns.{workers}
use Rattle.mum_step_laws.proofs.turns.a_worker_is_a_worker_of_the_core.Goals as goal

pub returns : goal.returns
returns g c = workers g.L.Link.facts
