use Rattle.mum_step_laws.proofs.WorkerRunning.{steps_are}
use Rattle.mum_step_laws.proofs.turns.worker_steps_are_steps.Goals as goal

pub returns : goal.returns
returns c = steps_are
