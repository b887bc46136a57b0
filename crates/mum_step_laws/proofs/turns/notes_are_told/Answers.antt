use Rattle.mum_step_laws.proofs.WorkerRunning.{notes}
use Rattle.mum_step_laws.proofs.turns.notes_are_told.Goals as goal

pub returns : goal.returns
returns c = notes
