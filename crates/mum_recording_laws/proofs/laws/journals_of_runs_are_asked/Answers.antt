use Rattle.mum_recording_laws.proofs.Ordered.{journals_asked_lem}
use Rattle.mum_recording_laws.proofs.laws.journals_of_runs_are_asked.Goals as goal

pub returns : goal.returns
returns c = journals_asked_lem
