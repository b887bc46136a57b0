use Rattle.mum_recording_laws.proofs.Standing.{orderly_lem}
use Rattle.mum_recording_laws.proofs.laws.orderly_runs_are_in_order.Goals as goal

pub returns : goal.returns
returns c = orderly_lem
