use Rattle.mum_pace.proofs.Kept.{kept}
use Rattle.mum_pace.proofs.laws.pace_is_kept.Goals as goal

pub returns-clause-then : goal.returns-clause-then
returns-clause-then c = kept
