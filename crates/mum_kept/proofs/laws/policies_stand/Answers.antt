use Rattle.mum_kept.proofs.Standing.{policies_stand_lem}
use Rattle.mum_kept.proofs.laws.policies_stand.Goals as goal

pub returns : goal.returns
returns c = policies_stand_lem
