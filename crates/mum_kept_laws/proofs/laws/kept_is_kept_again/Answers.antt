use Rattle.mum_kept_laws.proofs.KeptLaws.{kept_is_kept_again_lem}
use Rattle.mum_kept_laws.proofs.laws.kept_is_kept_again.Goals as goal

pub returns : goal.returns
returns c = kept_is_kept_again_lem
