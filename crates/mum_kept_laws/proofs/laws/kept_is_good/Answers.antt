use Rattle.mum_kept_laws.proofs.KeptLaws.{kept_is_good_lem}
use Rattle.mum_kept_laws.proofs.laws.kept_is_good.Goals as goal

pub returns : goal.returns
returns c = kept_is_good_lem
