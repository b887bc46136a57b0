use Rattle.mum_kept_laws.proofs.KeptAgain.{rebuilt_is_kept_lem}
use Rattle.mum_kept_laws.proofs.laws.rebuilt_is_kept.Goals as goal

pub returns : goal.returns
returns c = rebuilt_is_kept_lem
