use Rattle.mum_kept_laws.proofs.KeptAgain.{rebuild_fits_lem}
use Rattle.mum_kept_laws.proofs.laws.rebuild_fits.Goals as goal

pub returns : goal.returns
returns c = rebuild_fits_lem
