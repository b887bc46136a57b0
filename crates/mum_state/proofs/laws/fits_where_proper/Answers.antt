use Rattle.mum_state.proofs.Keeping.{fits_where_proper_lem}
use Rattle.mum_state.proofs.laws.fits_where_proper.Goals as goal

pub returns : goal.returns
returns c = fits_where_proper_lem
