use Rattle.mum_laws.proofs.Finding.{found_is_offered}
use Rattle.mum_laws.proofs.copies.offers_are_what_looks_found.Goals as goal

pub returns : goal.returns
returns c = found_is_offered
