use Rattle.mum_step_laws.proofs.ApartParts.{owners_apart}
use Rattle.mum_step_laws.proofs.apart.owners_are_apart.Goals as goal

pub returns : goal.returns
returns c = owners_apart
