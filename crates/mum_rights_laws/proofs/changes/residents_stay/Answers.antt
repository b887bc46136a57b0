use Rattle.mum_rights_laws.proofs.ResidentLaws.{residents_stay_lem}
use Rattle.mum_rights_laws.proofs.changes.residents_stay.Goals as goal

pub returns : goal.returns
returns c = residents_stay_lem
