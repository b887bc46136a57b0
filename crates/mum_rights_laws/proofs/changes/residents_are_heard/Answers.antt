use Rattle.mum_rights_laws.proofs.ResidentLaws.{residents_are_heard_lem}
use Rattle.mum_rights_laws.proofs.changes.residents_are_heard.Goals as goal

pub returns : goal.returns
returns c = residents_are_heard_lem
