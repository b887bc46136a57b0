use Rattle.mum_rights_laws.proofs.SessionLaws.{moves_are_permitted_lem}
use Rattle.mum_rights_laws.proofs.sessions.moves_are_permitted.Goals as goal

pub returns : goal.returns
returns c = moves_are_permitted_lem
