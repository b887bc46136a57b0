use Rattle.mum_rights_laws.proofs.SessionLaws.{suppression_is_ruled_where_permitted_lem}
use Rattle.mum_rights_laws.proofs.sessions.suppression_is_ruled_where_permitted.Goals as goal

pub returns : goal.returns
returns c = suppression_is_ruled_where_permitted_lem
