use Rattle.mum_rights_laws.proofs.SessionLaws.{speech_is_ruled_where_permitted_lem}
use Rattle.mum_rights_laws.proofs.sessions.speech_is_ruled_where_permitted.Goals as goal

pub returns : goal.returns
returns c = speech_is_ruled_where_permitted_lem
