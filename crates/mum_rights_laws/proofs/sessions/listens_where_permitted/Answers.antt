use Rattle.mum_rights_laws.proofs.OwnLaws.{listens_where_permitted_lem}
use Rattle.mum_rights_laws.proofs.sessions.listens_where_permitted.Goals as goal

pub returns : goal.returns
returns c = listens_where_permitted_lem
