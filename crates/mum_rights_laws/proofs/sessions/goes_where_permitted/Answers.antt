use Rattle.mum_rights_laws.proofs.SessionLaws.{bans_where_permitted_lem, goes_where_permitted_lem, nobody_comes_lem}
use Rattle.mum_rights_laws.proofs.sessions.goes_where_permitted.Goals as goal

pub returns-clause-goes : goal.returns-clause-goes
returns-clause-goes c = goes_where_permitted_lem

pub returns-clause-bans : goal.returns-clause-bans
returns-clause-bans c = bans_where_permitted_lem

pub returns-clause-comes : goal.returns-clause-comes
returns-clause-comes c = nobody_comes_lem
