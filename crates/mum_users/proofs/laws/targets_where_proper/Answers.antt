use Rattle.mum_users.proofs.Refusals.{targets_where_proper_lem, unset_stays_proper_lem}
use Rattle.mum_users.proofs.laws.targets_where_proper.Goals as goal

pub returns-clause-proper : goal.returns-clause-proper
returns-clause-proper c = targets_where_proper_lem

pub returns-clause-unset : goal.returns-clause-unset
returns-clause-unset c = unset_stays_proper_lem
