use Rattle.mum_users.proofs.Told.{listens_as_told_lem, others_listen_as_before_lem}
use Rattle.mum_users.proofs.laws.listens_as_told.Goals as goal

pub returns-clause-own : goal.returns-clause-own
returns-clause-own c = listens_as_told_lem

pub returns-clause-others : goal.returns-clause-others
returns-clause-others c = others_listen_as_before_lem
