use Rattle.mum_users.proofs.Refusals.{listens_where_proper_lem}
use Rattle.mum_users.proofs.laws.listens_where_proper.Goals as goal

pub returns : goal.returns
returns c = listens_where_proper_lem
