use Rattle.mum_users.proofs.Refusals.{joins_where_proper_lem}
use Rattle.mum_users.proofs.laws.joins_where_proper.Goals as goal

pub returns : goal.returns
returns c = joins_where_proper_lem
