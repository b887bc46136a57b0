use Rattle.mum_rules_user.proofs.Firsts.{logs_in_where_nothing_stands_lem}
use Rattle.mum_rules_user.proofs.laws.logs_in_where_nothing_stands.Goals as goal

pub returns : goal.returns
returns c = logs_in_where_nothing_stands_lem
