use Rattle.mum_rules_user.proofs.Complete.{grants_where_nothing_stands_lem}
use Rattle.mum_rules_user.proofs.laws.grants_where_nothing_stands.Goals as goal

pub returns : goal.returns
returns c = grants_where_nothing_stands_lem
