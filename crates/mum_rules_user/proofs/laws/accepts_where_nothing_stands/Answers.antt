use Rattle.mum_rules_user.proofs.Firsts.{accepts_where_nothing_stands_lem}
use Rattle.mum_rules_user.proofs.laws.accepts_where_nothing_stands.Goals as goal

pub returns : goal.returns
returns c = accepts_where_nothing_stands_lem
