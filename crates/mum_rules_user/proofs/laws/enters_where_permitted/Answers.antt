use Rattle.mum_rules_user.proofs.Access.{enters_where_permitted_lem}
use Rattle.mum_rules_user.proofs.laws.enters_where_permitted.Goals as goal

pub returns : goal.returns
returns c = enters_where_permitted_lem
