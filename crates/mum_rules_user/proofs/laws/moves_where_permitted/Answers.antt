use Rattle.mum_rules_user.proofs.Access.{moves_where_permitted_lem}
use Rattle.mum_rules_user.proofs.laws.moves_where_permitted.Goals as goal

pub returns : goal.returns
returns c = moves_where_permitted_lem
