use Rattle.mum_rules_user.proofs.Firsts.{spares_super_user_lem}
use Rattle.mum_rules_user.proofs.laws.spares_super_user.Goals as goal

pub returns : goal.returns
returns c = spares_super_user_lem
