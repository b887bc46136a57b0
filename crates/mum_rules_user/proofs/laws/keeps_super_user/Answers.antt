use Rattle.mum_rules_user.proofs.Firsts.{keeps_super_user_lem}
use Rattle.mum_rules_user.proofs.laws.keeps_super_user.Goals as goal

pub returns : goal.returns
returns c = keeps_super_user_lem
