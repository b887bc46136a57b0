use Rattle.mum_rules_user.proofs.Firsts.{refuses_for_first_limit_lem}
use Rattle.mum_rules_user.proofs.laws.refuses_for_first_limit.Goals as goal

pub returns : goal.returns
returns c = refuses_for_first_limit_lem
