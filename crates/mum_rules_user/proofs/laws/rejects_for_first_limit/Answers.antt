use Rattle.mum_rules_user.proofs.Firsts.{rejects_for_first_limit_lem}
use Rattle.mum_rules_user.proofs.laws.rejects_for_first_limit.Goals as goal

pub returns : goal.returns
returns c = rejects_for_first_limit_lem
