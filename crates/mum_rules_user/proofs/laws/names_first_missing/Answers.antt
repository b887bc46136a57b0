use Rattle.mum_rules_user.proofs.Firsts.{names_first_missing_lem}
use Rattle.mum_rules_user.proofs.laws.names_first_missing.Goals as goal

pub returns : goal.returns
returns c = names_first_missing_lem
