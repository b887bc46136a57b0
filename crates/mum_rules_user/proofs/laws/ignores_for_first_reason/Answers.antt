use Rattle.mum_rules_user.proofs.Complete.{ignores_for_first_reason_lem}
use Rattle.mum_rules_user.proofs.laws.ignores_for_first_reason.Goals as goal

pub returns : goal.returns
returns c = ignores_for_first_reason_lem
