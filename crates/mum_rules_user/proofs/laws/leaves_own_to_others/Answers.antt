use Rattle.mum_rules_user.proofs.Access.{leaves_own_to_others_lem}
use Rattle.mum_rules_user.proofs.laws.leaves_own_to_others.Goals as goal

pub returns : goal.returns
returns c = leaves_own_to_others_lem
