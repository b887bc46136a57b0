use Rattle.mum_rules_tree.proofs.Complete.{writers_set_policies_lem}
use Rattle.mum_rules_tree.proofs.laws.writers_set_policies.Goals as goal

pub returns : goal.returns
returns c = writers_set_policies_lem
