use Rattle.mum_rules_tree.proofs.Common.{rules, arith, common_steps, nat_tests, is_open}
use Rattle.mum_rules_tree.proofs.needs.may.Goals as goal

pub returns-in-Some : goal.returns-in-Some
unfolding is_open
returns-in-Some c = grind (arith, nat_tests, common_steps)

pub returns-in-None : goal.returns-in-None
unfolding is_open
returns-in-None c = search rules
