use Rattle.mum_rules_user.proofs.Common.{arith, rules, nat_tests, common_steps, is_open}
use Rattle.mum_rules_user.proofs.moving.may_either.Goals as goal

pub returns-then-has : goal.returns-then-has
unfolding is_open
returns-then-has c = grind (arith, nat_tests, common_steps)

pub returns-else-has : goal.returns-else-has
unfolding is_open
returns-else-has c = grind (arith, nat_tests, common_steps)

pub returns-in-None : goal.returns-in-None
unfolding is_open
returns-in-None c = search rules
