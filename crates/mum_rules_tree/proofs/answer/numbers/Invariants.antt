use Rattle.mum_rules_tree.proofs.Common.{◌≡◌, take, numbers}
use Rattle.mum_rules_tree.proofs.answer.numbers.Given as goal

abbrev pub invariant-loop-account : goal.invariant-loop-account
invariant-loop-account l = l.listed.items ≡ numbers (take l.account-index l.accounts)
