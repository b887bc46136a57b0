use Rattle.mum_rules_tree.proofs.Common.{◌≡◌, take, accounts}
use Rattle.mum_rules_tree.proofs.policy.accounts.Given as goal

abbrev pub invariant-loop-number : goal.invariant-loop-number
invariant-loop-number l = l.listed.items ≡ accounts (take l.number-index l.numbers)
