use Rattle.mum_rules_tree.proofs.Common.{◌≡◌, take, others}
use Rattle.mum_rules_tree.proofs.edit.others.Given as goal

abbrev pub invariant-loop-number : goal.invariant-loop-number
invariant-loop-number l = l.channels.items ≡ others l.id (take l.number-index l.numbers)
