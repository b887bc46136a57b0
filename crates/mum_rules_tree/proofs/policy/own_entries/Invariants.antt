use Rattle.mum_rules_tree.proofs.Common.{◌≡◌, map, not, take, filter, entry_asked, is_inherited}
use Rattle.mum_rules_tree.proofs.policy.own_entries.Given as goal

abbrev pub invariant-loop-line : goal.invariant-loop-line
invariant-loop-line l = l.own.items ≡ map entry_asked (filter (λ line. not (is_inherited line.inherited)) (take l.line-index l.lines))
