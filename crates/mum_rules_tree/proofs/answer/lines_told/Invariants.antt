use Rattle.mum_rules_tree.proofs.Common.{◌≡◌, map, take, line_told}
use Rattle.mum_rules_tree.proofs.answer.lines_told.Given as goal

abbrev pub invariant-loop-entry : goal.invariant-loop-entry
invariant-loop-entry l = l.told.items ≡ map line_told (take l.entry-index l.entries)
