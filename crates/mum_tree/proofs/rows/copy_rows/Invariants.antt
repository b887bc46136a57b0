use Rattle.mum_tree.proofs.Common.{◌≡◌, take}
use Rattle.mum_tree.proofs.rows.copy_rows.Given as goal

abbrev pub invariant-loop-row : goal.invariant-loop-row
invariant-loop-row l = l.copy.items ≡ take l.row-index l.rows
