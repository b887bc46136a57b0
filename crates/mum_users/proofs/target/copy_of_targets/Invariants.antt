use Rattle.mum_users.proofs.Common.{◌≡◌, take}
use Rattle.mum_users.proofs.target.copy_of_targets.Given as goal

abbrev pub invariant-loop-row : goal.invariant-loop-row
invariant-loop-row l = l.copies.items ≡ take l.row-index l.rows
