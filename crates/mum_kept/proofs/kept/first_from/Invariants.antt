use Rattle.mum_kept.proofs.Common.{◌-◌, length}
use Rattle.mum_kept.proofs.kept.first_from.Given as goal

abbrev pub decreases-loop-at : goal.decreases-loop-at
decreases-loop-at l = length l.rows - l.at
