use Rattle.mum_fields.proofs.Common.{length}
use Rattle.mum_fields.proofs.pass.+is_set.Given as goal

abbrev pub decreases-is_set : goal.decreases-is_set
decreases-is_set g l = length l.rows.now
