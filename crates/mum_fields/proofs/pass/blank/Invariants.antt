use Rattle.mum_fields.proofs.Blanks.{BlankFrom}
use Rattle.mum_fields.proofs.pass.blank.Given as goal

abbrev pub invariant-loop-row : goal.invariant-loop-row
invariant-loop-row l = BlankFrom l.rows l.row-index
