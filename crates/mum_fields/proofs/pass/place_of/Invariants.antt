use Rattle.mum_fields.proofs.Common.{◌≢◌, take, All, number_of}
use Rattle.mum_fields.proofs.pass.place_of.Given as goal

abbrev pub invariant-loop-i : goal.invariant-loop-i
invariant-loop-i g l = All (λ row. number_of (g.S.Row.slot row) ≢ l.number) (take l.i l.rows)
