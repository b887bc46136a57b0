use Rattle.mum_fields.proofs.Common.{◌-◌, ◌^◌, ◌≤◌}
use Rattle.mum_fields.proofs.Sums.{Adds}
use Rattle.mum_fields.proofs.pass.sum_up.Given as goal

abbrev pub invariant-loop-i : goal.invariant-loop-i
invariant-loop-i g l = Adds g.S.Row.slot l.rows l.parts l.i l.sum × (l.sum.length ≤ 2 ^ 64 - 1)
