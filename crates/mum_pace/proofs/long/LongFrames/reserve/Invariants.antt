use Rattle.mum_pace.proofs.Common.{◌≡◌}
use Rattle.mum_pace.proofs.long.LongFrames.reserve.Given as goal

abbrev pub invariant-loop : goal.invariant-loop
invariant-loop l = (l.seat.table_id ≡ l.initial.seat.table_id) × (l.seat.me ≡ l.initial.seat.me)
