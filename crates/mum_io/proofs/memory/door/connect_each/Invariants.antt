use Rattle.mum_io.proofs.Common.{◌≡◌}
use Rattle.mum_io.proofs.memory.door.connect_each.Given as goal

abbrev pub invariant-loop-event : goal.invariant-loop-event
invariant-loop-event l = l.events ≡ l.initial.events
