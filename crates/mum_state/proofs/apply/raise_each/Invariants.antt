use Rattle.mum_state.proofs.Common.{◌≡◌, ◌++◌, drop, take, raised_slots, is_renewed_slot}
use Rattle.mum_state.proofs.apply.raise_each.Given as goal

abbrev pub invariant-loop-slot : goal.invariant-loop-slot
invariant-loop-slot l =
    l.counts.items ≡ raised_slots (is_renewed_slot l.renewed) 0 (take l.slot l.initial.counts.items) ++ drop l.slot l.initial.counts.items
