use Rattle.mum_core.proofs.Common.{◌≡◌, [], replicate}
use Rattle.mum_core.proofs.machine.empty_outboxes.Given as goal

abbrev pub invariant-loop-slot : goal.invariant-loop-slot
invariant-loop-slot l = l.outboxes.items ≡ replicate l._slot []
