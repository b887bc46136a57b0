use Rattle.mum_core.proofs.Common.{◌≡◌, replicate, idle}
use Rattle.mum_core.proofs.machine.idle_workers.Given as goal

abbrev pub invariant-loop-number : goal.invariant-loop-number
invariant-loop-number l = l.workers.items ≡ replicate l._number idle
