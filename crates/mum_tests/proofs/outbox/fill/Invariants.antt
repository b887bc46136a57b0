use Rattle.std.proofs.Common.{◌≡◌}
use Rattle.mum_tests.proofs.outbox.fill.Given as goal

abbrev pub invariant-loop-number : goal.invariant-loop-number
invariant-loop-number g l = l.pass.queue ≡ l.queue.queue
