use Rattle.std.proofs.Common.{◌≡◌}
use Rattle.mum_tests.proofs.outbox.offer_all.Given as goal

abbrev pub invariant-loop : goal.invariant-loop
invariant-loop g l = l.pass.queue ≡ l.outbox.queue
