use Rattle.mum_cache.specs.Caches.{AreSound}
use Rattle.mum_tests_cache.proofs.standing.ask.Given as goal

abbrev pub invariant-loop : goal.invariant-loop
invariant-loop g l = AreSound l.state l.caches
