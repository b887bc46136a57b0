use Rattle.std.proofs.Common.{◌≡◌}
use Rattle.mum_tests.proofs.published.look_on.Given as goal

abbrev pub invariant-loop : goal.invariant-loop
invariant-loop g l = l.pass.opening ≡ l.fn.pass.opening
