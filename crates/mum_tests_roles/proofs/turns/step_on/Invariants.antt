use Rattle.std.proofs.Common.{◌≡◌}
use Rattle.mum_port.specs.Taking.{IsPosted, IsVoiced}
use Rattle.mum_tests_roles.proofs.turns.step_on.Given as goal

abbrev pub invariant-loop-step : goal.invariant-loop-step
invariant-loop-step g l = (l.pass.queue ≡ l.desk.queue) × IsPosted l.fn.posts l.port.passes × IsVoiced l.fn.voices l.port.passes
