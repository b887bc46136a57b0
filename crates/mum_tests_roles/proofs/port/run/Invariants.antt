use Rattle.std.proofs.Common.{◌≡◌, []}
use Rattle.mum_port.specs.Taking.{IsPosted, IsVoiced}
use Rattle.mum_tests_roles.proofs.port.run.Given as goal

abbrev pub invariant-loop-count : goal.invariant-loop-count
invariant-loop-count g l = (l.pass.queue ≡ l.desk.queue) × IsPosted [] l.port.passes × IsVoiced [] l.port.passes
