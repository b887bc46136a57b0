-- The words ask for a run, so they are no other words.
use Rattle.mum_server.proofs.Common.{service}
use Rattle.mum_server.proofs.command.later_roles.Goals as goal

pub returns-in-Some-clause-other : goal.returns-in-Some-clause-other
returns-in-Some-clause-other c = λ never. absurd (never (service c.in-Some.asked) c.in-Some.ensures.asked)
