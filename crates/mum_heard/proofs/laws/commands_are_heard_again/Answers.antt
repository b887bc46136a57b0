use Rattle.mum_heard.proofs.Again.{commands_again, leaves_again, requests_again}
use Rattle.mum_heard.proofs.laws.commands_are_heard_again.Goals as goal

pub returns-clause-frames : goal.returns-clause-frames
returns-clause-frames c = commands_again

pub returns-clause-leaves : goal.returns-clause-leaves
returns-clause-leaves c = leaves_again

pub returns-clause-requests : goal.returns-clause-requests
returns-clause-requests c = requests_again
