use Rattle.mum_step_laws.proofs.PortParts.{lists}
use Rattle.mum_step_laws.proofs.ports.lists_are_no_steps.Goals as goal

pub returns : goal.returns
returns g c = lists
