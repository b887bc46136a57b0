use Rattle.mum_step_laws.proofs.PortParts.{collected}
use Rattle.mum_step_laws.proofs.ports.notices_are_collected.Goals as goal

pub returns : goal.returns
returns c = collected
