use Rattle.mum_step_laws.proofs.PortParts.{opens}
use Rattle.mum_step_laws.proofs.ports.connections_are_opened.Goals as goal

pub returns : goal.returns
returns g c = opens
