use Rattle.mum_step_laws.proofs.PortParts.{replies}
use Rattle.mum_step_laws.proofs.ports.replies_are_told.Goals as goal

pub returns : goal.returns
returns g c = replies g.L.Link.facts
