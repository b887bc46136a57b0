use Rattle.mum_step_laws.proofs.PortParts.{closes}
use Rattle.mum_step_laws.proofs.ports.closes_are_closes.Goals as goal

pub returns : goal.returns
returns g c = closes g.L.Link.facts
