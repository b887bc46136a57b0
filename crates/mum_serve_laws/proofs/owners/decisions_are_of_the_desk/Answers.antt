use Rattle.mum_serve_laws.proofs.Settling.{of_the_desk}
use Rattle.mum_serve_laws.proofs.owners.decisions_are_of_the_desk.Goals as goal

pub returns : goal.returns
returns g c old owner turns all = of_the_desk g.D.Entrance.facts g.D.Peer.Link.facts old turns owner all
