use Rattle.mum_serve_laws.proofs.Owning.{for_their_sessions}
use Rattle.mum_serve_laws.proofs.owners.decisions_are_for_their_sessions.Goals as goal

pub returns : goal.returns
returns g c old turn new turned = for_their_sessions g.D.Entrance.facts g.D.Peer.Link.facts old turn new turned
