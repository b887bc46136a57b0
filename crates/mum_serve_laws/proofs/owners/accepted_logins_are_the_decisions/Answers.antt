use Rattle.mum_serve_laws.proofs.Deciding.{logins_accepted}
use Rattle.mum_serve_laws.proofs.owners.accepted_logins_are_the_decisions.Goals as goal

pub returns : goal.returns
returns g c old owner turns all = logins_accepted g.D.Entrance.facts g.D.Peer.Link.facts old turns owner all
