use Rattle.mum_serve_laws.proofs.Deciding.{edits_decided}
use Rattle.mum_serve_laws.proofs.owners.accepted_edits_are_the_decisions.Goals as goal

pub returns : goal.returns
returns g c old owner turns all = edits_decided g.D.Entrance.facts g.D.Peer.Link.facts old turns owner all
