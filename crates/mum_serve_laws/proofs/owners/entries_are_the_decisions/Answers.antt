use Rattle.mum_serve_laws.proofs.Deciding.{entries_decided, none_unasked}
use Rattle.mum_serve_laws.proofs.owners.entries_are_the_decisions.Goals as goal

pub returns-clause-asked : goal.returns-clause-asked
returns-clause-asked g c old owner turns all asked = entries_decided g.D.Entrance.facts g.D.Peer.Link.facts old turns owner all asked

pub returns-clause-unasked : goal.returns-clause-unasked
returns-clause-unasked g c old owner turns all unasked = none_unasked g.D.Entrance.facts g.D.Peer.Link.facts old turns owner all unasked
