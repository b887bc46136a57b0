use Rattle.mum_serve_laws.proofs.Deciding.{connections_counted}
use Rattle.mum_serve_laws.proofs.owners.connections_are_those_given.Goals as goal

pub returns : goal.returns
returns g c control door connections journal queues store opened owner turns new all = connections_counted g.D.Entrance.facts g.D.Peer.Link.facts control door connections journal queues store opened owner turns new all
