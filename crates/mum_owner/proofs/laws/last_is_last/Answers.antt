use Rattle.mum_owner.proofs.Ending.{ends_once, told_through}
use Rattle.mum_owner.proofs.laws.last_is_last.Goals as goal

pub returns-clause-last : goal.returns-clause-last
returns-clause-last g c control door connections journal queues store opened owner turns new all =
    ends_once g.D.Entrance.facts g.D.Peer.Link.facts control door connections journal queues store opened owner turns new all

pub returns-clause-through : goal.returns-clause-through
returns-clause-through g c control door connections journal queues store opened owner turns new all =
    told_through g.D.Entrance.facts g.D.Peer.Link.facts control door connections journal queues store opened owner turns new all
