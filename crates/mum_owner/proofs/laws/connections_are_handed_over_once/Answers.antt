use Rattle.mum_owner.proofs.Handing.{counted_from, handed_once, numbered_from}
use Rattle.mum_owner.proofs.laws.connections_are_handed_over_once.Goals as goal

pub returns-clause-handed : goal.returns-clause-handed
returns-clause-handed g c control door connections place journal queues store opened owner turns some new all =
    let hands = handed_once g.D.Entrance.facts g.D.Peer.Link.facts control door connections place journal queues store opened owner turns some new all in
    hands.connections

pub returns-clause-numbered : goal.returns-clause-numbered
returns-clause-numbered g c control door connections journal queues store opened owner turns new all =
    numbered_from g.D.Entrance.facts g.D.Peer.Link.facts control door connections journal queues store opened owner turns new all

pub returns-clause-given : goal.returns-clause-given
returns-clause-given g c control door connections journal queues store opened owner turns new all =
    counted_from g.D.Entrance.facts g.D.Peer.Link.facts control door connections journal queues store opened owner turns new all
