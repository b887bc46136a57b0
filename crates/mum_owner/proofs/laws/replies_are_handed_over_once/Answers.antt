use Rattle.mum_owner.proofs.Handing.{handed_once}
use Rattle.mum_owner.proofs.laws.replies_are_handed_over_once.Goals as goal

pub returns : goal.returns
returns g c control door connections place journal queues store opened owner turns some new all =
    let hands = handed_once g.D.Entrance.facts g.D.Peer.Link.facts control door connections place journal queues store opened owner turns some new all in
    hands.answers
