use Rattle.mum_owner.proofs.Once.{lags_once}
use Rattle.mum_owner.proofs.laws.a_connection_lags_once.Goals as goal

pub returns : goal.returns
returns g c control door connections journal queues store opened owner turns new all =
    lags_once g.D.Entrance.facts g.D.Peer.Link.facts control door connections journal queues store opened owner turns new all
