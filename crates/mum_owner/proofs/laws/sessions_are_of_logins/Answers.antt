use Rattle.mum_owner.proofs.Sitting.{sessions_kept}
use Rattle.mum_owner.proofs.laws.sessions_are_of_logins.Goals as goal

pub returns : goal.returns
returns g c control door connections journal queues store opened owner turns new all =
    sessions_kept g.D.Entrance.facts g.D.Peer.Link.facts control door connections journal queues store opened owner turns new all
