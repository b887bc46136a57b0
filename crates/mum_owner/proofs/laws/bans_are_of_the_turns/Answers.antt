use Rattle.mum_owner.proofs.Booking.{bans_of_turns}
use Rattle.mum_owner.proofs.laws.bans_are_of_the_turns.Goals as goal

pub returns : goal.returns
returns g c control door connections journal queues store opened owner turns new all =
    bans_of_turns g.D.Entrance.facts g.D.Peer.Link.facts control door connections journal queues store opened owner turns new all
