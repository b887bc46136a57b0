use Rattle.mum_journal_laws.proofs.Seats.{decisions_follow}
use Rattle.mum_journal_laws.proofs.owners.decisions_are_for_their_logins.Goals as goal

pub returns : goal.returns
returns g c = decisions_follow g.D.Entrance.facts g.D.Peer.Link.facts
