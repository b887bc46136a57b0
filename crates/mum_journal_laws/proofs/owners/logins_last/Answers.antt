use Rattle.mum_journal_laws.proofs.Lasting.{logins_last}
use Rattle.mum_journal_laws.proofs.owners.logins_last.Goals as goal

pub returns : goal.returns
returns g c = logins_last g.D.Entrance.facts g.D.Peer.Link.facts
