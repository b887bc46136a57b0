use Rattle.mum_journal_laws.proofs.Asked.{all_asked}
use Rattle.mum_journal_laws.proofs.owners.decisions_were_asked_for.Goals as goal

pub returns : goal.returns
returns g c = all_asked g.D.Entrance.facts g.D.Peer.Link.facts
