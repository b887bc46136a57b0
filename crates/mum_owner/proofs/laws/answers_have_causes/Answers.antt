use Rattle.mum_owner.proofs.Common.{refl}
use Rattle.mum_owner.proofs.Causing.{done_shows, done_where, idle_shows, worked_shows}
use Rattle.mum_owner.proofs.laws.answers_have_causes.Goals as goal

pub returns-clause-idle : goal.returns-clause-idle
returns-clause-idle g c old new turned = idle_shows g.D.Entrance.facts g.D.Peer.Link.facts old _ new turned refl

pub returns-clause-worked : goal.returns-clause-worked
returns-clause-worked g c old new some turned = worked_shows g.D.Entrance.facts g.D.Peer.Link.facts old _ new turned some refl

pub returns-clause-done : goal.returns-clause-done
returns-clause-done g c old new answer turned = (
  done_shows g.D.Entrance.facts g.D.Peer.Link.facts old answer new turned,
  done_where g.D.Entrance.facts g.D.Peer.Link.facts old answer new turned,
)
