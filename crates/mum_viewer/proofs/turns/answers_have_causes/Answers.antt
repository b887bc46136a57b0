use Rattle.mum_viewer.proofs.{Causing.done, Causing.idle, Causing.worked, Turning.all_open}
use Rattle.mum_viewer.proofs.turns.answers_have_causes.Goals as goal

pub returns-clause-idle : goal.returns-clause-idle
returns-clause-idle g c turns old new run last =
    idle g.D.Entrance.facts g.D.Peer.Link.facts old new last
    (all_open g.D.Entrance.facts g.D.Peer.Link.facts turns old run)

pub returns-clause-worked : goal.returns-clause-worked
returns-clause-worked g c turns old new run last =
    worked g.D.Entrance.facts g.D.Peer.Link.facts old new last
    (all_open g.D.Entrance.facts g.D.Peer.Link.facts turns old run)

pub returns-clause-done : goal.returns-clause-done
returns-clause-done g c old new answer last =
    done g.D.Entrance.facts g.D.Peer.Link.facts old answer new last
