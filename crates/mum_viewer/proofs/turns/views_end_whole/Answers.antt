use Rattle.mum_viewer.proofs.Turning.{all_end}
use Rattle.mum_viewer.proofs.turns.views_end_whole.Goals as goal

pub returns : goal.returns
returns g c turns old new answer run last =
    all_end g.D.Entrance.facts g.D.Peer.Link.facts turns old answer new run last
