use Rattle.mum_viewer.proofs.Few.{all_few}
use Rattle.mum_viewer.proofs.turns.views_are_few.Goals as goal

pub returns : goal.returns
returns g c turns viewer run =
    all_few g.D.Entrance.facts g.D.Peer.Link.facts turns viewer run
