use Rattle.mum_viewer.proofs.Turning.{all_shown}
use Rattle.mum_viewer.proofs.turns.views_are_shown.Goals as goal

pub returns : goal.returns
returns g c turns viewer run =
    all_shown g.D.Entrance.facts g.D.Peer.Link.facts turns viewer run
