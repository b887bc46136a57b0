use Rattle.mum_viewer.proofs.Counting.{all_counted}
use Rattle.mum_viewer.proofs.turns.texts_are_counted.Goals as goal

pub returns : goal.returns
returns g c turns viewer run =
    all_counted g.D.Entrance.facts g.D.Peer.Link.facts turns viewer run
