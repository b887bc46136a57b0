use Rattle.mum_viewer.proofs.Idle.{all_stalled}
use Rattle.mum_viewer.proofs.laws.idle_views_stall.Goals as goal

pub returns : goal.returns
returns g c = all_stalled g.L.Link.facts
