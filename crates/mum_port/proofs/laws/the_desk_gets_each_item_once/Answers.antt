use Rattle.mum_port.proofs.Farewells.{put_once}
use Rattle.mum_port.proofs.laws.the_desk_gets_each_item_once.Goals as goal

pub returns : goal.returns
returns g c connection worker link events port lives = put_once g.L.Link.facts g.V.VoiceRouter.routed connection worker link events port lives
