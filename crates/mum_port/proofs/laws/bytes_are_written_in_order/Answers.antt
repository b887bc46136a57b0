use Rattle.mum_port.proofs.Lifelong.{written_in_order}
use Rattle.mum_port.proofs.laws.bytes_are_written_in_order.Goals as goal

pub returns : goal.returns
returns g c connection worker link events port lives = written_in_order g.L.Link.facts g.V.VoiceRouter.routed connection worker link events port lives
