use Rattle.mum_port.proofs.Awaiting.{unanswered_waits}
use Rattle.mum_port.proofs.laws.a_command_is_answered_before_the_next_frame.Goals as goal

pub returns : goal.returns
returns g c old mid port machine did item events steps asked lives unanswered =
    unanswered_waits g.L.Link.facts g.V.VoiceRouter.routed old mid port machine did item events steps asked lives unanswered
