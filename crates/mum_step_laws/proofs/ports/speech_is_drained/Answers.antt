use Rattle.mum_step_laws.proofs.PortParts.{speech}
use Rattle.mum_step_laws.proofs.ports.speech_is_drained.Goals as goal

pub returns : goal.returns
returns c = speech
