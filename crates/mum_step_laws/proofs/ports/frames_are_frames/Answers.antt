use Rattle.mum_step_laws.proofs.PortParts.{frames}
use Rattle.mum_step_laws.proofs.ports.frames_are_frames.Goals as goal

pub returns : goal.returns
returns g c = frames
