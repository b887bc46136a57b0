use Rattle.mum_step_laws.proofs.PortParts.{kicked_close}
use Rattle.mum_step_laws.proofs.ports.kicked_may_close.Goals as goal

pub returns : goal.returns
returns c = kicked_close
