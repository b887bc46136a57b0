use Rattle.mum_laws.proofs.Draining.{drains_tell}
use Rattle.mum_laws.proofs.drains.drains_tell_their_own.Goals as goal

pub returns : goal.returns
returns c = drains_tell
