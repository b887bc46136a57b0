use Rattle.mum_laws.proofs.Draining.{stale_counted}
use Rattle.mum_laws.proofs.drains.strangers_are_counted.Goals as goal

pub returns : goal.returns
returns c = stale_counted
