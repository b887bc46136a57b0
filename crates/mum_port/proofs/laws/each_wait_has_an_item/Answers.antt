use Rattle.mum_port.proofs.Awaiting.{item-awaited}
use Rattle.mum_port.proofs.laws.each_wait_has_an_item.Goals as goal

pub returns : goal.returns
returns c = item-awaited
