use Rattle.mum_core.proofs.Hearing.{heard_in_order}
use Rattle.mum_core.proofs.laws.speakers_are_heard_in_order.Goals as goal

pub returns : goal.returns
returns c = heard_in_order
