use Rattle.mum_notify.proofs.Told.{last_only_for_kicked_lem}
use Rattle.mum_notify.proofs.laws.last_only_for_kicked.Goals as goal

pub returns : goal.returns
returns c = last_only_for_kicked_lem
