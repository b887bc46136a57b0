use Rattle.mum_notify.proofs.Told.{sender_is_told_nothing_lem}
use Rattle.mum_notify.proofs.laws.sender_is_told_nothing.Goals as goal

pub returns : goal.returns
returns c = sender_is_told_nothing_lem
