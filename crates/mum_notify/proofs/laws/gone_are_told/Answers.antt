use Rattle.mum_notify.proofs.Departed.{gone_are_told_lem}
use Rattle.mum_notify.proofs.laws.gone_are_told.Goals as goal

pub returns : goal.returns
returns c = gone_are_told_lem
