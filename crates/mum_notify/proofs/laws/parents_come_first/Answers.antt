use Rattle.mum_notify.proofs.Families.{parents_come_first_lem}
use Rattle.mum_notify.proofs.laws.parents_come_first.Goals as goal

pub returns : goal.returns
returns c = parents_come_first_lem
