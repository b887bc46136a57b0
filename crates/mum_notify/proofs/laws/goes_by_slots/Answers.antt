use Rattle.mum_notify.proofs.Slots.{goes_by_slots_lem}
use Rattle.mum_notify.proofs.laws.goes_by_slots.Goals as goal

pub returns : goal.returns
returns c = goes_by_slots_lem
