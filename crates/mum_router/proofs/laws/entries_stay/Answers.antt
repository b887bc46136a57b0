use Rattle.mum_router.proofs.Entries.{entries_stay_lem}
use Rattle.mum_router.proofs.laws.entries_stay.Goals as goal

pub returns : goal.returns
returns c = entries_stay_lem
