use Rattle.mum_keeper.proofs.Changing.{lead_over}
use Rattle.mum_keeper.proofs.laws.changes_lead_over.Goals as goal

pub returns : goal.returns
returns c = lead_over
