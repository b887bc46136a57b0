use Rattle.mum_laws.proofs.Deciding.{state_stays}
use Rattle.mum_laws.proofs.edits.revisions_keep_their_state.Goals as goal

pub returns : goal.returns
returns c = state_stays
