use Rattle.mum_laws.proofs.Rejecting.{not_both}
use Rattle.mum_laws.proofs.packets.sessions_are_not_rejected.Goals as goal

pub returns : goal.returns
returns c = not_both
