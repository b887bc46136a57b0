use Rattle.mum_notify.proofs.Sent.{never_none}
use Rattle.mum_notify.proofs.texts.held_in.Goals as goal

pub returns-in-None : goal.returns-in-None
returns-in-None c = absurd (never_none _ _ c.requires c.in-None.ensures)
