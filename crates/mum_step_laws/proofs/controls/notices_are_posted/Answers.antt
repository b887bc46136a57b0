use Rattle.mum_step_laws.proofs.ControlParts.{posts}
use Rattle.mum_step_laws.proofs.controls.notices_are_posted.Goals as goal

pub returns : goal.returns
returns c = posts
