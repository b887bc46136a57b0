use Rattle.mum_step_laws.proofs.ControlParts.{commands}
use Rattle.mum_step_laws.proofs.controls.commands_are_edits.Goals as goal

pub returns : goal.returns
returns c = commands
