use Rattle.mum_command_laws.proofs.Brought.{leaves_are_reported_lem}
use Rattle.mum_command_laws.proofs.reports.leaves_are_reported.Goals as goal

pub returns : goal.returns
returns c = leaves_are_reported_lem
