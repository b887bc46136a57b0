use Rattle.mum_command_laws.proofs.Brought.{kicks_are_reported_lem}
use Rattle.mum_command_laws.proofs.reports.kicks_are_reported.Goals as goal

pub returns : goal.returns
returns c = kicks_are_reported_lem
