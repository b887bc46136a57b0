use Rattle.mum_command_laws.proofs.Learned.{user_changes_are_reported_lem}
use Rattle.mum_command_laws.proofs.reports.user_changes_are_reported.Goals as goal

pub returns : goal.returns
returns c = user_changes_are_reported_lem
