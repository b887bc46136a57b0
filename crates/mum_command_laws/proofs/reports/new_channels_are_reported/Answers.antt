use Rattle.mum_command_laws.proofs.Arrived.{new_channels_are_reported_lem}
use Rattle.mum_command_laws.proofs.reports.new_channels_are_reported.Goals as goal

pub returns : goal.returns
returns c = new_channels_are_reported_lem
