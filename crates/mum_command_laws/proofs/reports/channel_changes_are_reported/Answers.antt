use Rattle.mum_command_laws.proofs.LearnedChannel.{channel_changes_are_reported_lem}
use Rattle.mum_command_laws.proofs.reports.channel_changes_are_reported.Goals as goal

pub returns : goal.returns
returns c = channel_changes_are_reported_lem
