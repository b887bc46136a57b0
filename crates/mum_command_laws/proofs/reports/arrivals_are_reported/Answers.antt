use Rattle.mum_command_laws.proofs.Arrived.{arrivals_are_reported_lem}
use Rattle.mum_command_laws.proofs.reports.arrivals_are_reported.Goals as goal

pub returns : goal.returns
returns c = arrivals_are_reported_lem
