use Rattle.mum_command_laws.proofs.Brought.{texts_are_sent_lem}
use Rattle.mum_command_laws.proofs.reports.texts_are_sent.Goals as goal

pub returns : goal.returns
returns c = texts_are_sent_lem
