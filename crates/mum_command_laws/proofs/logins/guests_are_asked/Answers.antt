use Rattle.mum_command_laws.proofs.Entered.{guests_are_asked_lem}
use Rattle.mum_command_laws.proofs.logins.guests_are_asked.Goals as goal

pub returns : goal.returns
returns c = guests_are_asked_lem
