use Rattle.mum_command_laws.proofs.Entered.{joins_as_itself_lem}
use Rattle.mum_command_laws.proofs.logins.joins_as_itself.Goals as goal

pub returns : goal.returns
returns c = joins_as_itself_lem
