use Rattle.mum_command_laws.proofs.Entered.{owners_know_the_password_lem}
use Rattle.mum_command_laws.proofs.logins.owners_know_the_password.Goals as goal

pub returns : goal.returns
returns c = owners_know_the_password_lem
