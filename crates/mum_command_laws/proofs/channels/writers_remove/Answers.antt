use Rattle.mum_command_laws.proofs.Ruled.{writers_remove_lem}
use Rattle.mum_command_laws.proofs.channels.writers_remove.Goals as goal

pub returns : goal.returns
returns c = writers_remove_lem
