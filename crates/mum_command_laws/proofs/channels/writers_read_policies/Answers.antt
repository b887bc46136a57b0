use Rattle.mum_command_laws.proofs.Ruled.{writers_read_policies_lem}
use Rattle.mum_command_laws.proofs.channels.writers_read_policies.Goals as goal

pub returns : goal.returns
returns c = writers_read_policies_lem
