use Rattle.mum_command_laws.proofs.Ruled.{writers_describe_lem}
use Rattle.mum_command_laws.proofs.channels.writers_describe.Goals as goal

pub returns : goal.returns
returns c = writers_describe_lem
