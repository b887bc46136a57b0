use Rattle.mum_command_laws.proofs.Ruled.{writers_move_lem}
use Rattle.mum_command_laws.proofs.channels.writers_move.Goals as goal

pub returns : goal.returns
returns c = writers_move_lem
