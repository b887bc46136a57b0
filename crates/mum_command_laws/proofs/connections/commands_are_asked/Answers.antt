use Rattle.mum_command_laws.proofs.Connecting.{commands_are_asked_lem}
use Rattle.mum_command_laws.proofs.connections.commands_are_asked.Goals as goal

pub returns : goal.returns
returns c = commands_are_asked_lem
