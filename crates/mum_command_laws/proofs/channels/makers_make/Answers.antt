use Rattle.mum_command_laws.proofs.Ruled.{makers_make_lem}
use Rattle.mum_command_laws.proofs.channels.makers_make.Goals as goal

pub returns : goal.returns
returns c = makers_make_lem
