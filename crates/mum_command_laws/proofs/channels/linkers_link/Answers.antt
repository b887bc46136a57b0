use Rattle.mum_command_laws.proofs.Ruled.{linkers_link_lem}
use Rattle.mum_command_laws.proofs.channels.linkers_link.Goals as goal

pub returns : goal.returns
returns c = linkers_link_lem
