use Rattle.mum_command_laws.proofs.Connecting.{versions_stay_lem}
use Rattle.mum_command_laws.proofs.connections.versions_stay.Goals as goal

pub returns : goal.returns
returns c = versions_stay_lem
