use Rattle.mum_laws.proofs.Staying.{workers_are_there}
use Rattle.mum_laws.proofs.packets.connections_have_workers.Goals as goal

pub returns : goal.returns
returns c = workers_are_there
