use Rattle.mum_worker_laws.proofs.Ending.{one_closed}
use Rattle.mum_worker_laws.proofs.ports.each_connection_closes_once.Goals as goal

pub returns : goal.returns
returns g c opening number pass journal opened worker turns connection begun all =
    one_closed g.L.Link.facts opening number pass journal opened turns worker connection begun all
