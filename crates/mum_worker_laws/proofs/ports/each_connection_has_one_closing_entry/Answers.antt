use Rattle.mum_worker_laws.proofs.Closings.{one_closing}
use Rattle.mum_worker_laws.proofs.ports.each_connection_has_one_closing_entry.Goals as goal

pub returns : goal.returns
returns g c opening number pass room opened worker turns connection begun all =
    one_closing g.L.Link.facts opening number pass room opened turns worker connection begun all
