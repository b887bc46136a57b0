use Rattle.mum_serve_laws.proofs.Noting.{stale_counted}
use Rattle.mum_serve_laws.proofs.workers.stale_is_of_the_ports.Goals as goal

pub returns : goal.returns
returns g c opening number pass journal opened worker turns begun all = stale_counted opening g.L.Link.facts number pass journal opened turns worker begun all
