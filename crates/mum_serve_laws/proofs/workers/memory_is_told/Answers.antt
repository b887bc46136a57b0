use Rattle.mum_serve_laws.proofs.Noting.{memory_noted}
use Rattle.mum_serve_laws.proofs.workers.memory_is_told.Goals as goal

pub returns : goal.returns
returns g c opening number pass journal opened worker turns begun all = memory_noted opening g.L.Link.facts number pass journal opened turns worker begun all
