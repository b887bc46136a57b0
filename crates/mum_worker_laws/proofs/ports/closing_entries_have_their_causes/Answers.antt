use Rattle.mum_worker_laws.proofs.Closings.{closings_are}
use Rattle.mum_worker_laws.proofs.ports.closing_entries_have_their_causes.Goals as goal

pub returns : goal.returns
returns g c opening number pass room opened worker turns begun all =
    closings_are g.L.Link.facts opening number pass room opened turns worker begun all
