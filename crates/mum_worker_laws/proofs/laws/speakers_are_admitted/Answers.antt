use Rattle.mum_worker_laws.proofs.Admitted.{from_opened, looks_logged_in, ports_logged_in}
use Rattle.mum_worker_laws.proofs.laws.speakers_are_admitted.Goals as goal

pub returns-clause-looks : goal.returns-clause-looks
returns-clause-looks g c opening number pass journal opened worker turns begun all =
    looks_logged_in g.L.Link.facts opening opened turns worker all
    (from_opened g.L.Link.facts opening number pass journal opened begun)

pub returns-clause-ports : goal.returns-clause-ports
returns-clause-ports g c opening number pass journal opened worker turns begun all =
    ports_logged_in g.L.Link.facts opening opened turns worker all
    (from_opened g.L.Link.facts opening number pass journal opened begun)
