use Rattle.mum_worker_laws.proofs.Within.{looks_within}
use Rattle.mum_worker_laws.proofs.laws.looks_are_within.Goals as goal

pub returns : goal.returns
returns g c opening old worker turns all =
    looks_within g.L.Link.facts opening old turns worker all
