use Rattle.mum_worker_laws.proofs.Within.{takes_hold, takes_within}
use Rattle.mum_worker_laws.proofs.laws.parcels_are_by_the_rules.Goals as goal

pub returns-clause-rules : goal.returns-clause-rules
returns-clause-rules g c opening number pass journal opened worker turns begun all =
    takes_within g.L.Link.facts opening opened turns worker all

pub returns-clause-holds : goal.returns-clause-holds
returns-clause-holds g c opening number pass journal opened worker turns begun all =
    takes_hold g.L.Link.facts opening opened turns worker all
