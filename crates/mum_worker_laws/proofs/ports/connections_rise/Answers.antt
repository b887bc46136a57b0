use Rattle.mum_worker_laws.proofs.Rising.{taken_apart, taken_rise}
use Rattle.mum_worker_laws.proofs.ports.connections_rise.Goals as goal

pub returns-clause-rise : goal.returns-clause-rise
returns-clause-rise g c opening old worker turns all =
    (taken_rise g.L.Link.facts opening old turns worker all).pairs

pub returns-clause-above : goal.returns-clause-above
returns-clause-above g c opening old worker turns all =
    (taken_rise g.L.Link.facts opening old turns worker all).above

pub returns-clause-own : goal.returns-clause-own
returns-clause-own g c opening old worker turns all =
    (taken_rise g.L.Link.facts opening old turns worker all).own

pub returns-clause-apart : goal.returns-clause-apart
returns-clause-apart g c opening old worker second other turns others all rest many another =
    taken_apart g.L.Link.facts opening old turns worker second others other all rest many another
