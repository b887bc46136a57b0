use Rattle.mum_worker_laws.proofs.Common.{history, looks_in}
use Rattle.mum_worker_laws.proofs.Within.{looks_begin, looks_pair, looks_within}
use Rattle.mum_worker_laws.proofs.laws.looks_are_of_one_list.Goals as goal

pub returns-clause-begins : goal.returns-clause-begins
returns-clause-begins g c opening old worker turns published all front =
    looks_begin published worker.common.router.pass.seen front
    (looks_in (history g.L.Link.facts opening old turns worker all))
    (looks_within g.L.Link.facts opening old turns worker all)

pub returns-clause-pairs : goal.returns-clause-pairs
returns-clause-pairs g c opening old worker second other turns others published all rest front back =
    let looks = looks_in (history g.L.Link.facts opening old turns worker all) in
    let nexts = looks_in (history g.L.Link.facts opening second others other rest) in
    looks_pair published looks nexts
    (looks_begin published worker.common.router.pass.seen front looks
    (looks_within g.L.Link.facts opening old turns worker all))
    (looks_begin published other.common.router.pass.seen back nexts
    (looks_within g.L.Link.facts opening second others other rest))
