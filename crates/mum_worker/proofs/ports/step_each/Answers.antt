use Rattle.mum_worker.proofs.CommonNames.{filter, All-filter, All-same, stays, OwnsPasses}
use Rattle.mum_worker.proofs.ports.step_each.Goals as goal

pub returns-clause-owned : goal.returns-clause-owned
returns-clause-owned g c =
    let all = c.step_all-worked.new.list.items in
    All-same (OwnsPasses c.args.boxes.now) c.let_go.new.list.items (filter stays all) c.let_go.ensures.items
    (All-filter stays (OwnsPasses c.args.boxes.now) all c.step_all-worked.ensures.owned)
