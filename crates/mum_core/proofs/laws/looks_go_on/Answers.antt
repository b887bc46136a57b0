use Rattle.mum_core.proofs.RunLaws.{workers_go_on, looks_are_bounded}
use Rattle.mum_core.proofs.laws.looks_go_on.Goals as goal

pub returns-clause-never_back : goal.returns-clause-never_back
returns-clause-never_back c = workers_go_on

pub returns-clause-bounded : goal.returns-clause-bounded
returns-clause-bounded c = looks_are_bounded
