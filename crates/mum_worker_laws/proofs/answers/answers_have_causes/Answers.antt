use Rattle.mum_worker_laws.proofs.Causing.{done_then, done_when, has_ended, has_worked, nothing_to_do}
use Rattle.mum_worker_laws.proofs.answers.answers_have_causes.Goals as goal

pub returns-clause-idle : goal.returns-clause-idle
returns-clause-idle g c opening old new turned = nothing_to_do g.L.Link.facts opening old new turned

pub returns-clause-worked : goal.returns-clause-worked
returns-clause-worked g c opening old new turned = has_worked g.L.Link.facts opening old new turned

pub returns-clause-done : goal.returns-clause-done
returns-clause-done g c opening old new answer turned =
    (done_when g.L.Link.facts opening old new answer turned, done_then g.L.Link.facts opening old new answer turned)

pub returns-clause-ended : goal.returns-clause-ended
returns-clause-ended g c opening number pass journal opened worker turns begun all =
    has_ended g.L.Link.facts opening number pass journal opened turns worker begun all
