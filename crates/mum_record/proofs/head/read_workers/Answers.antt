use Rattle.mum_record.proofs.Common.{◌∙◌, sym, ap, IsWorkersLine, workers_of}
use Rattle.mum_record.proofs.HeadLemmas.{workers_of-found, workers_of-line, workers_of-no_text, reads-some, reads-none}
use Rattle.mum_record.proofs.head.read_workers.Goals as goal

pub returns-in-Ok-clause-exact : goal.returns-in-Ok-clause-exact
returns-in-Ok-clause-exact c = c.workers_in.ensures ∙ ap workers_of c.in-Ok.ensures.cases.0

pub returns-in-Ok-clause-found : goal.returns-in-Ok-clause-found
returns-in-Ok-clause-found c =
    reads-some workers_of IsWorkersLine workers_of-found c.args.line.now c.workers_in.result (c.workers_in.ensures ∙ ap workers_of c.in-Ok.ensures.cases.0)

pub returns-in-Ok-clause-only : goal.returns-in-Ok-clause-only
returns-in-Ok-clause-only c =
    reads-none workers_of IsWorkersLine workers_of-line c.args.line.now c.workers_in.result (c.workers_in.ensures ∙ ap workers_of c.in-Ok.ensures.cases.0)

pub returns-in-Err-clause-exact : goal.returns-in-Err-clause-exact
returns-in-Err-clause-exact c = sym (workers_of-no_text c.args.line.now c.in-Err.ensures.cases.0)

pub returns-in-Err-clause-only : goal.returns-in-Err-clause-only
returns-in-Err-clause-only c =
    reads-none workers_of IsWorkersLine workers_of-line c.args.line.now _ (sym (workers_of-no_text c.args.line.now c.in-Err.ensures.cases.0))
