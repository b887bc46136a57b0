use Rattle.mum_record.proofs.Common.{◌∙◌, sym, ap, IsLimitsLine, limits_of}
use Rattle.mum_record.proofs.HeadLemmas.{limits_of-found, limits_of-line, limits_of-no_text, reads-some, reads-none}
use Rattle.mum_record.proofs.head.read_limits.Goals as goal

pub returns-in-Ok-clause-exact : goal.returns-in-Ok-clause-exact
returns-in-Ok-clause-exact c = c.limits_in.ensures ∙ ap limits_of c.in-Ok.ensures.cases.0

pub returns-in-Ok-clause-found : goal.returns-in-Ok-clause-found
returns-in-Ok-clause-found c =
    reads-some limits_of IsLimitsLine limits_of-found c.args.line.now c.limits_in.result (c.limits_in.ensures ∙ ap limits_of c.in-Ok.ensures.cases.0)

pub returns-in-Ok-clause-only : goal.returns-in-Ok-clause-only
returns-in-Ok-clause-only c =
    reads-none limits_of IsLimitsLine limits_of-line c.args.line.now c.limits_in.result (c.limits_in.ensures ∙ ap limits_of c.in-Ok.ensures.cases.0)

pub returns-in-Err-clause-exact : goal.returns-in-Err-clause-exact
returns-in-Err-clause-exact c = sym (limits_of-no_text c.args.line.now c.in-Err.ensures.cases.0)

pub returns-in-Err-clause-only : goal.returns-in-Err-clause-only
returns-in-Err-clause-only c =
    reads-none limits_of IsLimitsLine limits_of-line c.args.line.now _ (sym (limits_of-no_text c.args.line.now c.in-Err.ensures.cases.0))
