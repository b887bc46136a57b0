use Rattle.mum_config.proofs.Common.{refl, ap, ◌∙◌, err_from_is_err_and, are_too_many, first, later, none_said, within_none}
use Rattle.mum_config.proofs.config.channels_in.Goals as goal

pub returns-in_err-values-clause-reads : goal.returns-in_err-values-clause-reads
returns-in_err-values-clause-reads c =
    let p = err_from_is_err_and c.from_residual.result c.from_residual.ensures.1 in
    rw (p.1, p.2) (first _ _ _ c.in_err-values.ensures)

pub returns-in_err-refuse_if-clause-reads : goal.returns-in_err-refuse_if-clause-reads
returns-in_err-refuse_if-clause-reads c =
    let p = err_from_is_err_and c.from_residual-in_err-refuse_if.result c.from_residual-in_err-refuse_if.ensures.1 in
    let many = c.are_too_many.ensures ∙ ap are_too_many c.in_ok-values.ensures.1 in
    rw (p.1, p.2) (later _ _ _ c.in_ok-values.ensures.0 (first _ _ _ (rw many at c.in_err-refuse_if.ensures)))

pub returns-in-Ok-clause-reads : goal.returns-in-Ok-clause-reads
returns-in-Ok-clause-reads c =
    let many = c.are_too_many.ensures ∙ ap are_too_many c.in_ok-values.ensures.1 in
    let read = rw c.in_ok-values.ensures.1 at c.in-Ok.ensures.reads in
    (none_said _ _ c.in_ok-values.ensures.0 (none_said _ _ (rw many at c.in_ok-refuse_if.ensures.0) (none_said _ _ (within_none _ _ read.0) refl)), read.1)

pub returns-in-Err-clause-reads : goal.returns-in-Err-clause-reads
returns-in-Err-clause-reads c =
    let many = c.are_too_many.ensures ∙ ap are_too_many c.in_ok-values.ensures.1 in
    later _ _ _ c.in_ok-values.ensures.0 (later _ _ _ (rw many at c.in_ok-refuse_if.ensures.0) (first _ _ _ (c.seen.ensures _ (rw c.in_ok-values.ensures.1 at c.in-Err.ensures.reads))))

pub returns-in-Ok-clause-edits : goal.returns-in-Ok-clause-edits
returns-in-Ok-clause-edits c = rw c.in_ok-values.ensures.1 at c.in-Ok.ensures.edits
