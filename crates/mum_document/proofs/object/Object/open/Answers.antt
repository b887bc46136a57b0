use Rattle.mum_document.proofs.Common.{sym, ◌∙◌}
use Rattle.mum_document.proofs.{First.first, First.reads_later, Objects.kind_none, Objects.kind_said}
use Rattle.mum_document.proofs.object.Object.open.Goals as goal

pub returns-then-not-is_object : goal.returns-then-not-is_object
returns-then-not-is_object c =
    first _ _ _ (rw (kind_said _ (sym c.is_object.ensures ∙ c.if-not-is_object.true)) c.fault_at.ensures)

pub returns : goal.returns
returns c =
    reads_later _ _ _ c.refuse_others.result (kind_none _ (sym c.is_object.ensures ∙ c.if-not-is_object.false)) c.refuse_others.ensures
