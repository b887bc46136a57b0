use Rattle.mum_document.proofs.Common.{err_from_is_err_and}
use Rattle.mum_document.proofs.First.{needed_too}
use Rattle.mum_document.proofs.object.Object.needed_digest.Goals as goal

pub returns-in_err-digest : goal.returns-in_err-digest
returns-in_err-digest c =
    let p = err_from_is_err_and c.from_residual.result c.from_residual.ensures.1 in
    rw (p.1, p.2) (needed_too _ _ _ _ c.in_err-digest.ensures)
