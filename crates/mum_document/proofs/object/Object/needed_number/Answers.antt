use Rattle.mum_document.proofs.Common.{err_from_is_err_and}
use Rattle.mum_document.proofs.First.{needed_too}
use Rattle.mum_document.proofs.object.Object.needed_number.Goals as goal

pub returns-in_err-number : goal.returns-in_err-number
returns-in_err-number c =
    let p = err_from_is_err_and c.from_residual.result c.from_residual.ensures.1 in
    rw (p.1, p.2) (needed_too _ _ _ _ c.in_err-number.ensures)
