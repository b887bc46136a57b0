use Rattle.mum_document.proofs.Common.{sym, refl, err_from_is_err_and}
use Rattle.mum_document.proofs.Lists.{given_none, given_some}
use Rattle.mum_document.proofs.object.Object.elements.Goals as goal

pub returns-in_err-values : goal.returns-in_err-values
returns-in_err-values c =
    let p = err_from_is_err_and c.from_residual.result c.from_residual.ensures.1 in
    rw (p.1, p.2) c.in_err-values.ensures

pub returns-in-Some : goal.returns-in-Some
returns-in-Some c = (c.in_ok-values.ensures.0, rw (sym (given_some _ c.in-Some.values _ c.in_ok-values.ensures.1 c.in-Some.is)) refl)

pub returns-in-None : goal.returns-in-None
returns-in-None c = (c.in_ok-values.ensures.0, rw (sym (given_none _ _ c.in_ok-values.ensures.1 c.in-None.is)) refl)
