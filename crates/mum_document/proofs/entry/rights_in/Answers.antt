use Rattle.mum_document.proofs.Common.{refl, err_from_is_err_and}
use Rattle.mum_document.proofs.First.{first, later, none_said}
use Rattle.mum_document.proofs.entry.rights_in.Goals as goal

pub returns-in_err-here : goal.returns-in_err-here
returns-in_err-here c =
    let p = err_from_is_err_and c.from_residual.result c.from_residual.ensures.1 in
    rw (p.1, p.2) (first _ _ _ c.in_err-here.ensures)

pub returns-in_err-subs : goal.returns-in_err-subs
returns-in_err-subs c =
    let p = err_from_is_err_and c.from_residual-in_err-subs.result c.from_residual-in_err-subs.ensures.1 in
    rw (p.1, p.2) (later _ _ _ c.in_ok-here.ensures.0 (first _ _ _ c.in_err-subs.ensures))

pub returns-in_err-grant : goal.returns-in_err-grant
returns-in_err-grant c =
    let p = err_from_is_err_and c.from_residual-in_err-grant.result c.from_residual-in_err-grant.ensures.1 in
    rw (p.1, p.2) (later _ _ _ c.in_ok-here.ensures.0 (later _ _ _ c.in_ok-subs.ensures.0 (first _ _ _ c.in_err-grant.ensures)))

pub returns-in_err-deny : goal.returns-in_err-deny
returns-in_err-deny c =
    let p = err_from_is_err_and c.from_residual-in_err-deny.result c.from_residual-in_err-deny.ensures.1 in
    rw (p.1, p.2) (later _ _ _ c.in_ok-here.ensures.0 (later _ _ _ c.in_ok-subs.ensures.0 (later _ _ _ c.in_ok-grant.ensures.0 (first _ _ _ c.in_err-deny.ensures))))

pub returns : goal.returns
returns c = (
  none_said _ _ c.in_ok-here.ensures.0 (none_said _ _ c.in_ok-subs.ensures.0 (none_said _ _ c.in_ok-grant.ensures.0 (none_said _ _ c.in_ok-deny.ensures.0 refl))),
  rw (c.unwrap_or.ensures, c.in_ok-here.ensures.1, c.unwrap_or-2.ensures, c.in_ok-subs.ensures.1, c.in_ok-grant.ensures.1, c.in_ok-deny.ensures.1) refl,
)
