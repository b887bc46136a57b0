use Rattle.mum_document.proofs.Common.{sym, refl, ◌∙◌, err_from_is_err_and, view}
use Rattle.mum_document.proofs.{First.first, First.later, First.none_said, Whoms.account_whom, Whoms.group_whom}
use Rattle.mum_document.proofs.entry.whom_in.Goals as goal

pub returns-in_err-account : goal.returns-in_err-account
returns-in_err-account c =
    let p = err_from_is_err_and c.from_residual.result c.from_residual.ensures.1 in
    rw (p.1, p.2) (first _ _ _ (c.in_err-account.ensures))

pub returns-in_err-refuse_if : goal.returns-in_err-refuse_if
returns-in_err-refuse_if c =
    let p = err_from_is_err_and c.from_residual-in_err-refuse_if.result c.from_residual-in_err-refuse_if.ensures.1 in
    rw (p.1, p.2) (later _ _ _ (c.in_ok-account.ensures.0) (first _ _ _ (rw c.lacks_whom.ensures at c.in_err-refuse_if.ensures)))

pub returns-in_err-group : goal.returns-in_err-group
returns-in_err-group c =
    let p = err_from_is_err_and c.from_residual-in_err-group.result c.from_residual-in_err-group.ensures.1 in
    rw (p.1, p.2) (later _ _ _ (c.in_ok-account.ensures.0) (later _ _ _ (rw c.lacks_whom.ensures at c.in_ok-refuse_if.ensures.0) (first _ _ _ (c.in_err-group.ensures))))

pub returns-in-Some : goal.returns-in-Some
returns-in-Some c = (
  none_said _ _ c.in_ok-account.ensures.0 (none_said _ _ (rw c.lacks_whom.ensures at c.in_ok-refuse_if.ensures.0) (none_said _ _ c.in_ok-group.ensures.0 refl)),
  account_whom (view c.args.object.now.value.now) c.in-Some.account (sym c.in-Some.is ∙ c.in_ok-account.ensures.1),
)

pub returns-in-None : goal.returns-in-None
returns-in-None c = (
  none_said _ _ c.in_ok-account.ensures.0 (none_said _ _ (rw c.lacks_whom.ensures at c.in_ok-refuse_if.ensures.0) (none_said _ _ c.in_ok-group.ensures.0 refl)),
  group_whom (view c.args.object.now.value.now) c.or_empty.result (sym c.in-None.is ∙ c.in_ok-account.ensures.1) (rw (c.or_empty.ensures, c.in_ok-group.ensures.1) refl),
)
