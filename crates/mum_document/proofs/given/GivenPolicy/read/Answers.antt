use Rattle.mum_document.proofs.Common.{refl, err_from_is_err_and, view, entry_list_rows, group_list_rows}
use Rattle.mum_document.proofs.First.{first, later, none_said, rows_first, rows_later, rows_none}
use Rattle.mum_document.proofs.given.GivenPolicy.read.Goals as goal

pub returns-in_err-inherit_acls : goal.returns-in_err-inherit_acls
returns-in_err-inherit_acls c =
    let p = err_from_is_err_and c.from_residual.result c.from_residual.ensures.1 in
    rw (p.1, p.2) (first _ _ _ (c.in_err-inherit_acls.ensures))

pub returns-in_err-groups : goal.returns-in_err-groups
returns-in_err-groups c =
    let p = err_from_is_err_and c.from_residual-in_err-groups.result c.from_residual-in_err-groups.ensures.1 in
    rw (p.1, p.2) (later _ _ _ (c.in_ok-inherit_acls.ensures.0) (rows_first c.args.object.now.dot.now (group_list_rows (view c.args.object.now.value.now)) (entry_list_rows (view c.args.object.now.value.now)) _ (c.in_err-groups.ensures)))

pub returns-in_err-acls : goal.returns-in_err-acls
returns-in_err-acls c =
    let p = err_from_is_err_and c.from_residual-in_err-acls.result c.from_residual-in_err-acls.ensures.1 in
    rw (p.1, p.2) (later _ _ _ (c.in_ok-inherit_acls.ensures.0) (rows_later c.args.object.now.dot.now (group_list_rows (view c.args.object.now.value.now)) (entry_list_rows (view c.args.object.now.value.now)) _ (c.in_ok-groups.ensures.0) (c.in_err-acls.ensures)))

pub returns : goal.returns
returns c = (
  none_said _ _ (c.in_ok-inherit_acls.ensures.0) (rows_none c.args.object.now.dot.now (group_list_rows (view c.args.object.now.value.now)) (entry_list_rows (view c.args.object.now.value.now)) (c.in_ok-groups.ensures.0) (c.in_ok-acls.ensures.0)),
  rw (c.in_ok-inherit_acls.ensures.1, c.in_ok-groups.ensures.1, c.in_ok-acls.ensures.1) refl,
)
