use Rattle.mum_document.proofs.Common.{◌++◌, map, sym, refl, err_from_is_err_and, view, greatest, number_fault, each_fault, account_of}
use Rattle.mum_document.proofs.{First.first, Lists.given_none, Lists.given_some, Lists.list_absent, Lists.list_read}
use Rattle.mum_document.proofs.group.accounts_in.Goals as goal

pub returns-in_err-values : goal.returns-in_err-values
returns-in_err-values c =
    let p = err_from_is_err_and c.from_residual.result c.from_residual.ensures.1 in
    rw (p.1, p.2) (first _ _ _ c.in_err-values.ensures)

pub returns-in-Some : goal.returns-in-Some
returns-in-Some c =
    let values = map view c.in-Some.values.now in
    list_read _ (c.args.object.now.dot.now ++ c.args.name.now) (each_fault (number_fault 0 greatest) 0) _ c.in_ok-values.ensures.0 (map account_of) values c.at.result (given_some _ c.in-Some.values _ c.in_ok-values.ensures.1 c.in-Some.is)
    (c.at.ensures.reads (each_fault (number_fault 0 greatest) 0 values) (map account_of values) c.read_accounts.ensures)

pub returns-in-None : goal.returns-in-None
returns-in-None c = (
  list_absent _ (c.args.object.now.dot.now ++ c.args.name.now) (each_fault (number_fault 0 greatest) 0) _ c.in_ok-values.ensures.0 (given_none _ _ c.in_ok-values.ensures.1 c.in-None.is) refl,
  rw (c.new.ensures, sym (given_none _ _ c.in_ok-values.ensures.1 c.in-None.is)) refl,
)
