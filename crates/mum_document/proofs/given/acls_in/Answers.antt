use Rattle.mum_document.proofs.Common.{◌++◌, map, sym, refl, codes, err_from_is_err_and, view, each_fault, entry_fault, entry_of}
use Rattle.mum_document.proofs.{First.first, Lists.given_none, Lists.given_some, Lists.list_absent, Lists.list_faulty, Lists.list_good}
use Rattle.mum_document.proofs.given.acls_in.Goals as goal

pub returns-in_err-values : goal.returns-in_err-values
returns-in_err-values c =
    let p = err_from_is_err_and c.from_residual.result c.from_residual.ensures.1 in
    rw (p.1, p.2) (first _ _ _ c.in_err-values.ensures)

pub returns-in_err-entries-in-Some : goal.returns-in_err-entries-in-Some
returns-in_err-entries-in-Some c =
    let values = map view c.in-Some.values.now in
    let p = err_from_is_err_and c.from_residual-in_err-entries-in-Some.result c.from_residual-in_err-entries-in-Some.ensures.1 in
    rw (p.1, p.2) (list_faulty _ (c.args.object.now.dot.now ++ codes "acls") (each_fault entry_fault 0) _ c.in_ok-values.ensures.0 values _ (given_some _ c.in-Some.values _ c.in_ok-values.ensures.1 c.in-Some.is)
    (c.in_err-entries-in-Some.ensures.reads (each_fault entry_fault 0 values) (map entry_of values) c.read_entries.ensures))

pub returns-in_ok-entries-in-Some : goal.returns-in_ok-entries-in-Some
returns-in_ok-entries-in-Some c =
    let values = map view c.in-Some.values.now in
    let read = c.in_ok-entries-in-Some.ensures.reads (each_fault entry_fault 0 values) (map entry_of values) c.read_entries.ensures in (
      list_good _ (c.args.object.now.dot.now ++ codes "acls") (each_fault entry_fault 0) _ c.in_ok-values.ensures.0 values (given_some _ c.in-Some.values _ c.in_ok-values.ensures.1 c.in-Some.is) read.0,
      rw (sym (given_some _ c.in-Some.values _ c.in_ok-values.ensures.1 c.in-Some.is), read.1) refl,
    )

pub returns-in-None : goal.returns-in-None
returns-in-None c =
    (list_absent _ (c.args.object.now.dot.now ++ codes "acls") (each_fault entry_fault 0) _ c.in_ok-values.ensures.0 (given_none _ _ c.in_ok-values.ensures.1 c.in-None.is) refl, rw (sym (given_none _ _ c.in_ok-values.ensures.1 c.in-None.is)) refl)
