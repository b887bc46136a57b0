use Rattle.mum_document.proofs.Common.{◌++◌, [], map, sym, refl, codes, err_from_is_err_and, view, elements_fault, group_fault, group_of, with_group_met}
use Rattle.mum_document.proofs.{First.first, Lists.given_none, Lists.given_some, Lists.list_absent, Lists.list_faulty, Lists.list_good}
use Rattle.mum_document.proofs.given.groups_in.Goals as goal

pub returns-in_err-values : goal.returns-in_err-values
returns-in_err-values c =
    let p = err_from_is_err_and c.from_residual.result c.from_residual.ensures.1 in
    rw (p.1, p.2) (first _ _ _ c.in_err-values.ensures)

pub returns-in_err-groups-in-Some : goal.returns-in_err-groups-in-Some
returns-in_err-groups-in-Some c =
    let values = map view c.in-Some.values.now in
    let p = err_from_is_err_and c.from_residual-in_err-groups-in-Some.result c.from_residual-in_err-groups-in-Some.ensures.1 in
    rw (p.1, p.2) (list_faulty _ (c.args.object.now.dot.now ++ codes "groups") (elements_fault group_fault with_group_met [] 0) _ c.in_ok-values.ensures.0 values _ (given_some _ c.in-Some.values _ c.in_ok-values.ensures.1 c.in-Some.is)
    (c.in_err-groups-in-Some.ensures.reads (elements_fault group_fault with_group_met [] 0 values) (map group_of values) c.read_groups.ensures))

pub returns-in_ok-groups-in-Some : goal.returns-in_ok-groups-in-Some
returns-in_ok-groups-in-Some c =
    let values = map view c.in-Some.values.now in
    let read = c.in_ok-groups-in-Some.ensures.reads (elements_fault group_fault with_group_met [] 0 values) (map group_of values) c.read_groups.ensures in (
      list_good _ (c.args.object.now.dot.now ++ codes "groups") (elements_fault group_fault with_group_met [] 0) _ c.in_ok-values.ensures.0 values (given_some _ c.in-Some.values _ c.in_ok-values.ensures.1 c.in-Some.is) read.0,
      rw (sym (given_some _ c.in-Some.values _ c.in_ok-values.ensures.1 c.in-Some.is), read.1) refl,
    )

pub returns-in-None : goal.returns-in-None
returns-in-None c =
    (list_absent _ (c.args.object.now.dot.now ++ codes "groups") (elements_fault group_fault with_group_met [] 0) _ c.in_ok-values.ensures.0 (given_none _ _ c.in_ok-values.ensures.1 c.in-None.is) refl, rw (sym (given_none _ _ c.in_ok-values.ensures.1 c.in-None.is)) refl)
