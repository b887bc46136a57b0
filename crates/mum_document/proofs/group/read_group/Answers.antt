use Rattle.mum_document.proofs.Common.{◌++◌, map, refl, codes, err_from_is_err_and, view, new_name_rows, group_fault, group_of, id_rows, inheriting_rows}
use Rattle.mum_document.proofs.First.{first, later, none_said, out_of_memory, rows_first, rows_later, rows_none}
use Rattle.mum_document.proofs.group.read_group.Goals as goal

pub returns-in_err-open-clause-reads : goal.returns-in_err-open-clause-reads
unfolding group_fault
returns-in_err-open-clause-reads c =
    let p = err_from_is_err_and c.from_residual.result c.from_residual.ensures.1 in
    rw (p.1, p.2) (first _ _ _ (c.in_err-open.ensures))

pub returns-in_err-name-clause-reads : goal.returns-in_err-name-clause-reads
unfolding group_fault
returns-in_err-name-clause-reads c =
    let names = new_name_rows (map (λ n. n.now) c.args.names.now.keys) (view c.args.value.now) in
    let rest = inheriting_rows (view c.args.value.now) ++ id_rows (codes "add") (view c.args.value.now) ++ id_rows (codes "remove") (view c.args.value.now) in
    let p = err_from_is_err_and c.from_residual-in_err-name.result c.from_residual-in_err-name.ensures.1 in
    rw (p.1, p.2) (later _ _ _ (c.in_ok-open.ensures.0) (rows_first (codes ".") names rest _ c.in_err-name.ensures.reads))

pub returns-in_err-inherit-clause-reads : goal.returns-in_err-inherit-clause-reads
unfolding group_fault
returns-in_err-inherit-clause-reads c =
    let names = new_name_rows (map (λ n. n.now) c.args.names.now.keys) (view c.args.value.now) in
    let rest = inheriting_rows (view c.args.value.now) ++ id_rows (codes "add") (view c.args.value.now) ++ id_rows (codes "remove") (view c.args.value.now) in
    let p = err_from_is_err_and c.from_residual-in_err-inherit.result c.from_residual-in_err-inherit.ensures.1 in
    rw (p.1, p.2) (later _ _ _ (c.in_ok-open.ensures.0) (rows_later (codes ".") names rest _ c.in_ok-name.ensures.reads.0 (first _ _ _ (c.in_err-inherit.ensures))))

pub returns-in_err-inheritable-clause-reads : goal.returns-in_err-inheritable-clause-reads
unfolding group_fault
returns-in_err-inheritable-clause-reads c =
    let names = new_name_rows (map (λ n. n.now) c.args.names.now.keys) (view c.args.value.now) in
    let rest = inheriting_rows (view c.args.value.now) ++ id_rows (codes "add") (view c.args.value.now) ++ id_rows (codes "remove") (view c.args.value.now) in
    let p = err_from_is_err_and c.from_residual-in_err-inheritable.result c.from_residual-in_err-inheritable.ensures.1 in
    rw (p.1, p.2) (later _ _ _ (c.in_ok-open.ensures.0) (rows_later (codes ".") names rest _ c.in_ok-name.ensures.reads.0 (later _ _ _ (c.in_ok-inherit.ensures.0) (first _ _ _ (c.in_err-inheritable.ensures)))))

pub returns-in_err-add-clause-reads : goal.returns-in_err-add-clause-reads
unfolding group_fault
returns-in_err-add-clause-reads c =
    let names = new_name_rows (map (λ n. n.now) c.args.names.now.keys) (view c.args.value.now) in
    let rest = inheriting_rows (view c.args.value.now) ++ id_rows (codes "add") (view c.args.value.now) ++ id_rows (codes "remove") (view c.args.value.now) in
    let p = err_from_is_err_and c.from_residual-in_err-add.result c.from_residual-in_err-add.ensures.1 in
    rw (p.1, p.2) (later _ _ _ (c.in_ok-open.ensures.0) (rows_later (codes ".") names rest _ c.in_ok-name.ensures.reads.0 (later _ _ _ (c.in_ok-inherit.ensures.0) (later _ _ _ (c.in_ok-inheritable.ensures.0) (rows_first (codes ".") (id_rows (codes "add") (view c.args.value.now)) (id_rows (codes "remove") (view c.args.value.now)) _ (c.in_err-add.ensures))))))

pub returns-in-Err-clause-reads : goal.returns-in-Err-clause-reads
unfolding group_fault
returns-in-Err-clause-reads c =
    let names = new_name_rows (map (λ n. n.now) c.args.names.now.keys) (view c.args.value.now) in
    let rest = inheriting_rows (view c.args.value.now) ++ id_rows (codes "add") (view c.args.value.now) ++ id_rows (codes "remove") (view c.args.value.now) in
    (later _ _ _ (c.in_ok-open.ensures.0) (rows_later (codes ".") names rest _ c.in_ok-name.ensures.reads.0 (later _ _ _ (c.in_ok-inherit.ensures.0) (later _ _ _ (c.in_ok-inheritable.ensures.0) (rows_later (codes ".") (id_rows (codes "add") (view c.args.value.now)) (id_rows (codes "remove") (view c.args.value.now)) _ (c.in_ok-add.ensures.0) (c.in-Err.ensures))))))

pub returns-in_ok-push_group-in-Ok-clause-reads : goal.returns-in_ok-push_group-in-Ok-clause-reads
unfolding group_fault
returns-in_ok-push_group-in-Ok-clause-reads c =
    let names = new_name_rows (map (λ n. n.now) c.args.names.now.keys) (view c.args.value.now) in
    let rest = inheriting_rows (view c.args.value.now) ++ id_rows (codes "add") (view c.args.value.now) ++ id_rows (codes "remove") (view c.args.value.now) in (
      none_said _ _ (c.in_ok-open.ensures.0) (rows_none (codes ".") names rest c.in_ok-name.ensures.reads.0 (none_said _ _ (c.in_ok-inherit.ensures.0) (none_said _ _ (c.in_ok-inheritable.ensures.0) (rows_none (codes ".") (id_rows (codes "add") (view c.args.value.now)) (id_rows (codes "remove") (view c.args.value.now)) (c.in_ok-add.ensures.0) (c.in-Ok.ensures.0))))),
      refl,
    )

pub returns-in_err-push_group-in-Ok-clause-reads : goal.returns-in_err-push_group-in-Ok-clause-reads
returns-in_err-push_group-in-Ok-clause-reads c =
    let p = err_from_is_err_and c.from_residual-in_err-push_group-in-Ok.result c.from_residual-in_err-push_group-in-Ok.ensures.1 in
    rw p.1 (out_of_memory _ _ p.2)

pub returns-in_ok-push_group-in-Ok-clause-groups : goal.returns-in_ok-push_group-in-Ok-clause-groups
unfolding group_of
returns-in_ok-push_group-in-Ok-clause-groups c =
    rw (c.in_ok-push_group-in-Ok.ensures, c.in_ok-name.ensures.reads.1, c.unwrap_or-inherit.ensures, c.in_ok-inherit.ensures.1, c.unwrap_or-inheritable.ensures, c.in_ok-inheritable.ensures.1, c.in_ok-add.ensures.1, c.in-Ok.ensures.1) refl

pub returns-in_ok-push_group-in-Ok-clause-names : goal.returns-in_ok-push_group-in-Ok-clause-names
returns-in_ok-push_group-in-Ok-clause-names c = c.in_ok-name.ensures.names
