use Rattle.mum_config.proofs.Common.{[], ◌∷◌, ◌++◌, map, ap, refl, ◌∙◌, err_from_is_err_and, first, later, none_said, not_new, out_of_memory, rows_first, rows_later, rows_none, list_any, codes, nat_eq, get, view, account_edit, account_fault, new_name_rows, digest_fault, needed, inserted, none_against}
use Rattle.mum_config.proofs.account.read_account.Goals as goal

pub returns-in_err-open-clause-reads : goal.returns-in_err-open-clause-reads
unfolding account_fault
returns-in_err-open-clause-reads c =
    let p = err_from_is_err_and c.from_residual.result c.from_residual.ensures.1 in
    rw (p.1, p.2) (first _ _ _ (c.in_err-open.ensures))

pub returns-in_err-number-clause-reads : goal.returns-in_err-number-clause-reads
unfolding account_fault
returns-in_err-number-clause-reads c =
    let p = err_from_is_err_and c.from_residual-in_err-number.result c.from_residual-in_err-number.ensures.1 in
    rw (p.1, p.2) (later _ _ _ (c.in_ok-open.ensures.0) (first _ _ _ (c.in_err-number.ensures)))

pub returns-in_err-new_number-clause-reads : goal.returns-in_err-new_number-clause-reads
unfolding account_fault
returns-in_err-new_number-clause-reads c =
    let p = err_from_is_err_and c.from_residual-in_err-new_number.result c.from_residual-in_err-new_number.ensures.1 in
    rw p.1 (out_of_memory _ _ p.2)

pub returns-in_err-refuse_if-clause-reads : goal.returns-in_err-refuse_if-clause-reads
unfolding account_fault
returns-in_err-refuse_if-clause-reads c =
    let p = err_from_is_err_and c.from_residual-in_err-refuse_if.result c.from_residual-in_err-refuse_if.ensures.1 in
    rw (p.1, p.2) (later _ _ _ (c.in_ok-open.ensures.0) (later _ _ _ (c.in_ok-number.ensures.0) (first _ _ _ (rw (not_new _ _ c.in_ok-new_number.ensures.added ∙ ap (λ n. list_any (nat_eq n) c.args.numbers.now.keys) c.in_ok-number.ensures.1) at c.in_err-refuse_if.ensures))))

pub returns-in_err-name-clause-reads : goal.returns-in_err-name-clause-reads
unfolding account_fault
returns-in_err-name-clause-reads c =
    let names = new_name_rows (map (λ n. n.now) c.args.names.now.keys) (view c.args.value.now) in
    let rest = (codes "password_sha256", needed digest_fault (get (codes "password_sha256") (view c.args.value.now))) ∷ [] in
    let p = err_from_is_err_and c.from_residual-in_err-name.result c.from_residual-in_err-name.ensures.1 in
    rw (p.1, p.2) (later _ _ _ (c.in_ok-open.ensures.0) (later _ _ _ (c.in_ok-number.ensures.0) (later _ _ _ (rw (not_new _ _ c.in_ok-new_number.ensures.added ∙ ap (λ n. list_any (nat_eq n) c.args.numbers.now.keys) c.in_ok-number.ensures.1) at c.in_ok-refuse_if.ensures.0) (rows_first (codes ".") names rest _ c.in_err-name.ensures.reads))))

pub returns-in_err-digest-clause-reads : goal.returns-in_err-digest-clause-reads
unfolding account_fault
returns-in_err-digest-clause-reads c =
    let names = new_name_rows (map (λ n. n.now) c.args.names.now.keys) (view c.args.value.now) in
    let rest = (codes "password_sha256", needed digest_fault (get (codes "password_sha256") (view c.args.value.now))) ∷ [] in
    let p = err_from_is_err_and c.from_residual-in_err-digest.result c.from_residual-in_err-digest.ensures.1 in
    rw (p.1, p.2) (later _ _ _ (c.in_ok-open.ensures.0) (later _ _ _ (c.in_ok-number.ensures.0) (later _ _ _ (rw (not_new _ _ c.in_ok-new_number.ensures.added ∙ ap (λ n. list_any (nat_eq n) c.args.numbers.now.keys) c.in_ok-number.ensures.1) at c.in_ok-refuse_if.ensures.0) (rows_later (codes ".") names rest _ c.in_ok-name.ensures.reads.0 (first _ _ _ (c.in_err-digest.ensures))))))

pub returns-clause-reads : goal.returns-clause-reads
unfolding account_fault
returns-clause-reads c =
    let names = new_name_rows (map (λ n. n.now) c.args.names.now.keys) (view c.args.value.now) in
    let rest = (codes "password_sha256", needed digest_fault (get (codes "password_sha256") (view c.args.value.now))) ∷ [] in (
      none_said _ _ (c.in_ok-open.ensures.0) (none_said _ _ (c.in_ok-number.ensures.0) (none_said _ _ (rw (not_new _ _ c.in_ok-new_number.ensures.added ∙ ap (λ n. list_any (nat_eq n) c.args.numbers.now.keys) c.in_ok-number.ensures.1) at c.in_ok-refuse_if.ensures.0) (rows_none (codes ".") names rest c.in_ok-name.ensures.reads.0 (none_said _ _ (c.in_ok-digest.ensures.0) refl)))),
      refl,
    )

pub returns-in_err-push_account-clause-reads : goal.returns-in_err-push_account-clause-reads
unfolding account_fault
returns-in_err-push_account-clause-reads c =
    let p = err_from_is_err_and c.from_residual-in_err-push_account.result c.from_residual-in_err-push_account.ensures.1 in
    rw p.1 (out_of_memory _ _ p.2)

pub returns-clause-edits : goal.returns-clause-edits
unfolding account_edit
returns-clause-edits c = rw (c.in_ok-push_account.ensures, c.in_ok-number.ensures.1, c.in_ok-name.ensures.reads.1, c.in_ok-digest.ensures.1) refl

pub returns-clause-numbers : goal.returns-clause-numbers
returns-clause-numbers c =
    inserted nat_eq _ _ _ _ c.in_ok-new_number.ensures.added c.in_ok-new_number.ensures.keys (none_against _ _ _ c.in_ok-refuse_if.ensures.0)
    ∙ ap (λ n. c.args.numbers.now.keys ++ n ∷ []) c.in_ok-number.ensures.1

pub returns-clause-names : goal.returns-clause-names
returns-clause-names c = c.in_ok-name.ensures.names
