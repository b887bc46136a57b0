use Rattle.mum_document.proofs.Common.{sym, ap, refl, ◌∙◌, codes, list_any, bytes_eq, err_from_is_err_and, view, text_at}
use Rattle.mum_document.proofs.{First.first, First.later, First.none_said, First.not_new, First.out_of_memory, Objects.list_any-now, Sets.inserted, Sets.inserted_names, Sets.none_against}
use Rattle.mum_document.proofs.name.new_name.Goals as goal

pub returns-in_err-name-clause-reads : goal.returns-in_err-name-clause-reads
returns-in_err-name-clause-reads c =
    let p = err_from_is_err_and c.from_residual.result c.from_residual.ensures.1 in
    rw (p.1, p.2) (first _ _ _ c.in_err-name.ensures)

pub returns-in_err-is_new-clause-reads : goal.returns-in_err-is_new-clause-reads
returns-in_err-is_new-clause-reads c =
    let p = err_from_is_err_and c.from_residual-in_err-is_new.result c.from_residual-in_err-is_new.ensures.1 in
    rw p.1 (out_of_memory _ _ p.2)

pub returns-in_err-refuse_if-clause-reads : goal.returns-in_err-refuse_if-clause-reads
returns-in_err-refuse_if-clause-reads c =
    let p = err_from_is_err_and c.from_residual-in_err-refuse_if.result c.from_residual-in_err-refuse_if.ensures.1 in
    let twice =
    not_new _ _ c.in_ok-is_new.ensures.added
    ∙ ap (λ text. list_any (λ k. bytes_eq text k.now) c.args.names.now.keys) c.in_ok-name.ensures.1
    ∙ sym (list_any-now (bytes_eq (text_at (codes "name") (view c.args.object.now.value.now))) c.args.names.now.keys) in
    rw (p.1, p.2) (later _ _ _ c.in_ok-name.ensures.0 (first _ _ _ (rw twice at c.in_err-refuse_if.ensures)))

pub returns-clause-reads : goal.returns-clause-reads
returns-clause-reads c =
    let twice =
    not_new _ _ c.in_ok-is_new.ensures.added
    ∙ ap (λ text. list_any (λ k. bytes_eq text k.now) c.args.names.now.keys) c.in_ok-name.ensures.1
    ∙ sym (list_any-now (bytes_eq (text_at (codes "name") (view c.args.object.now.value.now))) c.args.names.now.keys) in
    (none_said _ _ c.in_ok-name.ensures.0 (none_said _ _ (rw twice at c.in_ok-refuse_if.ensures.0) refl), c.in_ok-name.ensures.1)

pub returns-clause-names : goal.returns-clause-names
returns-clause-names c =
    inserted_names c.args.names.now.keys _ c.in_ok-name.name _ (inserted (λ x y. bytes_eq x.now y.now) _ _ _ _ c.in_ok-is_new.ensures.added c.in_ok-is_new.ensures.keys (none_against _ _ _ c.in_ok-refuse_if.ensures.0)) c.in_ok-name.ensures.1
