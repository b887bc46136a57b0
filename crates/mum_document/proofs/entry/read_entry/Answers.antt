use Rattle.mum_document.proofs.Common.{refl, err_from_is_err_and, view, codes, entry_fault, entry_of, right_rows, whom_rows}
use Rattle.mum_document.proofs.First.{first, later, none_said, out_of_memory, rows_first, rows_later, rows_none}
use Rattle.mum_document.proofs.entry.read_entry.Goals as goal

pub returns-in_err-open-clause-reads : goal.returns-in_err-open-clause-reads
unfolding entry_fault
returns-in_err-open-clause-reads c =
    let p = err_from_is_err_and c.from_residual.result c.from_residual.ensures.1 in
    rw (p.1, p.2) (first _ _ _ c.in_err-open.ensures)

pub returns-in_err-whom-clause-reads : goal.returns-in_err-whom-clause-reads
unfolding entry_fault
returns-in_err-whom-clause-reads c =
    let p = err_from_is_err_and c.from_residual-in_err-whom.result c.from_residual-in_err-whom.ensures.1 in
    rw (p.1, p.2) (later _ _ _ c.in_ok-open.ensures.0 (rows_first (codes ".") (whom_rows (view c.args.value.now)) (right_rows (view c.args.value.now)) _ c.in_err-whom.ensures))

pub returns-in-Err-clause-reads : goal.returns-in-Err-clause-reads
unfolding entry_fault
returns-in-Err-clause-reads c =
    later _ _ _ c.in_ok-open.ensures.0 (rows_later (codes ".") (whom_rows (view c.args.value.now)) (right_rows (view c.args.value.now)) _ c.in_ok-whom.ensures.0 c.in-Err.ensures)

pub returns-in_err-push_entry-in-Ok-clause-reads : goal.returns-in_err-push_entry-in-Ok-clause-reads
returns-in_err-push_entry-in-Ok-clause-reads c =
    let p = err_from_is_err_and c.from_residual-in_err-push_entry-in-Ok.result c.from_residual-in_err-push_entry-in-Ok.ensures.1 in
    rw p.1 (out_of_memory _ _ p.2)

pub returns-in_ok-push_entry-in-Ok-clause-reads : goal.returns-in_ok-push_entry-in-Ok-clause-reads
unfolding entry_fault
returns-in_ok-push_entry-in-Ok-clause-reads c = (
  none_said _ _ c.in_ok-open.ensures.0 (rows_none (codes ".") (whom_rows (view c.args.value.now)) (right_rows (view c.args.value.now)) c.in_ok-whom.ensures.0 c.in-Ok.ensures.0),
  refl,
)

pub returns-in_ok-push_entry-in-Ok-clause-entries : goal.returns-in_ok-push_entry-in-Ok-clause-entries
unfolding entry_of
returns-in_ok-push_entry-in-Ok-clause-entries c = rw (c.in_ok-push_entry-in-Ok.ensures, c.in_ok-whom.ensures.1, c.in-Ok.ensures.1) refl
