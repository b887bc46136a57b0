use Rattle.mum_config.proofs.Common.{refl, sym, err_from_is_err_and, view, end_fault, link_edit, link_fault, with_link_met, number_of, first, later, none_said, out_of_memory}
use Rattle.mum_config.proofs.link.read_link.Goals as goal

pub returns-in_default-clause-reads : goal.returns-in_default-clause-reads
unfolding link_fault
returns-in_default-clause-reads c = rw (sym c.in_default.ensures) c.fault_at.ensures

pub returns-in_err-from-clause-reads : goal.returns-in_err-from-clause-reads
unfolding link_fault
returns-in_err-from-clause-reads c =
    let p = err_from_is_err_and c.from_residual.result c.from_residual.ensures.1 in
    rw (p.1, p.2, sym c.in-Some.ensures) (first _ _ _ (c.in_err-from.ensures.reads (end_fault c.args.depths.now.entries (view c.in-Some.first.now)) (number_of (view c.in-Some.first.now)) c.read_end.ensures))

pub returns-in_err-to-clause-reads : goal.returns-in_err-to-clause-reads
unfolding link_fault
returns-in_err-to-clause-reads c =
    let p = err_from_is_err_and c.from_residual-in_err-to.result c.from_residual-in_err-to.ensures.1 in
    rw (p.1, p.2, sym c.in-Some.ensures) (later _ _ _ (c.in_ok-from.ensures.reads (end_fault c.args.depths.now.entries (view c.in-Some.first.now)) (number_of (view c.in-Some.first.now)) c.read_end.ensures).0 (first _ _ _ (c.in_err-to.ensures.reads (end_fault c.args.depths.now.entries (view c.in-Some.second.now)) (number_of (view c.in-Some.second.now)) c.read_end-2.ensures)))

pub returns-in_err-note-clause-reads : goal.returns-in_err-note-clause-reads
unfolding link_fault
returns-in_err-note-clause-reads c =
    let p = err_from_is_err_and c.from_residual-in_err-note.result c.from_residual-in_err-note.ensures.1 in
    rw (p.1, p.2, sym c.in-Some.ensures) (later _ _ _ (c.in_ok-from.ensures.reads (end_fault c.args.depths.now.entries (view c.in-Some.first.now)) (number_of (view c.in-Some.first.now)) c.read_end.ensures).0 (later _ _ _ (c.in_ok-to.ensures.reads (end_fault c.args.depths.now.entries (view c.in-Some.second.now)) (number_of (view c.in-Some.second.now)) c.read_end-2.ensures).0 (rw ((c.in_ok-from.ensures.reads (end_fault c.args.depths.now.entries (view c.in-Some.first.now)) (number_of (view c.in-Some.first.now)) c.read_end.ensures).1, (c.in_ok-to.ensures.reads (end_fault c.args.depths.now.entries (view c.in-Some.second.now)) (number_of (view c.in-Some.second.now)) c.read_end-2.ensures).1) at c.in_err-note.ensures.reads)))

pub returns-in_err-push_link-clause-reads : goal.returns-in_err-push_link-clause-reads
returns-in_err-push_link-clause-reads c =
    let p = err_from_is_err_and c.from_residual-in_err-push_link.result c.from_residual-in_err-push_link.ensures.1 in
    rw p.1 (out_of_memory _ _ p.2)

pub returns-clause-reads : goal.returns-clause-reads
unfolding link_fault
returns-clause-reads c =
    let from = c.in_ok-from.ensures.reads (end_fault c.args.depths.now.entries (view c.in-Some.first.now)) (number_of (view c.in-Some.first.now)) c.read_end.ensures in
    let to = c.in_ok-to.ensures.reads (end_fault c.args.depths.now.entries (view c.in-Some.second.now)) (number_of (view c.in-Some.second.now)) c.read_end-2.ensures in
    rw (sym c.in-Some.ensures) (none_said _ _ from.0 (none_said _ _ to.0 (rw (from.1, to.1) at c.in_ok-note.ensures.reads.0)), refl)

pub returns-clause-edits : goal.returns-clause-edits
unfolding link_edit
returns-clause-edits c =
    let from = c.in_ok-from.ensures.reads (end_fault c.args.depths.now.entries (view c.in-Some.first.now)) (number_of (view c.in-Some.first.now)) c.read_end.ensures in
    let to = c.in_ok-to.ensures.reads (end_fault c.args.depths.now.entries (view c.in-Some.second.now)) (number_of (view c.in-Some.second.now)) c.read_end-2.ensures in
    rw (c.in_ok-push_link.ensures, sym c.in-Some.ensures, from.1, to.1) refl

pub returns-clause-met : goal.returns-clause-met
unfolding with_link_met
returns-clause-met c = rw (sym c.in-Some.ensures, c.in_ok-note.ensures.ends, (c.in_ok-from.ensures.reads (end_fault c.args.depths.now.entries (view c.in-Some.first.now)) (number_of (view c.in-Some.first.now)) c.read_end.ensures).1, (c.in_ok-to.ensures.reads (end_fault c.args.depths.now.entries (view c.in-Some.second.now)) (number_of (view c.in-Some.second.now)) c.read_end-2.ensures).1) refl
