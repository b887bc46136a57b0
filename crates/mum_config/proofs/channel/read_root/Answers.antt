use Rattle.mum_config.proofs.Common.{append_assoc, ◌++◌, refl, codes, err_from_is_err_and, view, first, later, none_said, out_of_memory, rows_first, rows_later, rows_none, channel_edits, number_rows, root_fault, with_channel_met, info_rows, policy_rows}
use Rattle.mum_config.proofs.channel.read_root.Goals as goal

pub returns-in_err-open-clause-reads : goal.returns-in_err-open-clause-reads
unfolding root_fault
returns-in_err-open-clause-reads c =
    let p = err_from_is_err_and c.from_residual.result c.from_residual.ensures.1 in
    rw (p.1, p.2) (first _ _ _ (c.in_err-open.ensures))

pub returns-in_err-number-clause-reads : goal.returns-in_err-number-clause-reads
unfolding root_fault
returns-in_err-number-clause-reads c =
    let p = err_from_is_err_and c.from_residual-in_err-number.result c.from_residual-in_err-number.ensures.1 in
    rw (p.1, p.2) (later _ _ _ (c.in_ok-open.ensures.0) (rows_first (codes ".") (number_rows c.args.met.now.last (view c.args.value.now)) ((info_rows (view c.args.value.now)) ++ (policy_rows (view c.args.value.now))) _ (c.in_err-number.ensures)))

pub returns-in_err-info-clause-reads : goal.returns-in_err-info-clause-reads
unfolding root_fault
returns-in_err-info-clause-reads c =
    let p = err_from_is_err_and c.from_residual-in_err-info.result c.from_residual-in_err-info.ensures.1 in
    rw (p.1, p.2) (later _ _ _ (c.in_ok-open.ensures.0) (rows_later (codes ".") (number_rows c.args.met.now.last (view c.args.value.now)) ((info_rows (view c.args.value.now)) ++ (policy_rows (view c.args.value.now))) _ (c.in_ok-number.ensures.0) (rows_first (codes ".") (info_rows (view c.args.value.now)) (policy_rows (view c.args.value.now)) _ (c.in_err-info.ensures))))

pub returns-in_err-add_policy-clause-reads : goal.returns-in_err-add_policy-clause-reads
unfolding root_fault
returns-in_err-add_policy-clause-reads c =
    let p = err_from_is_err_and c.from_residual-in_err-add_policy.result c.from_residual-in_err-add_policy.ensures.1 in
    rw (p.1, p.2) (later _ _ _ (c.in_ok-open.ensures.0) (rows_later (codes ".") (number_rows c.args.met.now.last (view c.args.value.now)) ((info_rows (view c.args.value.now)) ++ (policy_rows (view c.args.value.now))) _ (c.in_ok-number.ensures.0) (rows_later (codes ".") (info_rows (view c.args.value.now)) (policy_rows (view c.args.value.now)) _ (c.in_ok-info.ensures.0) c.in_err-add_policy.ensures.reads)))

pub returns-in_err-push_root_edit-clause-reads : goal.returns-in_err-push_root_edit-clause-reads
unfolding root_fault
returns-in_err-push_root_edit-clause-reads c =
    let p = err_from_is_err_and c.from_residual-in_err-push_root_edit.result c.from_residual-in_err-push_root_edit.ensures.1 in
    rw p.1 (out_of_memory _ _ p.2)

pub returns-clause-reads : goal.returns-clause-reads
unfolding root_fault
returns-clause-reads c = (
  none_said _ _ (c.in_ok-open.ensures.0) (rows_none (codes ".") (number_rows c.args.met.now.last (view c.args.value.now)) ((info_rows (view c.args.value.now)) ++ (policy_rows (view c.args.value.now))) (c.in_ok-number.ensures.0) (rows_none (codes ".") (info_rows (view c.args.value.now)) (policy_rows (view c.args.value.now)) (c.in_ok-info.ensures.0) c.in_ok-add_policy.ensures.reads.0)),
  refl,
)

pub returns-clause-met : goal.returns-clause-met
unfolding with_channel_met
returns-clause-met c = rw (c.requires, c.in_ok-number.ensures.1) refl

pub returns-clause-edits : goal.returns-clause-edits
unfolding channel_edits
returns-clause-edits c =
    rw (c.in_ok-add_policy.ensures.edits, c.in_ok-push_root_edit.ensures, c.requires, c.in_ok-info.ensures.1, c.in_ok-number.ensures.1) (simp append_assoc)
