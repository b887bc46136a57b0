use Rattle.mum_config.proofs.Common.{append_assoc, ◌++◌, ap, refl, codes, err_from_is_err_and, view, first, later, none_said, out_of_memory, rows_first, rows_later, rows_none, channel_edits, made_fault, name_rows, number_rows, parent_rows, seats_of, with_channel_met, info_rows, policy_rows}
use Rattle.mum_config.proofs.channel.read_made.Goals as goal

pub returns-in_err-open-clause-reads : goal.returns-in_err-open-clause-reads
unfolding made_fault
returns-in_err-open-clause-reads c =
    let p = err_from_is_err_and c.from_residual.result c.from_residual.ensures.1 in
    rw (p.1, p.2) (first _ _ _ (c.in_err-open.ensures))

pub returns-in_err-number-clause-reads : goal.returns-in_err-number-clause-reads
unfolding made_fault
returns-in_err-number-clause-reads c =
    let p = err_from_is_err_and c.from_residual-in_err-number.result c.from_residual-in_err-number.ensures.1 in
    rw (p.1, p.2) (later _ _ _ (c.in_ok-open.ensures.0) (rows_first (codes ".") (number_rows c.args.met.now.last (view c.args.value.now)) ((parent_rows c.args.met.now.depths.entries (view c.args.value.now)) ++ (name_rows (seats_of c.args.met.now.seats.keys) (view c.args.value.now)) ++ (info_rows (view c.args.value.now)) ++ (policy_rows (view c.args.value.now))) _ (c.in_err-number.ensures)))

pub returns-in_err-parent-clause-reads : goal.returns-in_err-parent-clause-reads
unfolding made_fault
returns-in_err-parent-clause-reads c =
    let p = err_from_is_err_and c.from_residual-in_err-parent.result c.from_residual-in_err-parent.ensures.1 in
    rw (p.1, p.2) (later _ _ _ (c.in_ok-open.ensures.0) (rows_later (codes ".") (number_rows c.args.met.now.last (view c.args.value.now)) ((parent_rows c.args.met.now.depths.entries (view c.args.value.now)) ++ (name_rows (seats_of c.args.met.now.seats.keys) (view c.args.value.now)) ++ (info_rows (view c.args.value.now)) ++ (policy_rows (view c.args.value.now))) _ (c.in_ok-number.ensures.0) (rows_first (codes ".") (parent_rows c.args.met.now.depths.entries (view c.args.value.now)) ((name_rows (seats_of c.args.met.now.seats.keys) (view c.args.value.now)) ++ (info_rows (view c.args.value.now)) ++ (policy_rows (view c.args.value.now))) _ (c.in_err-parent.ensures.reads))))

pub returns-in_err-name-clause-reads : goal.returns-in_err-name-clause-reads
unfolding made_fault
returns-in_err-name-clause-reads c =
    let p = err_from_is_err_and c.from_residual-in_err-name.result c.from_residual-in_err-name.ensures.1 in
    rw (p.1, p.2) (later _ _ _ (c.in_ok-open.ensures.0) (rows_later (codes ".") (number_rows c.args.met.now.last (view c.args.value.now)) ((parent_rows c.args.met.now.depths.entries (view c.args.value.now)) ++ (name_rows (seats_of c.args.met.now.seats.keys) (view c.args.value.now)) ++ (info_rows (view c.args.value.now)) ++ (policy_rows (view c.args.value.now))) _ (c.in_ok-number.ensures.0) (rows_later (codes ".") (parent_rows c.args.met.now.depths.entries (view c.args.value.now)) ((name_rows (seats_of c.args.met.now.seats.keys) (view c.args.value.now)) ++ (info_rows (view c.args.value.now)) ++ (policy_rows (view c.args.value.now))) _ (c.in_ok-parent.ensures.reads.0) (rows_first (codes ".") (name_rows (seats_of c.args.met.now.seats.keys) (view c.args.value.now)) ((info_rows (view c.args.value.now)) ++ (policy_rows (view c.args.value.now))) _ (c.in_err-name.ensures.reads)))))

pub returns-in_err-info-clause-reads : goal.returns-in_err-info-clause-reads
unfolding made_fault
returns-in_err-info-clause-reads c =
    let p = err_from_is_err_and c.from_residual-in_err-info.result c.from_residual-in_err-info.ensures.1 in
    rw (p.1, p.2) (later _ _ _ (c.in_ok-open.ensures.0) (rows_later (codes ".") (number_rows c.args.met.now.last (view c.args.value.now)) ((parent_rows c.args.met.now.depths.entries (view c.args.value.now)) ++ (name_rows (seats_of c.args.met.now.seats.keys) (view c.args.value.now)) ++ (info_rows (view c.args.value.now)) ++ (policy_rows (view c.args.value.now))) _ (c.in_ok-number.ensures.0) (rows_later (codes ".") (parent_rows c.args.met.now.depths.entries (view c.args.value.now)) ((name_rows (seats_of c.args.met.now.seats.keys) (view c.args.value.now)) ++ (info_rows (view c.args.value.now)) ++ (policy_rows (view c.args.value.now))) _ (c.in_ok-parent.ensures.reads.0) (rows_later (codes ".") (name_rows (seats_of c.args.met.now.seats.keys) (view c.args.value.now)) ((info_rows (view c.args.value.now)) ++ (policy_rows (view c.args.value.now))) _ (c.in_ok-name.ensures.reads.0) (rows_first (codes ".") (info_rows (view c.args.value.now)) (policy_rows (view c.args.value.now)) _ (c.in_err-info.ensures))))))

pub returns-in_err-add_policy-clause-reads : goal.returns-in_err-add_policy-clause-reads
unfolding made_fault
returns-in_err-add_policy-clause-reads c =
    let p = err_from_is_err_and c.from_residual-in_err-add_policy.result c.from_residual-in_err-add_policy.ensures.1 in
    rw (p.1, p.2) (later _ _ _ (c.in_ok-open.ensures.0) (rows_later (codes ".") (number_rows c.args.met.now.last (view c.args.value.now)) ((parent_rows c.args.met.now.depths.entries (view c.args.value.now)) ++ (name_rows (seats_of c.args.met.now.seats.keys) (view c.args.value.now)) ++ (info_rows (view c.args.value.now)) ++ (policy_rows (view c.args.value.now))) _ (c.in_ok-number.ensures.0) (rows_later (codes ".") (parent_rows c.args.met.now.depths.entries (view c.args.value.now)) ((name_rows (seats_of c.args.met.now.seats.keys) (view c.args.value.now)) ++ (info_rows (view c.args.value.now)) ++ (policy_rows (view c.args.value.now))) _ (c.in_ok-parent.ensures.reads.0) (rows_later (codes ".") (name_rows (seats_of c.args.met.now.seats.keys) (view c.args.value.now)) ((info_rows (view c.args.value.now)) ++ (policy_rows (view c.args.value.now))) _ (c.in_ok-name.ensures.reads.0) (rows_later (codes ".") (info_rows (view c.args.value.now)) (policy_rows (view c.args.value.now)) _ (c.in_ok-info.ensures.0) c.in_err-add_policy.ensures.reads)))))

pub returns-in_err-insert-clause-reads : goal.returns-in_err-insert-clause-reads
unfolding made_fault
returns-in_err-insert-clause-reads c =
    let p = err_from_is_err_and c.from_residual-in_err-insert.result c.from_residual-in_err-insert.ensures.1 in
    rw p.1 (out_of_memory _ _ p.2)

pub returns-in_err-push_made-clause-reads : goal.returns-in_err-push_made-clause-reads
unfolding made_fault
returns-in_err-push_made-clause-reads c =
    let p = err_from_is_err_and c.from_residual-in_err-push_made.result c.from_residual-in_err-push_made.ensures.1 in
    rw p.1 (out_of_memory _ _ p.2)

pub returns-clause-reads : goal.returns-clause-reads
unfolding made_fault
returns-clause-reads c = (
  none_said _ _ (c.in_ok-open.ensures.0) (rows_none (codes ".") (number_rows c.args.met.now.last (view c.args.value.now)) ((parent_rows c.args.met.now.depths.entries (view c.args.value.now)) ++ (name_rows (seats_of c.args.met.now.seats.keys) (view c.args.value.now)) ++ (info_rows (view c.args.value.now)) ++ (policy_rows (view c.args.value.now))) (c.in_ok-number.ensures.0) (rows_none (codes ".") (parent_rows c.args.met.now.depths.entries (view c.args.value.now)) ((name_rows (seats_of c.args.met.now.seats.keys) (view c.args.value.now)) ++ (info_rows (view c.args.value.now)) ++ (policy_rows (view c.args.value.now))) (c.in_ok-parent.ensures.reads.0) (rows_none (codes ".") (name_rows (seats_of c.args.met.now.seats.keys) (view c.args.value.now)) ((info_rows (view c.args.value.now)) ++ (policy_rows (view c.args.value.now))) (c.in_ok-name.ensures.reads.0) (rows_none (codes ".") (info_rows (view c.args.value.now)) (policy_rows (view c.args.value.now)) (c.in_ok-info.ensures.0) c.in_ok-add_policy.ensures.reads.0)))),
  refl,
)

pub returns-clause-met : goal.returns-clause-met
unfolding with_channel_met
returns-clause-met c =
    rw (c.requires, c.in_ok-insert.ensures.entries, c.in_ok-name.ensures.seats, c.in_ok-number.ensures.1, ap (λ p. p.depth) c.in_ok-parent.ensures.reads.1) refl

pub returns-clause-edits : goal.returns-clause-edits
unfolding channel_edits
returns-clause-edits c =
    rw (c.in_ok-add_policy.ensures.edits, c.in_ok-push_made.ensures, c.requires, c.in_ok-info.ensures.1, c.in_ok-name.ensures.reads.1, c.in_ok-number.ensures.1, ap (λ p. p.number) c.in_ok-parent.ensures.reads.1)
    (simp append_assoc)

pub name_in-requires : goal.name_in-requires
name_in-requires c = ap (λ p. p.number) c.in_ok-parent.ensures.reads.1
