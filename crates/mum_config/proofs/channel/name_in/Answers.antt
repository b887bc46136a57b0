use Rattle.mum_config.proofs.Common.{List, ap, refl, sym, ℕ, ◌&&◌, ◌==◌, ◌∙◌, list_any, bytes_eq, err_from_is_err_and, view, first, later, none_said, not_new, out_of_memory, Bor, channel_name, parent_number, list_any-of_map, inserted, none_against}
use Rattle.mum_config.proofs.Seats.{inserted_seats}
use Rattle.mum_config.proofs.channel.name_in.Goals as goal

pub returns-in_err-name-clause-reads : goal.returns-in_err-name-clause-reads
returns-in_err-name-clause-reads c =
    let p = err_from_is_err_and c.from_residual.result c.from_residual.ensures.1 in
    rw (p.1, p.2) (first _ _ _ (c.in_err-name.ensures))

pub returns-in_err-new_seat-clause-reads : goal.returns-in_err-new_seat-clause-reads
returns-in_err-new_seat-clause-reads c =
    let p = err_from_is_err_and c.from_residual-in_err-new_seat.result c.from_residual-in_err-new_seat.ensures.1 in
    rw p.1 (out_of_memory _ _ p.2)

pub returns-in_err-refuse_if-clause-reads : goal.returns-in_err-refuse_if-clause-reads
returns-in_err-refuse_if-clause-reads c =
    let p = err_from_is_err_and c.from_residual-in_err-refuse_if.result c.from_residual-in_err-refuse_if.ensures.1 in
    rw (p.1, p.2) (later _ _ _ (c.in_ok-name.ensures.0) (first _ _ _ (rw (not_new _ _ c.in_ok-new_seat.ensures.added
    ∙ ap (λ p. list_any (λ k. (p == k.0) && bytes_eq c.in_ok-name.name.now k.1.now) c.args.seats.now.keys) c.requires
    ∙ ap (λ t. list_any (λ k. (parent_number (view c.args.object.now.value.now) == k.0) && bytes_eq t k.1.now) c.args.seats.now.keys) c.in_ok-name.ensures.1
    ∙ sym (list_any-of_map (λ (seat : ℕ × List ℕ). (parent_number (view c.args.object.now.value.now) == seat.0) && bytes_eq (channel_name (view c.args.object.now.value.now)) seat.1) (λ (seat : ℕ × Bor (List ℕ)). (seat.0, seat.1.now)) c.args.seats.now.keys)) at c.in_err-refuse_if.ensures)))

pub returns-clause-reads : goal.returns-clause-reads
returns-clause-reads c = (
  none_said _ _ (c.in_ok-name.ensures.0) (none_said _ _ (rw (not_new _ _ c.in_ok-new_seat.ensures.added
      ∙ ap (λ p. list_any (λ k. (p == k.0) && bytes_eq c.in_ok-name.name.now k.1.now) c.args.seats.now.keys) c.requires
      ∙ ap (λ t. list_any (λ k. (parent_number (view c.args.object.now.value.now) == k.0) && bytes_eq t k.1.now) c.args.seats.now.keys) c.in_ok-name.ensures.1
      ∙ sym (list_any-of_map (λ (seat : ℕ × List ℕ). (parent_number (view c.args.object.now.value.now) == seat.0) && bytes_eq (channel_name (view c.args.object.now.value.now)) seat.1) (λ (seat : ℕ × Bor (List ℕ)). (seat.0, seat.1.now)) c.args.seats.now.keys)) at c.in_ok-refuse_if.ensures.0) (refl)),
  c.in_ok-name.ensures.1,
)

pub returns-clause-seats : goal.returns-clause-seats
returns-clause-seats c =
    inserted_seats c.args.seats.now.keys _ (c.args.parent, c.in_ok-name.name) _ _ (inserted (λ x y. (x.0 == y.0) && bytes_eq x.1.now y.1.now) _ _ _ _ c.in_ok-new_seat.ensures.added c.in_ok-new_seat.ensures.keys (none_against _ _ _ c.in_ok-refuse_if.ensures.0)) c.requires c.in_ok-name.ensures.1
