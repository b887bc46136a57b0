use Rattle.mum_users.proofs.Common.{ℕ, Some, get_or, refl, sym, ap, ◌∙◌}
use Rattle.mum_users.proofs.Search.{find-at_place, find-no_place}
use Rattle.mum_users.proofs.target.row_of_target.Goals as goal

pub returns-then-is_at : goal.returns-then-is_at
returns-then-is_at c =
    let place = c.place_of-place.ensures.place in
    let within = rw place at (c.if-is_at.ensures.within refl) in
    let there = rw place at (c.if-is_at.ensures.same c.index-rows-place.result (c.if-is_at.ensures.within refl)) in
    ap Some (c.index-rows-place.is ∙ ap (λ (k : ℕ). get_or c.args.rows.now k c.index-rows-place.result) place)
    ∙ sym (find-at_place c.args.session c.args.id c.args.rows.now c.index-rows-place.result within there)

pub returns-else-is_at : goal.returns-else-is_at
returns-else-is_at c =
    let place = c.place_of-place.ensures.place in
    sym (find-no_place c.args.session c.args.id c.args.rows.now c.requires (λ d lt. rw place at (c.if-is_at.ensures.same d (rw place lt))))
