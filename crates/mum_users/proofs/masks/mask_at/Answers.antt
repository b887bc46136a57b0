use Rattle.mum_users.proofs.Common.{ℕ, get_or, refl, sym, ap, ◌∙◌, MaskRow}
use Rattle.mum_users.proofs.MaskRows.{mask_at-absent, mask_at-there}
use Rattle.mum_users.proofs.masks.mask_at.Goals as goal

pub returns-then-is_at : goal.returns-then-is_at
returns-then-is_at c =
    let none : MaskRow = record { channel = record { 0 = 0 }; word = 0; mask = 0 } in
    let place = c.place_of-place.ensures.place in
    let inside = c.if-is_at.ensures.within refl in
    let within = rw place at inside in
    let there = rw place at (c.if-is_at.ensures.same none inside) in
    ap (λ (k : ℕ). (get_or c.args.rows.now k none).mask) place
    ∙ sym (mask_at-there c.args.channel c.args.word c.args.rows.now none within there)

pub returns-else-is_at : goal.returns-else-is_at
returns-else-is_at c =
    let place = c.place_of-place.ensures.place in
    sym (mask_at-absent c.args.channel c.args.word c.args.rows.now c.requires (λ d lt. rw place at (c.if-is_at.ensures.same d (rw place lt))))
