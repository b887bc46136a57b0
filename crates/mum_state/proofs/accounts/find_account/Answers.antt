use Rattle.mum_state.proofs.Common.{ℕ, Some, get_or, refl, sym, ap, ◌∙◌}
use Rattle.mum_state.proofs.Insertion.{find-at_place, find-no_place}
use Rattle.mum_state.proofs.accounts.find_account.Goals as goal

pub returns-then-is_at : goal.returns-then-is_at
returns-then-is_at c =
    let place = c.place_of-place.ensures.place in
    let within = rw place at (c.if-is_at.ensures.within refl) in
    let there = rw place at (c.if-is_at.ensures.same c.index-accounts-place.result (c.if-is_at.ensures.within refl)) in
    ap Some (c.index-accounts-place.is ∙ ap (λ (k : ℕ). get_or c.args.accounts.now k c.index-accounts-place.result) place)
    ∙ sym (find-at_place c.args.name.now c.args.accounts.now c.index-accounts-place.result within there)

pub returns-else-is_at : goal.returns-else-is_at
returns-else-is_at c =
    let place = c.place_of-place.ensures.place in
    sym (find-no_place c.args.name.now c.args.accounts.now c.requires (λ d lt. rw place at (c.if-is_at.ensures.same d (rw place lt))))
