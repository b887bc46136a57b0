use Rattle.mum_state.proofs.Common.{◌∙◌, ℕ, insert, ap}
use Rattle.mum_state.proofs.Insertion.{place_of}
use Rattle.mum_state.proofs.accounts.put_number.Goals as goal

pub returns : goal.returns
returns c =
    c.in-Ok.ensures.items
    ∙ ap (λ (k : ℕ). insert c.args.numbers.now.items k c.args.number) (c.place_of_number-place.ensures.place ∙ ap (place_of c.args.number) c.as_slice.ensures.value)
