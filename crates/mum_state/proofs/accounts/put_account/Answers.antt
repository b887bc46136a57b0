use Rattle.mum_state.proofs.Common.{◌∙◌, ℕ, List, insert, ap}
use Rattle.mum_state.proofs.Insertion.{inserted_is, place_for}
use Rattle.mum_state.proofs.accounts.put_account.Goals as goal

pub returns : goal.returns
returns c =
    c.in-Ok.ensures.items
    ∙ ap (λ (k : ℕ). insert c.args.accounts.now.items k c.args.account) (c.place_of-place.ensures.place ∙ ap (λ (name : List ℕ). place_for name c.as_slice.result.now) c.as_str.ensures.value ∙ ap (place_for c.args.account.name) c.as_slice.ensures.value)
    ∙ inserted_is c.args.account c.args.accounts.now.items
