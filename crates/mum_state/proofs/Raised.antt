-- What a count that did not rise says of an edit.
use Rattle.mum_state.proofs.Common.{◌≡◌, ℕ, zero, suc, ◌+◌, ◌≤◌, Bool, true, false, List, [], ◌∷◌, refl, sym, ap, ◌∙◌, arith, Some, slice_get, none-some, same_Some, raised_slots, raised_where, AreAtMost}

pub not_raised : (holds : Bool) (count : ℕ) → raised_where holds count ≤ count → holds ≡ false
not_raised true count stays = absurd (omega (arith, stays))
not_raised false count stays = refl

-- the count of a slot after an edit
pub raised_at : (holds : ℕ → Bool) (from : ℕ) (counts : List ℕ) (i at count : ℕ) → at ≡ from + i → slice_get counts i ≡ Some count
    → slice_get (raised_slots holds from counts) i ≡ Some (raised_where (holds at) count)
raised_at holds from [] i at count is here = absurd (none-some count here)
raised_at holds from (first ∷ counts) zero at count is here =
    let same : at ≡ from = omega (arith, is) in
    ap (λ (n : ℕ). Some (raised_where (holds from) n)) (same_Some first count here)
    ∙ ap (λ (n : ℕ). Some (raised_where (holds n) count)) (sym same)
raised_at holds from (first ∷ counts) (suc i) at count is here = raised_at holds (from + 1) counts i at count (omega (arith, is)) here

pub at_most_at : (before later : List ℕ) (i count also : ℕ) → AreAtMost before later → slice_get before i ≡ Some count → slice_get later i ≡ Some also → count ≤ also
at_most_at [] later i count also most here there = absurd (none-some count here)
at_most_at (b ∷ bs) [] i count also most here there = absurd (none-some also there)
at_most_at (b ∷ bs) (l ∷ ls) zero count also (most, rest) here there =
    let one : b ≡ count = same_Some b count here in
    let other : l ≡ also = same_Some l also there in
    omega (arith, most, one, other)
at_most_at (b ∷ bs) (l ∷ ls) (suc i) count also (most, rest) here there = at_most_at bs ls i count also rest here there
