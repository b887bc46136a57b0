-- Bytes that are cut at line feeds.
use Rattle.mum_record.proofs.Common.{◌≡◌, ℕ, ◌+◌, Bool, true, false, cond, ltb, List, [], ◌∷◌, length, take, drop, Some, None, refl, position, slice_split, position_or_len, slice_split_first, ltb-true, ltb-false}
use Rattle.mum_record.proofs.Splits.{slice_split-whole}

found_by : (b : Bool) (k i : ℕ) → cond b (Some k) None ≡ Some i → (b ≡ true) × (k ≡ i)
found_by true k i e = (refl, cc)
found_by false k i e = absurd cc

lost_by : (b : Bool) (k : ℕ) → cond b (Some k) None ≡ None → b ≡ false
lost_by true k e = absurd cc
lost_by false k e = refl

-- the first part ends at the first place that passes
pub split_at : {X : Type 0} (p : X → Bool) (xs : List X) (d : X) (i : ℕ) → position p xs ≡ Some i → slice_split p xs ≡ take i xs ∷ slice_split p (drop (i + 1) xs)
split_at p xs d i found =
    let f = found_by (ltb (position_or_len p xs) (length xs)) (position_or_len p xs) i found in
    rw (← f.1) (slice_split_first p xs d (ltb-true _ _ f.0))

pub split_nowhere : {X : Type 0} (p : X → Bool) (xs : List X) → position p xs ≡ None → slice_split p xs ≡ xs ∷ []
split_nowhere p xs none = slice_split-whole p xs (ltb-false _ _ (lost_by (ltb (position_or_len p xs) (length xs)) (position_or_len p xs) none))
