-- What one test passes in a list that rises is in one place.
use Rattle.mum_users.proofs.Common.{◌≡◌, ℕ, ◌-◌, Bool, true, false, not, List, [], ◌∷◌, length, take, drop, refl, sym, ap, ◌∙◌, IsTrue, ⊤, filter, position_or_len, take_rest, IsBelowAll, Rises}
use Rattle.mum_users.proofs.Places.{one_more}

-- what is lower comes before what passes, and nothing passes after what neither is
module _ {X : Type 0} (below : X → X → Bool) (lower same : X → Bool)
    (lower_other : (x : X) → lower x ≡ true → same x ≡ false)
    (not_lower : (x y : X) → IsTrue (below x y) → lower x ≡ false → lower y ≡ false)
    (not_same : (x y : X) → IsTrue (below x y) → lower x ≡ false → same x ≡ false → same y ≡ false) where
  none_after : (x : X) (xs : List X) → IsBelowAll below x xs → lower x ≡ false → same x ≡ false → filter same xs ≡ []
  none_after x [] all l s = refl
  none_after x (y ∷ ys) all l s = rw (not_same x y all.0 l s) (none_after x ys all.1 l s)

  abbrev FirstIsNotLower : List X → Type 0
  FirstIsNotLower [] = ⊤
  FirstIsNotLower (x ∷ xs) = lower x ≡ false

  abbrev count : List X → ℕ
  count xs = position_or_len (λ x. not (same x)) xs

  run_from : (xs : List X) → Rises below xs → FirstIsNotLower xs → take (count xs) xs ≡ filter same xs
  run_from [] rise h = refl
  run_from (x ∷ xs) rise h = split (same x) refl (run_from xs rise.1 (next xs rise.0))
    where
      next : (ys : List X) → IsBelowAll below x ys → FirstIsNotLower ys
      next [] all = tt
      next (y ∷ ys) all = not_lower x y all.0 h

      split : (b : Bool) → same x ≡ b → take (count xs) xs ≡ filter same xs → take (count (x ∷ xs)) (x ∷ xs) ≡ filter same (x ∷ xs)
      split true e rest = rw (e, one_more (count xs)) (ap (λ ys. x ∷ ys) rest)
      split false e rest = rw e (sym (none_after x xs rise.0 h e))

  pub run : (xs : List X) → Rises below xs → take (count (drop (position_or_len (λ x. not (lower x)) xs) xs)) (drop (position_or_len (λ x. not (lower x)) xs) xs) ≡ filter same xs
  run [] rise = refl
  run (x ∷ xs) rise = split (lower x) refl (run xs rise.1)
    where
      split : (b : Bool) → lower x ≡ b → take (count (drop (position_or_len (λ y. not (lower y)) xs) xs)) (drop (position_or_len (λ y. not (lower y)) xs) xs) ≡ filter same xs → take (count (drop (position_or_len (λ y. not (lower y)) (x ∷ xs)) (x ∷ xs))) (drop (position_or_len (λ y. not (lower y)) (x ∷ xs)) (x ∷ xs)) ≡ filter same (x ∷ xs)
      split true e rest = rw (e, one_more (position_or_len (λ y. not (lower y)) xs), lower_other x e) rest
      split false e rest = rw e (run_from (x ∷ xs) rise e)

  -- the same, as code cuts it out
  pub run_found : (xs : List X) → Rises below xs → (i n : ℕ) → i ≡ position_or_len (λ x. not (lower x)) xs → n ≡ position_or_len (λ x. not (same x)) (take (length xs - i) (drop i xs)) → take n (take (length xs - i) (drop i xs)) ≡ filter same xs
  run_found xs rise i n at counted =
      ap (take n) (take_rest xs i) ∙ ap (λ (k : ℕ). take k (drop i xs)) (counted ∙ ap count (take_rest xs i))
      ∙ ap (λ (k : ℕ). take (count (drop k xs)) (drop k xs)) at ∙ run xs rise
