-- Where the first line feed of bytes is.
use Rattle.mum_lines.proofs.Common.{◌≡◌, ℕ, zero, suc, ◌+◌, ◌<◌, ◌≤◌, Bool, true, false, cond, ltb, not, List, [], ◌∷◌, ◌++◌, length, drop, Some, None, refl, ap, arith, length-drop, position, position_or_len, ltb-true, ltb-false, lt-ltb, le-ltb}

module _ {X : Type 0} (p : X → Bool) where
  within-cons : (b : Bool) (n len : ℕ) → n ≤ len → cond (not b) (1 + n) 0 ≤ suc len
  within-cons true n len h = omega arith
  within-cons false n len h = omega arith

  pub first-within : (xs : List X) → position_or_len p xs ≤ length xs
  first-within [] = omega arith
  first-within (x ∷ xs) = within-cons (p x) (position_or_len p xs) (length xs) (first-within xs)

  longer-cons : (b : Bool) (n m : ℕ) → n ≤ m → cond (not b) (1 + n) 0 ≤ cond (not b) (1 + m) 0
  longer-cons true n m h = omega arith
  longer-cons false n m h = omega arith

  -- what follows makes no difference, or the first is later
  pub first-longer : (xs ys : List X) → position_or_len p xs ≤ position_or_len p (xs ++ ys)
  first-longer [] ys = omega arith
  first-longer (x ∷ xs) ys = longer-cons (p x) (position_or_len p xs) (position_or_len p (xs ++ ys)) (first-longer xs ys)

  stays-cons : (b : Bool) (n m len : ℕ) → (n < len → m ≡ n) → cond (not b) (1 + n) 0 < suc len → cond (not b) (1 + m) 0 ≡ cond (not b) (1 + n) 0
  stays-cons true n m len h lt = refl
  stays-cons false n m len h lt = ap (λ (k : ℕ). 1 + k) (h (omega arith))

  -- what was found is found again
  pub first-stays : (xs ys : List X) → position_or_len p xs < length xs → position_or_len p (xs ++ ys) ≡ position_or_len p xs
  first-stays [] ys lt = absurd (omega arith)
  first-stays (x ∷ xs) ys lt = stays-cons (p x) (position_or_len p xs) (position_or_len p (xs ++ ys)) (length xs) (first-stays xs ys) lt

  behind-cons : (b : Bool) (n m k len : ℕ) → (len ≤ n → m ≡ len + k) → suc len ≤ cond (not b) (1 + n) 0 → cond (not b) (1 + m) 0 ≡ suc len + k
  behind-cons true n m k len h le = absurd (omega arith)
  behind-cons false n m k len h le = let e = h (omega arith) in omega (arith, e)

  -- where none is in the first part, it is in the second
  pub first-behind : (xs ys : List X) → length xs ≤ position_or_len p xs → position_or_len p (xs ++ ys) ≡ length xs + position_or_len p ys
  first-behind [] ys le = omega arith
  first-behind (x ∷ xs) ys le = behind-cons (p x) (position_or_len p xs) (position_or_len p (xs ++ ys)) (position_or_len p ys) (length xs) (first-behind xs ys) le

  skip-cons : (b : Bool) (n m k : ℕ) → (k ≤ n → n ≡ k + m) → suc k ≤ cond (not b) (1 + n) 0 → cond (not b) (1 + n) 0 ≡ suc k + m
  skip-cons true n m k h le = absurd (omega arith)
  skip-cons false n m k h le = let e = h (omega arith) in omega (arith, e)

  -- where none is among the first k, it is found after these
  pub first-skip : (k : ℕ) (xs : List X) → k ≤ position_or_len p xs → position_or_len p xs ≡ k + position_or_len p (drop k xs)
  first-skip zero xs le = omega arith
  first-skip (suc k) [] le = absurd (omega arith)
  first-skip (suc k) (x ∷ xs) le = skip-cons (p x) (position_or_len p xs) (position_or_len p (drop k xs)) k (first-skip k xs) le

  -- ---- as an option

  some-by : (b : Bool) (n i : ℕ) → cond b (Some n) None ≡ Some i → (b ≡ true) × (n ≡ i)
  some-by true n i e = (refl, cc)
  some-by false n i e = absurd cc

  none-by : (b : Bool) (n : ℕ) → cond b (Some n) None ≡ None → b ≡ false
  none-by true n e = absurd cc
  none-by false n e = refl

  pub found-at : (xs : List X) (i : ℕ) → position p xs ≡ Some i → (position_or_len p xs ≡ i) × (i < length xs)
  found-at xs i e =
      let f = some-by (ltb (position_or_len p xs) (length xs)) (position_or_len p xs) i e in
      let lt = ltb-true (position_or_len p xs) (length xs) f.0 in
      (f.1, omega (arith, f.1, lt))

  pub found-none : (xs : List X) → position p xs ≡ None → length xs ≤ position_or_len p xs
  found-none xs e = ltb-false (position_or_len p xs) (length xs) (none-by (ltb (position_or_len p xs) (length xs)) (position_or_len p xs) e)

  pub is-found : (xs : List X) (i : ℕ) → position_or_len p xs ≡ i → i < length xs → position p xs ≡ Some i
  is-found xs i e lt =
      let b = lt-ltb (position_or_len p xs) (length xs) (omega (arith, e, lt)) in
      rw (b, e) refl

  pub is-none : (xs : List X) → length xs ≤ position_or_len p xs → position p xs ≡ None
  is-none xs le =
      let b = le-ltb (position_or_len p xs) (length xs) le in
      rw b refl

  -- found after the first k
  pub found-behind : (k : ℕ) (xs : List X) (i : ℕ) → k ≤ position_or_len p xs → k ≤ length xs → position p (drop k xs) ≡ Some i → position p xs ≡ Some (k + i)
  found-behind k xs i le in_range e =
      let f = found-at (drop k xs) i e in
      let s = first-skip k xs le in
      is-found xs (k + i) (omega (arith, s, f.0)) (omega (arith, f.1, length-drop k xs))

  pub none-behind : (k : ℕ) (xs : List X) → k ≤ position_or_len p xs → k ≤ length xs → position p (drop k xs) ≡ None → position p xs ≡ None
  none-behind k xs le in_range e =
      let f = found-none (drop k xs) e in
      let s = first-skip k xs le in
      is-none xs (omega (arith, s, f, length-drop k xs))
