-- When there is no varint at the front, and why.
use Rattle.mum_fields.proofs.Common.{◌≡◌, ℕ, zero, suc, ◌-◌, ◌<◌, ◌≤◌, Bool, true, false, cond, ltb, List, [], ◌∷◌, length, Result, Ok, Err, refl, arith, le-ltb, lt-ltb, ltb-true, ltb-false, FaultKind, Truncated, BadVarint, above, varint_with, varint, HaveTops, PassesTen}

abbrev Found : Type 0
Found = Result (ℕ × ℕ) FaultKind

abbrev failed : FaultKind → Found
failed kind = Err kind

above_failed : (low : ℕ) (r : Found) (kind : FaultKind) → above low r ≡ failed kind → r ≡ failed kind
above_failed low (Ok x) kind e = absurd cc
above_failed low (Err found) kind e = e

-- ---- the bytes end inside it

record EndsInside (more : ℕ) (bytes : List ℕ) : Type 0 where
  tops : HaveTops bytes
  few : length bytes ≤ more

inside_more : (more b : ℕ) (bs : List ℕ) (test : Bool) → ltb b 128 ≡ test → (varint_with more bs ≡ failed Truncated → EndsInside more bs) → cond test (Ok (b, 1)) (above (b - 128) (varint_with more bs)) ≡ failed Truncated → EndsInside (suc more) (b ∷ bs)
inside_more more b bs true is ih e = absurd cc
inside_more more b bs false is ih e =
    let others = ih (above_failed (b - 128) (varint_with more bs) Truncated e) in
    record { tops = (ltb-false b 128 is, others.tops); few = omega (arith, others.few) }

not_inside : (b : ℕ) (test : Bool) → cond test (Err BadVarint) (Ok (b, 1)) ≡ failed Truncated → ⊥
not_inside b true e = cc
not_inside b false e = cc

inside : (more : ℕ) (bytes : List ℕ) → varint_with more bytes ≡ failed Truncated → EndsInside more bytes
inside more [] e = record { tops = tt; few = omega arith }
inside zero (b ∷ bs) e = absurd (not_inside b (ltb 1 b) e)
inside (suc more) (b ∷ bs) e = inside_more more b bs (ltb b 128) refl (inside more bs) e

inside_is : (more : ℕ) (bytes : List ℕ) → HaveTops bytes → length bytes ≤ more → varint_with more bytes ≡ failed Truncated
inside_is more [] tops few = refl
inside_is zero (b ∷ bs) tops few = absurd (omega arith)
inside_is (suc more) (b ∷ bs) tops few = rw (le-ltb b 128 tops.0, inside_is more bs tops.1 (omega arith)) refl

pub varint-truncated : (bytes : List ℕ) → varint bytes ≡ failed Truncated → HaveTops bytes × (length bytes < 10)
unfolding varint
varint-truncated bytes e = let h = inside 9 bytes e in (h.tops, omega (arith, h.few))

pub truncated-varint : (bytes : List ℕ) → HaveTops bytes × (length bytes < 10) → varint bytes ≡ failed Truncated
unfolding varint
truncated-varint bytes h = inside_is 9 bytes h.0 (omega (arith, h.1))

-- ---- it passes ten bytes or 64 bits

passes_last : (b : ℕ) (bs : List ℕ) (test : Bool) → ltb 1 b ≡ test → cond test (Err BadVarint) (Ok (b, 1)) ≡ failed BadVarint → PassesTen zero (b ∷ bs)
passes_last b bs true is e = ltb-true 1 b is
passes_last b bs false is e = absurd cc

passes_more : (more b : ℕ) (bs : List ℕ) (test : Bool) → ltb b 128 ≡ test → (varint_with more bs ≡ failed BadVarint → PassesTen more bs) → cond test (Ok (b, 1)) (above (b - 128) (varint_with more bs)) ≡ failed BadVarint → PassesTen (suc more) (b ∷ bs)
passes_more more b bs true is ih e = absurd cc
passes_more more b bs false is ih e = (ltb-false b 128 is, ih (above_failed (b - 128) (varint_with more bs) BadVarint e))

passes : (more : ℕ) (bytes : List ℕ) → varint_with more bytes ≡ failed BadVarint → PassesTen more bytes
passes more [] e = absurd cc
passes zero (b ∷ bs) e = passes_last b bs (ltb 1 b) refl e
passes (suc more) (b ∷ bs) e = passes_more more b bs (ltb b 128) refl (passes more bs) e

passes_is : (more : ℕ) (bytes : List ℕ) → PassesTen more bytes → varint_with more bytes ≡ failed BadVarint
passes_is more [] h = absurd h
passes_is zero (b ∷ bs) h = rw (lt-ltb 1 b h) refl
passes_is (suc more) (b ∷ bs) h = rw (le-ltb b 128 h.0, passes_is more bs h.1) refl

pub varint-bad : (bytes : List ℕ) → varint bytes ≡ failed BadVarint → PassesTen 9 bytes
unfolding varint
varint-bad bytes e = passes 9 bytes e

pub bad-varint : (bytes : List ℕ) → PassesTen 9 bytes → varint bytes ≡ failed BadVarint
unfolding varint
bad-varint bytes h = passes_is 9 bytes h
