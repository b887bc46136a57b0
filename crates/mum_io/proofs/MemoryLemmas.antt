-- What a read from memory gave, and what is left.
use Rattle.mum_io.proofs.Common.{arith, ◌≡◌, ℕ, ◌+◌, ◌<◌, ◌≤◌, ◌==◌, min, false, List, ◌++◌, take, drop, ap, sym, ◌∙◌, take-append-drop, drop-drop}

-- n more bytes were given, and are at the front of a buffer
pub drop-given : (bytes buf : List ℕ) (given n : ℕ) → take n buf ≡ take n (drop given bytes) → drop given bytes ≡ take n buf ++ drop (given + n) bytes
drop-given bytes buf given n copied =
    sym (take-append-drop n (drop given bytes)) ∙ ap (λ front. front ++ drop n (drop given bytes)) (sym copied)
    ∙ ap (λ rest. take n buf ++ rest) (drop-drop n given bytes)

-- there was room, and there were bytes
pub min-positive : (n room bytes : ℕ) → n ≡ min room bytes → 0 < room → (bytes == 0) ≡ false → 1 ≤ n
min-positive n room bytes least some left = grind arith
