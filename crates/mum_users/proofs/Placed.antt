-- A list whose elements are changed one after the other.
use Rattle.mum_users.proofs.Common.{◌≡◌, ℕ, zero, suc, ◌+◌, ◌<◌, List, [], ◌∷◌, ◌++◌, length, get_or, set, take, drop, map, add-one, refl, ap, arith}

-- one more is changed
pub set-mapped : {X : Type 0} (f : X → X) (xs : List X) (i : ℕ) (x : X) → i < length xs → x ≡ get_or (map f (take i xs) ++ drop i xs) i x
    → set (map f (take i xs) ++ drop i xs) i (f x) ≡ map f (take (i + 1) xs) ++ drop (i + 1) xs
set-mapped f [] i x within is = absurd (omega arith)
set-mapped {X} f (y ∷ ys) zero x within is = ap (λ (z : X). f z ∷ ys) is
set-mapped {X} f (y ∷ ys) (suc i) x within is =
    rw add-one (ap (λ (zs : List X). f y ∷ zs) (rw add-one at (set-mapped f ys i x (omega arith) is)))

-- and the next is as it was
pub at-mapped : {X : Type 0} (f : X → X) (xs : List X) (i : ℕ) (d : X) → i < length xs → get_or (map f (take i xs) ++ drop i xs) i d ≡ get_or xs i d
at-mapped f [] i d within = absurd (omega arith)
at-mapped f (x ∷ xs) zero d within = refl
at-mapped f (x ∷ xs) (suc i) d within = at-mapped f xs i d (omega arith)
