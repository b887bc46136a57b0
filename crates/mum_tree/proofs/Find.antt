-- The row of a channel, where the numbers of the rows rise.
use Rattle.mum_tree.proofs.Common.{◌≡◌, ℕ, zero, suc, ◌<◌, List, [], ◌∷◌, Some, None, length, get_or, refl, arith, AllPairs, Contains, ap, eq-eqb, ne_eqb, get_or_default, ChannelId, Row, number, row_of, Rise}

pub AllPairs-tail : {X : Type 0} (R : X → X → Type 0) (x : X) (xs : List X) → AllPairs R (x ∷ xs) → AllPairs R xs
AllPairs-tail R x xs pairs i j d below within = pairs (suc i) (suc j) d (omega arith) (omega arith)

pub contains_later : {X : Type 0} (x y : X) (xs : List X) → Contains xs y → Contains (x ∷ xs) y
contains_later x y xs (k, within, is) = (suc k, omega arith, is)

-- the row that has the number is the channel's
pub row_of_at : (rows : List Row) (i : ℕ) (d : Row) (id : ChannelId) → Rise rows → i < length rows → number (get_or rows i d) ≡ id.0 → row_of rows id ≡ Some (get_or rows i d)
row_of_at [] i d id rise within same = absurd (omega arith)
row_of_at (row ∷ rows) zero d id rise within same = rw (eq-eqb (number row) id.0 same) refl
row_of_at (row ∷ rows) (suc i) d id rise within same =
    let less : number row < number (get_or rows i d) = rise 0 (suc i) d (omega arith) within in
    rw (ne_eqb (number row) id.0 (λ (e : number row ≡ id.0). absurd (omega arith)))
    (row_of_at rows i d id (AllPairs-tail (λ row later. number row < number later) row rows rise) (omega arith) same)

-- where no row has the number, the channel has none
pub row_of_none : (rows : List Row) (id : ChannelId) → ((k : ℕ) (d : Row) → k < length rows → number (get_or rows k d) ≡ id.0 → ⊥) → row_of rows id ≡ None
row_of_none [] id none = refl
row_of_none (row ∷ rows) id none =
    rw (ne_eqb (number row) id.0 (λ (e : number row ≡ id.0). none 0 row (omega arith) e))
    (row_of_none rows id (λ k d within same. none (suc k) d (omega arith) same))

-- the number at a place, whatever is past the end
pub number_at : {X : Type 0} (n : X → ℕ) (xs : List X) (i : ℕ) (d other : X) → i < length xs → n (get_or xs i d) ≡ n (get_or xs i other)
number_at n xs i d other within = ap n (get_or_default xs i d other within)
