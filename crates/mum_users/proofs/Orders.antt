-- Lists in order stay in order.
use Rattle.mum_users.proofs.Common.{◌≡◌, Bool, true, false, List, [], ◌∷◌, refl, arith, filter, nat_tests, IsTrue, TargetRow, is_target, with_target, IsBelowAll, Rises, row_below}

module _ {X : Type 0} (below : X → X → Bool) where
  pub IsBelowAll-filter : (q : X → Bool) (first : X) (xs : List X) → IsBelowAll below first xs → IsBelowAll below first (filter q xs)
  IsBelowAll-filter q first [] all = tt
  IsBelowAll-filter q first (x ∷ xs) all = split (q x) refl (IsBelowAll-filter q first xs all.1)
    where
      split : (b : Bool) → q x ≡ b → IsBelowAll below first (filter q xs) → IsBelowAll below first (filter q (x ∷ xs))
      split true e rest = rw e (all.0, rest)
      split false e rest = rw e rest

  pub Rises-filter : (q : X → Bool) (xs : List X) → Rises below xs → Rises below (filter q xs)
  Rises-filter q [] rise = tt
  Rises-filter q (x ∷ xs) rise = split (q x) refl (Rises-filter q xs rise.1)
    where
      split : (b : Bool) → q x ≡ b → Rises below (filter q xs) → Rises below (filter q (x ∷ xs))
      split true e rest = rw e (IsBelowAll-filter q x xs rise.0, rest)
      split false e rest = rw e rest

  -- what is below the first is below all
  pub IsBelowAll-through : (through : (a b c : X) → IsTrue (below a b) → IsTrue (below b c) → IsTrue (below a c)) (first second : X) (xs : List X) → IsTrue (below first second) → IsBelowAll below second xs → IsBelowAll below first xs
  IsBelowAll-through through first second [] lower all = tt
  IsBelowAll-through through first second (x ∷ xs) lower all = (through first second x lower all.0, IsBelowAll-through through first second xs lower all.1)

pub row_through : (a b c : TargetRow) → IsTrue (row_below a b) → IsTrue (row_below b c) → IsTrue (row_below a c)
row_through a b c x y = grind (arith, nat_tests)

-- of two rows that differ one is below the other
pub row_other_way : (new row : TargetRow) → is_target new.session new.id row ≡ false → row_below row new ≡ false → IsTrue (row_below new row)
row_other_way new row other not_below = grind (arith, nat_tests)

-- a row of the same number is below the same rows
row_same : (new row other : TargetRow) → is_target new.session new.id row ≡ true → IsTrue (row_below row other) → IsTrue (row_below new other)
row_same new row other same lower = grind (arith, nat_tests)

IsBelowAll-same : (new row : TargetRow) (rows : List TargetRow) → is_target new.session new.id row ≡ true → IsBelowAll row_below row rows → IsBelowAll row_below new rows
IsBelowAll-same new row [] same all = tt
IsBelowAll-same new row (other ∷ rows) same all = (row_same new row other same all.0, IsBelowAll-same new row rows same all.1)

IsBelowAll-with_target : (first new : TargetRow) (rows : List TargetRow) → IsTrue (row_below first new) → IsBelowAll row_below first rows → IsBelowAll row_below first (with_target new rows)
IsBelowAll-with_target first new [] lower all = (lower, tt)
IsBelowAll-with_target first new (row ∷ rows) lower all = split (row_below row new) (is_target new.session new.id row) refl refl (IsBelowAll-with_target first new rows lower all.1)
  where
    split : (b s : Bool) → row_below row new ≡ b → is_target new.session new.id row ≡ s → IsBelowAll row_below first (with_target new rows) → IsBelowAll row_below first (with_target new (row ∷ rows))
    split true s e f rest = rw e (all.0, rest)
    split false true e f rest = rw (e, f) (lower, all.1)
    split false false e f rest = rw (e, f) (lower, all)

pub Rises-with_target : (new : TargetRow) (rows : List TargetRow) → Rises row_below rows → Rises row_below (with_target new rows)
Rises-with_target new [] rise = (tt, tt)
Rises-with_target new (row ∷ rows) rise = split (row_below row new) (is_target new.session new.id row) refl refl (Rises-with_target new rows rise.1)
  where
    split : (b s : Bool) → row_below row new ≡ b → is_target new.session new.id row ≡ s → Rises row_below (with_target new rows) → Rises row_below (with_target new (row ∷ rows))
    split true s e f rest = rw e (IsBelowAll-with_target row new rows e rise.0, rest)
    split false true e f rest = rw (e, f) (IsBelowAll-same new row rows f rise.0, rise.1)
    split false false e f rest =
        let lower = row_other_way new row f e in
        rw (e, f) ((lower, IsBelowAll-through row_below row_through new row rows lower rise.0), rise)
