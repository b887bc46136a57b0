-- The first place at which a test passes, and what a change there is.
use Rattle.mum_users.proofs.Common.{◌≡◌, ℕ, suc, ◌+◌, ◌<◌, ◌≤◌, Bool, true, false, not, cond, ltb, List, [], ◌∷◌, length, get_or, set, map, Some, None, refl, sym, ap, ◌∙◌, arith, IsTrue, unwrap_or, count_by, find, insert, list_any, position, position_or_len, is_some, nat_tests, TargetRow, is_target, target_below, with_target}
use Rattle.mum_users.proofs.Counts.{count_by-cons}

pub one_more : (n : ℕ) → 1 + n ≡ suc n
one_more n = omega arith

-- an element that passes has a first place
pub list_any-position : {X : Type 0} (p : X → Bool) (xs : List X) → list_any p xs ≡ ltb (position_or_len p xs) (length xs)
list_any-position p [] = refl
list_any-position p (x ∷ xs) = grind (arith, nat_tests, list_any-position p xs)

pub position_or_len-le : {X : Type 0} (p : X → Bool) (xs : List X) → position_or_len p xs ≤ length xs
position_or_len-le p [] = omega arith
position_or_len-le p (x ∷ xs) = grind (arith, nat_tests, position_or_len-le p xs)

pub unwrap_or-position : {X : Type 0} (p : X → Bool) (xs : List X) → unwrap_or (position p xs) (length xs) ≡ position_or_len p xs
unwrap_or-position p xs = grind (arith, nat_tests, position_or_len-le p xs)

pub absent_from : {X : Type 0} (p : X → Bool) (xs : List X) → None ≡ position p xs → list_any p xs ≡ false
absent_from p xs e = grind (arith, nat_tests, list_any-position p xs)

pub record IsPlace {X : Type 0} (p : X → Bool) (xs : List X) (i : ℕ) : Type 0 where
  pub first : i ≡ position_or_len p xs
  pub within : position_or_len p xs < length xs
  pub there : list_any p xs ≡ true

pub present_from : {X : Type 0} (p : X → Bool) (xs : List X) (i : ℕ) → Some i ≡ position p xs → IsPlace p xs i
present_from p xs i e = record { first = grind (arith, nat_tests); within = grind (arith, nat_tests); there = grind (arith, nat_tests, list_any-position p xs) }

pub position_is : {X : Type 0} (p : X → Bool) (xs : List X) (i : ℕ) → position_or_len p xs ≡ i → i < length xs → position p xs ≡ Some i
position_is p xs i at within = grind (arith, nat_tests)

pub no_position : {X : Type 0} (p : X → Bool) (xs : List X) → position_or_len p xs ≡ length xs → position p xs ≡ None
no_position p xs far = grind (arith, nat_tests)

some_if : (b : Bool) (n : ℕ) → is_some (cond b (Some n) None) ≡ b
some_if true n = refl
some_if false n = refl

pub is_some-position : {X : Type 0} (p : X → Bool) (xs : List X) → is_some (position p xs) ≡ list_any p xs
is_some-position p xs = some_if (ltb (position_or_len p xs) (length xs)) (position_or_len p xs) ∙ sym (list_any-position p xs)

-- what is found is at the first place
find-place : {X : Type 0} (p : X → Bool) (xs : List X) (d : X) → position_or_len p xs < length xs → find p xs ≡ Some (get_or xs (position_or_len p xs) d)
find-place p [] d within = absurd (omega arith)
find-place p (x ∷ xs) d within = split (p x) refl (find-place p xs d)
  where
    split : (b : Bool) → p x ≡ b → (position_or_len p xs < length xs → find p xs ≡ Some (get_or xs (position_or_len p xs) d)) → find p (x ∷ xs) ≡ Some (get_or (x ∷ xs) (position_or_len p (x ∷ xs)) d)
    split true e rest = rw e refl
    split false e rest =
        let inside : 1 + position_or_len p xs < length (x ∷ xs) = rw e at within in
        rw (e, one_more (position_or_len p xs)) (rest (omega arith))

pub find-found : {X : Type 0} (p : X → Bool) (xs : List X) (i : ℕ) (d : X) → Some i ≡ position p xs → find p xs ≡ Some (get_or xs i d)
find-found p xs i d e =
    let at : i ≡ position_or_len p xs = (present_from p xs i e).first in
    rw at (find-place p xs d (present_from p xs i e).within)

find-none : {X : Type 0} (p : X → Bool) (xs : List X) → list_any p xs ≡ false → find p xs ≡ None
find-none p [] none = refl
find-none p (x ∷ xs) none = split (p x) refl (find-none p xs)
  where
    split : (b : Bool) → p x ≡ b → (list_any p xs ≡ false → find p xs ≡ None) → find p (x ∷ xs) ≡ None
    split true e rest = let some : true ≡ false = rw e at none in cc
    split false e rest = let none : list_any p xs ≡ false = rw e at none in rw e (rest none)

pub find-absent : {X : Type 0} (p : X → Bool) (xs : List X) → None ≡ position p xs → find p xs ≡ None
find-absent p xs e = find-none p xs (absent_from p xs e)

-- where nothing passes, a change of what passes is none
pub map-absent : {X : Type 0} (p : X → Bool) (f : X → X) (xs : List X) → count_by p xs ≡ 0 → map (λ x. cond (p x) (f x) x) xs ≡ xs
map-absent p f [] none = refl
map-absent p f (x ∷ xs) none = grind (arith, nat_tests, count_by-cons p x xs, map-absent p f xs)

-- where one element passes at most, a change at its place is a change of what passes
pub set-position : {X : Type 0} (p : X → Bool) (f : X → X) (xs : List X) (d : X) → count_by p xs ≤ 1 → position_or_len p xs < length xs → set xs (position_or_len p xs) (f (get_or xs (position_or_len p xs) d)) ≡ map (λ x. cond (p x) (f x) x) xs
set-position p f [] d few within = refl
set-position p f (x ∷ xs) d few within = split (p x) refl (set-position p f xs d)
  where
    split : (b : Bool) → p x ≡ b → (count_by p xs ≤ 1 → position_or_len p xs < length xs → set xs (position_or_len p xs) (f (get_or xs (position_or_len p xs) d)) ≡ map (λ y. cond (p y) (f y) y) xs) → set (x ∷ xs) (position_or_len p (x ∷ xs)) (f (get_or (x ∷ xs) (position_or_len p (x ∷ xs)) d)) ≡ map (λ y. cond (p y) (f y) y) (x ∷ xs)
    split true e rest = rw e (ap (λ ys. f x ∷ ys) (sym (map-absent p f xs (omega (arith, count_by-cons p x xs, ap (λ (b : Bool). cond {A = ℕ} b 1 0) e)))))
    split false e rest = grind (arith, nat_tests, count_by-cons p x xs)

-- the first row that is not below the new one
abbrev pub place_for : TargetRow → List TargetRow → ℕ
place_for new rows = position_or_len (λ row. not (target_below new.session new.id row)) rows

-- where the target's number is in this row, the new row takes its place
pub with_target-set : (new : TargetRow) (rows : List TargetRow) (d : TargetRow) → place_for new rows < length rows → is_target new.session new.id (get_or rows (place_for new rows) d) ≡ true → set rows (place_for new rows) new ≡ with_target new rows
with_target-set new [] d within there = absurd (omega arith)
with_target-set new (row ∷ rows) d within there = split (target_below new.session new.id row) refl (with_target-set new rows d)
  where
    split : (b : Bool) → target_below new.session new.id row ≡ b → (place_for new rows < length rows → is_target new.session new.id (get_or rows (place_for new rows) d) ≡ true → set rows (place_for new rows) new ≡ with_target new rows) → set (row ∷ rows) (place_for new (row ∷ rows)) new ≡ with_target new (row ∷ rows)
    split true e rest =
        let inside : 1 + place_for new rows < length (row ∷ rows) = rw e at within in
        let same = rw (e, one_more (place_for new rows)) at there in
        rw (e, one_more (place_for new rows)) (ap (λ ys. row ∷ ys) (rest (omega arith) same))
    split false e rest = let same : is_target new.session new.id row ≡ true = rw e at there in rw (e, same) refl

-- else it goes in before
pub with_target-insert : (new : TargetRow) (rows : List TargetRow) → ((d : TargetRow) → place_for new rows < length rows → is_target new.session new.id (get_or rows (place_for new rows) d) ≡ false) → insert rows (place_for new rows) new ≡ with_target new rows
with_target-insert new [] apart = refl
with_target-insert new (row ∷ rows) apart = split (target_below new.session new.id row) refl (with_target-insert new rows)
  where
    split : (b : Bool) → target_below new.session new.id row ≡ b → (((d : TargetRow) → place_for new rows < length rows → is_target new.session new.id (get_or rows (place_for new rows) d) ≡ false) → insert rows (place_for new rows) new ≡ with_target new rows) → insert (row ∷ rows) (place_for new (row ∷ rows)) new ≡ with_target new (row ∷ rows)
    split true e rest =
        rw (e, one_more (place_for new rows)) (ap (λ ys. row ∷ ys) (rest (λ d lt. rw (e, one_more (place_for new rows)) at (apart d (rw e (omega arith))))))
    split false e rest = let other : is_target new.session new.id row ≡ false = rw e at (apart new (rw e (omega arith))) in rw (e, other) refl

-- the same, as code finds the place and tests the row there
module _ (new : TargetRow) (rows seen again : List TargetRow) (place : ℕ) (e : seen ≡ rows) (f : again ≡ rows) (found : place ≡ place_for new seen) where
  place_is : place ≡ place_for new rows
  place_is = found ∙ ap (place_for new) e

  pub put_over : (d : TargetRow) → (IsTrue true → place < length again) → ((d : TargetRow) → place < length again → is_target new.session new.id (get_or again place d) ≡ true) → set rows place new ≡ with_target new rows
  put_over d within same =
      let lt : place < length again = within refl in
      let is = rw (f, place_is) at (same d lt) in
      rw place_is (with_target-set new rows d (omega (arith, lt, place_is, ap length f)) is)

  pub put_before : ((d : TargetRow) → place < length again → is_target new.session new.id (get_or again place d) ≡ false) → insert rows place new ≡ with_target new rows
  put_before other =
      rw place_is (with_target-insert new rows (λ d lt. rw (f, place_is) at (other d (omega (arith, lt, place_is, ap length f)))))
