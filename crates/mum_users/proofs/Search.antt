-- A binary search in rows that rise.
use Rattle.mum_users.proofs.Common.{◌≡◌, ℕ, zero, suc, ◌+◌, ◌<◌, ◌≤◌, Bool, true, false, not, List, [], ◌∷◌, length, get_or, Some, None, Result, Ok, Err, MatchResult, refl, sym, ap, ◌∙◌, inl, inr, arith, ◌==◌, eq-eqb, IsTrue, find, list_any, position_or_len, IsBinarySearchResult, IsNonDecreasingBy, IsPartitionPoint, IsPartitionedBy, IsSearchInRange, nat_cmp, ordering_index, is_ok, cases_lt, ne_eqb, not_from_false, not_from_true, nat_tests, ranked, list_any_at, list_any_none, position_or_len_is, SessionId, TargetRow, is_target, target_below, IsBelowAll, Rises, row_below}
use Rattle.mum_users.proofs.{Orders.IsBelowAll-through, Orders.row_through, Orders.row_other_way, Places.one_more}

module _ {X : Type 0} (below : X → X → Bool) where
  pub IsBelowAll-at : (first : X) (xs : List X) (j : ℕ) (d : X) → IsBelowAll below first xs → j < length xs → IsTrue (below first (get_or xs j d))
  IsBelowAll-at first [] j d all within = absurd (omega arith)
  IsBelowAll-at first (x ∷ xs) zero d all within = all.0
  IsBelowAll-at first (x ∷ xs) (suc j) d all within = IsBelowAll-at first xs j d all.1 (omega arith)

  pub Rises-at : (xs : List X) (i j : ℕ) (d : X) → Rises below xs → i < j → j < length xs → IsTrue (below (get_or xs i d) (get_or xs j d))
  Rises-at [] i j d rise lt within = absurd (omega arith)
  Rises-at (x ∷ xs) i zero d rise lt within = absurd (omega arith)
  Rises-at (x ∷ xs) zero (suc j) d rise lt within = IsBelowAll-at x xs j d rise.0 (omega arith)
  Rises-at (x ∷ xs) (suc i) (suc j) d rise lt within = Rises-at xs i j d rise.1 (omega arith) (omega arith)

-- a test that passes below whatever passes parts a list that rises
pub parted : {X : Type 0} (below : X → X → Bool) (lower : X → Bool) → ((x y : X) → IsTrue (below x y) → lower y ≡ true → lower x ≡ true) → (xs : List X) → Rises below xs → IsPartitionedBy lower xs
parted below lower down xs rise i j d le within low = elim (cases_lt i j) [
  | inl lt ↦ down (get_or xs i d) (get_or xs j d) (Rises-at below xs i j d rise lt within) low
  | inr ge ↦ (let same : i ≡ j = omega arith in ap (λ (k : ℕ). lower (get_or xs k d)) same ∙ low)
]

-- the place between what passes and what does not is the first that does not
pub place_between : {X : Type 0} (lower : X → Bool) (xs : List X) (i : ℕ) (d : X) → i ≤ length xs → IsPartitionPoint (λ x. lower x ≡ true) (λ x. lower x ≡ false) xs i → i ≡ position_or_len (λ x. not (lower x)) xs
place_between lower xs i d within split =
    sym (position_or_len_is (λ x. not (lower x)) xs i d within
    (λ k lt. not_from_true _ (split.0 k d (omega arith) lt))
    (λ lt. not_from_false _ (split.1 i d (omega arith) lt)))

-- binary search, where keys do not fall
module _ {X : Type 0} (key : X → ℕ) (n : ℕ) (xs : List X) (up : IsNonDecreasingBy key xs) where
  -- the keys are compared with a number as a binary search asks
  comparisons_rise : IsNonDecreasingBy (λ x. ordering_index (nat_cmp (key x) n)) xs
  comparisons_rise i j d le within =
      let below : key (get_or xs i d) ≤ key (get_or xs j d) = up i j d le within in
      grind (arith, nat_tests)

  pub found_in_order : (r : Result ℕ ℕ) → IsSearchInRange r (length xs) → IsBinarySearchResult (λ x. nat_cmp (key x) n) xs r → MatchResult r (λ i. (d : X) → key (get_or xs i d) ≡ n) (λ i. (j : ℕ) (d : X) → j < length xs → key (get_or xs j d) ≡ n → ⊥)
  found_in_order (Ok i) within equal = λ d. ranked _ n _ (sym (equal d))
  found_in_order (Err i) within parted = λ j d lt same. elim (cases_lt j i) [
    | inl below ↦ omega (arith, same, ranked _ n _ (sym ((parted comparisons_rise).0 j d (omega arith) below)))
    | inr above ↦ omega (arith, same, ranked _ n _ (sym ((parted comparisons_rise).1 j d above lt)))
  ]

-- it answers whether one has the key
pub any_by_halving : {X : Type 0} (key : X → ℕ) (n : ℕ) (xs : List X) → IsNonDecreasingBy key xs → (r : Result ℕ ℕ) → IsSearchInRange r (length xs) → IsBinarySearchResult (λ x. nat_cmp (key x) n) xs r → is_ok r ≡ list_any (λ x. key x == n) xs
any_by_halving key n [] up (Ok i) within answer = absurd (omega (arith, within))
any_by_halving key n (x ∷ xs) up (Ok i) within answer =
    sym (list_any_at (λ x. key x == n) (x ∷ xs) i x within (eq-eqb _ _ (found_in_order key n (x ∷ xs) up (Ok i) within answer x)))
any_by_halving key n xs up (Err i) within answer =
    sym (list_any_none (λ x. key x == n) xs (λ j d lt. ne_eqb _ _ (found_in_order key n xs up (Err i) within answer j d lt)))

-- what is found, where keys rise
module _ {X : Type 0} (key : X → ℕ) (n : ℕ) (xs : List X) (rise : (i j : ℕ) (d : X) → i < j → j < length xs → key (get_or xs i d) < key (get_or xs j d)) where
  none_falls : IsNonDecreasingBy key xs
  none_falls i j d le within = grind (arith, rise i j d, λ (same : i ≡ j). ap (λ k. key (get_or xs k d)) same)

  pub found_by_halving : (r : Result ℕ ℕ) → IsSearchInRange r (length xs) → IsBinarySearchResult (λ x. nat_cmp (key x) n) xs r → MatchResult r (λ i. (d : X) → key (get_or xs i d) ≡ n) (λ i. (j : ℕ) (d : X) → j < length xs → key (get_or xs j d) ≡ n → ⊥)
  found_by_halving r within answer = found_in_order key n xs none_falls r within answer

module _ (session : SessionId) (id : ℕ) where
  pub below_down : (row other : TargetRow) → IsTrue (row_below row other) → target_below session id other ≡ true → target_below session id row ≡ true
  below_down row other lower low = row_through row other (record { session = session; id = id; target = row.target }) lower low

  below_is_other : (row : TargetRow) → target_below session id row ≡ true → is_target session id row ≡ false
  below_is_other row lower = grind (arith, nat_tests)

  pub find-at_place : (rows : List TargetRow) (d : TargetRow) → position_or_len (λ row. not (target_below session id row)) rows < length rows → is_target session id (get_or rows (position_or_len (λ row. not (target_below session id row)) rows) d) ≡ true → find (is_target session id) rows ≡ Some (get_or rows (position_or_len (λ row. not (target_below session id row)) rows) d)
  find-at_place [] d within there = absurd (omega arith)
  find-at_place (row ∷ rows) d within there = split (target_below session id row) refl (find-at_place rows d)
    where
      split : (b : Bool) → target_below session id row ≡ b → (position_or_len (λ x. not (target_below session id x)) rows < length rows → is_target session id (get_or rows (position_or_len (λ x. not (target_below session id x)) rows) d) ≡ true → find (is_target session id) rows ≡ Some (get_or rows (position_or_len (λ x. not (target_below session id x)) rows) d)) → find (is_target session id) (row ∷ rows) ≡ Some (get_or (row ∷ rows) (position_or_len (λ x. not (target_below session id x)) (row ∷ rows)) d)
      split true e rest =
          let inside : 1 + position_or_len (λ x. not (target_below session id x)) rows < length (row ∷ rows) = rw e at within in
          let is = rw (e, one_more (position_or_len (λ x. not (target_below session id x)) rows)) at there in
          let head : is_target session id row ≡ false = below_is_other row e in
          rw (e, one_more (position_or_len (λ x. not (target_below session id x)) rows), head) (rest (omega arith) is)
      split false e rest = let is : is_target session id row ≡ true = rw e at there in rw (e, is) refl

  above_is_other : (new row : TargetRow) → is_target session id new ≡ true → IsTrue (row_below new row) → is_target session id row ≡ false
  above_is_other new row is lower = grind (arith, nat_tests)

  none_above : (new : TargetRow) (rows : List TargetRow) → is_target session id new ≡ true → IsBelowAll row_below new rows → find (is_target session id) rows ≡ None
  none_above new [] is all = refl
  none_above new (row ∷ rows) is all = let head : is_target session id row ≡ false = above_is_other new row is all.0 in rw head (none_above new rows is all.1)

  pub find-no_place : (rows : List TargetRow) → Rises row_below rows → ((d : TargetRow) → position_or_len (λ row. not (target_below session id row)) rows < length rows → is_target session id (get_or rows (position_or_len (λ row. not (target_below session id row)) rows) d) ≡ false) → find (is_target session id) rows ≡ None
  find-no_place [] rise other = refl
  find-no_place (row ∷ rows) rise other = split (target_below session id row) refl (find-no_place rows rise.1)
    where
      itself : (r : TargetRow) → is_target session id (record { session = session; id = id; target = r.target }) ≡ true
      itself r = grind (arith, nat_tests)

      split : (b : Bool) → target_below session id row ≡ b → (((d : TargetRow) → position_or_len (λ x. not (target_below session id x)) rows < length rows → is_target session id (get_or rows (position_or_len (λ x. not (target_below session id x)) rows) d) ≡ false) → find (is_target session id) rows ≡ None) → find (is_target session id) (row ∷ rows) ≡ None
      split true e rest =
          let head : is_target session id row ≡ false = below_is_other row e in
          rw head (rest (λ d lt. rw (e, one_more (position_or_len (λ x. not (target_below session id x)) rows)) at (other d (rw e (omega arith)))))
      split false e rest =
          let head : is_target session id row ≡ false = rw e at (other row (rw e (omega arith))) in
          let new : TargetRow = record { session = session; id = id; target = row.target } in
          let lower : IsTrue (row_below new row) = row_other_way new row head e in
          rw head (none_above new rows (itself row) (IsBelowAll-through row_below row_through new row rows lower rise.0))
