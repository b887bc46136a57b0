-- A binary search in a list whose numbers rise.
use Rattle.mum_tree.proofs.Common.{◌≡◌, ◌∙◌, ℕ, ◌<◌, ◌≤◌, Bool, true, List, length, get_or, Option, Some, None, Result, Ok, Err, MatchOption, MatchResult, arith, ap, sym, subst, inl, inr, ⊎_elim, ◌↔◌, AllPairs, Contains, IsSearchInRange, IsBinarySearchResult, IsNonDecreasingBy, nat_cmp, ordering_index, is_ok, result_ok, cases_eq, cases_lt, false≢true, nat_tests, ranked, ChannelId, Row, number, row_of, Rise}
use Rattle.mum_tree.proofs.Find.{row_of_at, row_of_none}

module _ {X : Type 0} (n : X → ℕ) (xs : List X) (rise : AllPairs (λ one later. n one < n later) xs) (m : ℕ) where
  -- the numbers rise or stay
  stays_or_rises : (i j : ℕ) (d : X) → i ≤ j → j < length xs → n (get_or xs i d) ≤ n (get_or xs j d)
  stays_or_rises i j d le within =
      ⊎_elim
      (λ (same : i ≡ j). let e : n (get_or xs i d) ≡ n (get_or xs j d) = ap (λ k. n (get_or xs k d)) same in omega arith)
      (λ (differ : i ≡ j → ⊥). let less : n (get_or xs i d) < n (get_or xs j d) = rise i j d (omega arith) within in omega arith)
      (cases_eq i j)

  comparisons_rise : IsNonDecreasingBy (λ x. ordering_index (nat_cmp (n x) m)) xs
  comparisons_rise i j d le within = let below : n (get_or xs i d) ≤ n (get_or xs j d) = stays_or_rises i j d le within in grind (arith, nat_tests)

  -- where the search finds the number, and that nothing has it where it does not
  pub found_by_binary_search : (r : Result ℕ ℕ) → IsSearchInRange r (length xs) → IsBinarySearchResult (λ x. nat_cmp (n x) m) xs r → MatchResult r (λ i. (i < length xs) × ((d : X) → n (get_or xs i d) ≡ m)) (λ i. (k : ℕ) (d : X) → k < length xs → n (get_or xs k d) ≡ m → ⊥)
  found_by_binary_search (Ok i) within equal = (within, λ d. ranked _ m _ (sym (equal d)))
  found_by_binary_search (Err i) within parted = λ k d inside same. elim (cases_lt k i) [
    | inl below ↦ omega (arith, same, ranked _ m _ (sym ((parted comparisons_rise).0 k d (omega arith) below)))
    | inr above ↦ omega (arith, same, ranked _ m _ (sym ((parted comparisons_rise).1 k d above inside)))
  ]

-- what the search reports of a channel
abbrev pub Located : List Row → ChannelId → Option ℕ → Type 0
Located rows id found = MatchOption found (row_of rows id ≡ None) (λ at. (at < length rows) × ((other : Row) → row_of rows id ≡ Some (get_or rows at other)))

located_at : (rows : List Row) (id : ChannelId) → Rise rows → (r : Result ℕ ℕ) → MatchResult r (λ i. (i < length rows) × ((d : Row) → number (get_or rows i d) ≡ id.0)) (λ i. (k : ℕ) (d : Row) → k < length rows → number (get_or rows k d) ≡ id.0 → ⊥) → Located rows id (result_ok r)
located_at rows id rise (Ok i) found = (found.0, λ other. row_of_at rows i other id rise found.0 (found.1 other))
located_at rows id rise (Err i) none = row_of_none rows id none

pub located : (rows : List Row) (id : ChannelId) → Rise rows → (r : Result ℕ ℕ) (found : Option ℕ) → IsSearchInRange r (length rows) → IsBinarySearchResult (λ row. nat_cmp (number row) id.0) rows r → found ≡ result_ok r → Located rows id found
located rows id rise r found bound position is =
    subst (Located rows id) (sym is) (located_at rows id rise r (found_by_binary_search number rows rise id.0 r bound position))

-- what the search reports of membership
pub told_by_search : (ids : List ChannelId) (id : ChannelId) (r : Result ℕ ℕ) (told : Bool) → told ≡ is_ok r → MatchResult r (λ i. (i < length ids) × ((d : ChannelId) → (get_or ids i d).0 ≡ id.0)) (λ i. (k : ℕ) (d : ChannelId) → k < length ids → (get_or ids k d).0 ≡ id.0 → ⊥) → (told ≡ true) ↔ Contains ids id
told_by_search ids id (Ok i) told is found = (λ on. (i, found.0, ap (λ n. record { 0 = n }) (found.1 id)), λ has. is)
told_by_search ids id (Err i) told is none = (λ on. absurd (false≢true (sym is ∙ on)), λ has. let (k, within, same) = has in absurd (none k id within (ap (λ (x : ChannelId). x.0) same)))
