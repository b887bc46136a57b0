-- A list of which one element is changed.
use Rattle.mum_core.proofs.Common.{◌≡◌, ℕ, ◌<◌, List, length, get_or, Option, Some, None, refl, inl, inr, slice_get, slice_index_or, slice_set, cases_eq, get_or-set_same, get_or-set_other, length-set, slice_get_within, get_or_from_slice_get, slice_get-get_or, changed_at, with_found}

pub changed_same : {A : Type 0} (xs : List A) (i : ℕ) (change : A → A) (d : A) → i < length xs → slice_index_or (changed_at i change xs) i d ≡ change (slice_index_or xs i d)
changed_same xs i change d within =
    let read : slice_get xs i ≡ Some (get_or xs i d) = slice_get-get_or xs i d within in
    let there : get_or (slice_set xs i (change (get_or xs i d))) i d ≡ change (get_or xs i d) = get_or-set_same xs i (change (get_or xs i d)) d within in
    rw read there

pub changed_other : {A : Type 0} (xs : List A) (i k : ℕ) (change : A → A) (d : A) → (k ≡ i → ⊥) → slice_index_or (changed_at i change xs) k d ≡ slice_index_or xs k d
changed_other {A = A} xs i k change d other = from (slice_get xs i)
  where
    from : (o : Option A) → slice_index_or (with_found xs i change o) k d ≡ slice_index_or xs k d
    from None = refl
    from (Some x) = get_or-set_other xs i k (change x) d other

pub length-changed : {A : Type 0} (xs : List A) (i : ℕ) (change : A → A) → length (changed_at i change xs) ≡ length xs
length-changed {A = A} xs i change = from (slice_get xs i)
  where
    from : (o : Option A) → length (with_found xs i change o) ≡ length xs
    from None = refl
    from (Some x) = length-set xs i (change x)

-- what holds of an element and itself, and of the one that is changed and what it becomes, holds at each place
pub changed-by : {A : Type 0} (R : A → A → Type 0) → ((x : A) → R x x) → (xs : List A) (i k : ℕ) (change : A → A) (d : A)
    → ((x : A) → slice_get xs i ≡ Some x → k ≡ i → R x (change x)) → R (slice_index_or xs k d) (slice_index_or (changed_at i change xs) k d)
changed-by {A = A} R same_one xs i k change d h = from (slice_get xs i) refl
  where
    from : (o : Option A) → slice_get xs i ≡ o → R (slice_index_or xs k d) (slice_index_or (with_found xs i change o) k d)
    from None e = same_one (slice_index_or xs k d)
    from (Some x) e = elim (cases_eq k i) [
      | inl same ↦
          let here : get_or xs k d ≡ x = rw same (get_or_from_slice_get xs i x d e) in
          let there : get_or (slice_set xs i (change x)) k d ≡ change x = rw same (get_or-set_same xs i (change x) d (slice_get_within xs i x e)) in
          rw (here, there) (h x e same)
      | inr other ↦
          let there : get_or (slice_set xs i (change x)) k d ≡ get_or xs k d = get_or-set_other xs i k (change x) d other in
          rw there (same_one (get_or xs k d))
    ]
