-- What is in a list.
use Rattle.mum_config_laws.proofs.Common.{◌≡◌, ℕ, zero, suc, ◌<◌, ◌⊎◌, List, [], ◌∷◌, ◌++◌, length, inl, inr, refl, subst, arith, Contains, slice_index_or, Each}

abbrev pub In : {X : Type 0} → X → List X → Type 0
In x [] = ⊥
In x (y ∷ ys) = (y ≡ x) ⊎ In x ys

pub in_front : {X : Type 0} (x : X) (xs ys : List X) → In x xs → In x (xs ++ ys)
in_front x [] ys inside = absurd inside
in_front x (y ∷ xs) ys inside = elim inside as (λ _. In x (y ∷ (xs ++ ys))) [ inl is ↦ inl is | inr later ↦ inr (in_front x xs ys later) ]

pub in_back : {X : Type 0} (x : X) (xs ys : List X) → In x ys → In x (xs ++ ys)
in_back x [] ys inside = inside
in_back x (y ∷ xs) ys inside = inr (in_back x xs ys inside)

-- what holds of each holds of one that is in the list
pub each_in : {X : Type 0} (P : X → Type 0) (xs : List X) (x : X) → Each P xs → In x xs → P x
each_in P [] x all inside = absurd inside
each_in P (y ∷ ys) x all inside = elim inside as (λ _. P x) [ inl is ↦ subst P is all.0 | inr later ↦ each_in P ys x all.1 later ]

-- each is in the list that it is of
pub all_in : {X : Type 0} (xs : List X) → Each (λ x. In x xs) xs
all_in {X} xs = go xs (λ x inside. inside)
  where
    go : (ys : List X) → ((x : X) → In x ys → In x xs) → Each (λ x. In x xs) ys
    go [] so = tt
    go (y ∷ ys) so = (so y (inl refl), go ys (λ x inside. so x (inr inside)))

-- ---- by places

pub in_contained : {X : Type 0} (x : X) (xs : List X) → In x xs → Contains xs x
in_contained x [] inside = absurd inside
in_contained {X} x (y ∷ ys) inside =
    elim inside as (λ _. Contains (y ∷ ys) x) [
      | inl is ↦ (0, omega arith, is)
      | inr later ↦ (let there : Contains ys x = in_contained x ys later in (suc there.0, omega (arith, there.1), there.2))
    ]

pub contained_in : {X : Type 0} (x : X) (xs : List X) → Contains xs x → In x xs
contained_in {X} x xs there = go xs there.0 there.1 there.2
  where
    go : (ys : List X) (k : ℕ) → k < length ys → slice_index_or ys k x ≡ x → In x ys
    go [] k within is = absurd (omega (arith, within))
    go (y ∷ ys) zero within is = inl is
    go (y ∷ ys) (suc k) within is = inr (go ys k (omega (arith, within)) is)
