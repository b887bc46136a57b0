-- How many elements there are, and how often each.
use Rattle.mum_kept_laws.proofs.Common.{◌≡◌, ℕ, suc, ◌+◌, ◌≤◌, ◌==◌, ◌||◌, Bool, true, false, not, cond, List, [], ◌∷◌, ◌++◌, length, filter, refl, sym, ap, ◌∙◌, arith, count_by, false≢true, nat_tests, sum_by-append, is_among, ChannelId, count_by-cons, count_by-filter-le, Each}

pub count_append : {X : Type 0} (p : X → Bool) (xs ys : List X) → count_by p (xs ++ ys) ≡ count_by p xs + count_by p ys
count_append p xs ys = sum_by-append (λ x. cond (p x) 1 0) xs ys

-- those that pass a test, and the others
pub count_apart : {X : Type 0} (p : X → Bool) (xs : List X) → length xs ≡ count_by p xs + length (filter (λ x. not (p x)) xs)
count_apart p [] = refl
count_apart p (x ∷ xs) = step (p x) refl (count_apart p xs)
  where
    step : (b : Bool) → p x ≡ b → length xs ≡ count_by p xs + length (filter (λ y. not (p y)) xs)
        → suc (length xs) ≡ count_by p (x ∷ xs) + length (cond (not b) (x ∷ filter (λ y. not (p y)) xs) (filter (λ y. not (p y)) xs))
    step true on rest = omega (arith, rest, count_by-cons p x xs, ap (λ (b : Bool). cond {A = ℕ} b 1 0) on)
    step false off rest = omega (arith, rest, count_by-cons p x xs, ap (λ (b : Bool). cond {A = ℕ} b 1 0) off)

-- ---- channels

abbrev pub occurs : ChannelId → List ChannelId → ℕ
occurs id ids = count_by (λ one. one.0 == id.0) ids

abbrev pub AreOnce : List ChannelId → Type 0
AreOnce ids = (id : ChannelId) → occurs id ids ≤ 1

-- each of them once, and all among others: there are no more than these
pub few_among : (others ids : List ChannelId) → AreOnce ids → Each (λ id. is_among others id ≡ true) ids → length ids ≤ length others
few_among [] [] once all = omega arith
few_among [] (id ∷ ids) once all = absurd (false≢true all.0)
few_among (other ∷ others) ids once all =
    let rest : List ChannelId = filter (λ (id : ChannelId). not (id.0 == other.0)) ids in
    let fewer : length rest ≤ length others = few_among others rest (λ id. less_often id) (left_over ids all) in
    omega (arith, count_apart (λ (id : ChannelId). id.0 == other.0) ids, once other, fewer)
  where
    less_often : (id : ChannelId) → occurs id (filter (λ (one : ChannelId). not (one.0 == other.0)) ids) ≤ 1
    less_often id = omega (arith, once id, count_by-filter-le (λ (one : ChannelId). one.0 == id.0) (λ (one : ChannelId). not (one.0 == other.0)) ids)

    swapped : (a b : ℕ) → (a == b) ≡ false → (b == a) ≡ false
    swapped a b off = grind (arith, nat_tests)

    left_over : (xs : List ChannelId) → Each (λ id. is_among (other ∷ others) id ≡ true) xs → Each (λ id. is_among others id ≡ true) (filter (λ (one : ChannelId). not (one.0 == other.0)) xs)
    left_over [] all = tt
    left_over (x ∷ xs) all = step (x.0 == other.0) refl (left_over xs all.1)
      where
        step : (b : Bool) → (x.0 == other.0) ≡ b → Each (λ id. is_among others id ≡ true) (filter (λ (one : ChannelId). not (one.0 == other.0)) xs)
            → Each (λ id. is_among others id ≡ true) (cond (not b) (x ∷ filter (λ (one : ChannelId). not (one.0 == other.0)) xs) (filter (λ (one : ChannelId). not (one.0 == other.0)) xs))
        step true same rest = rest
        step false off rest = (sym (ap (λ (b : Bool). b || is_among others x) (swapped x.0 other.0 off)) ∙ all.0, rest)
