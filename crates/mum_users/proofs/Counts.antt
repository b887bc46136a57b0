-- How often a test passes in a list after a change, and a first place at which it does.
use Rattle.mum_users.proofs.Common.{◌≡◌, ℕ, ◌+◌, ◌<◌, ◌≤◌, Bool, true, false, cond, ltb, List, [], ◌∷◌, map, refl, arith, count_by, filter, insert, list_any, nat_tests, sum_by-cons, sum_by-insert}

pub count_by-cons : {X : Type 0} (p : X → Bool) (x : X) (xs : List X) → count_by p (x ∷ xs) ≡ cond (p x) 1 0 + count_by p xs
count_by-cons p x xs = sum_by-cons (λ y. cond (p y) 1 0) x xs

pub count_by-insert : {X : Type 0} (p : X → Bool) (xs : List X) (i : ℕ) (x : X) → count_by p (insert xs i x) ≡ count_by p xs + cond (p x) 1 0
count_by-insert p xs i x = sum_by-insert (λ y. cond (p y) 1 0) xs i x

pub count_by-filter-le : {X : Type 0} (p q : X → Bool) (xs : List X) → count_by p (filter q xs) ≤ count_by p xs
count_by-filter-le p q [] = omega arith
count_by-filter-le p q (x ∷ xs) = grind (arith, nat_tests, count_by-cons p x xs, count_by-cons p x (filter q xs), count_by-filter-le p q xs)

-- what the filter takes away does not count
pub count_by-filter_others : {X : Type 0} (p q : X → Bool) → ((x : X) → q x ≡ false → p x ≡ false) → (xs : List X) → count_by p (filter q xs) ≡ count_by p xs
count_by-filter_others p q others [] = refl
count_by-filter_others p q others (x ∷ xs) = grind (arith, nat_tests, others x, count_by-cons p x xs, count_by-cons p x (filter q xs), count_by-filter_others p q others xs)

-- what counts is taken away by the filter
pub count_by-filter_none : {X : Type 0} (p q : X → Bool) → ((x : X) → q x ≡ true → p x ≡ false) → (xs : List X) → count_by p (filter q xs) ≡ 0
count_by-filter_none p q apart [] = refl
count_by-filter_none p q apart (x ∷ xs) = grind (arith, nat_tests, apart x, count_by-cons p x (filter q xs), count_by-filter_none p q apart xs)

pub count_by-map : {X : Type 0} (p : X → Bool) (f : X → X) → ((x : X) → p (f x) ≡ p x) → (xs : List X) → count_by p (map f xs) ≡ count_by p xs
count_by-map p f same [] = refl
count_by-map p f same (x ∷ xs) = grind (arith, same x, count_by-cons p x xs, count_by-cons p (f x) (map f xs), count_by-map p f same xs)

pub list_any-count_by : {X : Type 0} (p : X → Bool) (xs : List X) → list_any p xs ≡ ltb 0 (count_by p xs)
list_any-count_by p [] = refl
list_any-count_by p (x ∷ xs) = grind (arith, nat_tests, count_by-cons p x xs, list_any-count_by p xs)

pub none_from : {X : Type 0} (p : X → Bool) (xs : List X) → list_any p xs ≡ false → count_by p xs ≡ 0
none_from p xs none = grind (arith, nat_tests, list_any-count_by p xs)

pub some_from : {X : Type 0} (p : X → Bool) (xs : List X) → list_any p xs ≡ true → 0 < count_by p xs
some_from p xs some = grind (arith, nat_tests, list_any-count_by p xs)
