-- Lists in which one fits at most, or none.
use Rattle.mum_client_laws.proofs.Common.{◌≡◌, ◌≤◌, ◌||◌, ◌&&◌, ℕ, Bool, true, false, cond, List, [], ◌∷◌, Some, None, refl, ap, sym, ◌∙◌, arith, subst, All, Contains, count_by, filter, find, list_any, both_ways, All-cons, All-contains, All-nil, Contains-append_right, Contains-get_or, count_by-cons, given, Each, none_found}

pub none_counted : {X : Type 0} (p : X → Bool) (xs : List X) → count_by p xs ≡ 0 → filter p xs ≡ []
none_counted p [] none = refl
none_counted {X} p (x ∷ xs) none = step (p x) refl (none_counted p xs)
  where
    step : (b : Bool) → p x ≡ b → (count_by p xs ≡ 0 → filter p xs ≡ []) → filter p (x ∷ xs) ≡ []
    step true is rest = absurd (omega (arith, none, count_by-cons p x xs, ap (λ (b : Bool). cond {A = ℕ} b 1 0) is))
    step false is rest = rw is (rest (omega (arith, none, count_by-cons p x xs)))

-- where one fits at most, those that fit are the one that is found
pub only_given : {X : Type 0} (p : X → Bool) (xs : List X) → count_by p xs ≤ 1 → filter p xs ≡ given (find p xs)
only_given p [] few = refl
only_given {X} p (x ∷ xs) few = step (p x) refl (only_given p xs)
  where
    step : (b : Bool) → p x ≡ b → (count_by p xs ≤ 1 → filter p xs ≡ given (find p xs)) → filter p (x ∷ xs) ≡ given (find p (x ∷ xs))
    step true is rest =
        rw is (ap (λ (ys : List X). x ∷ ys) (none_counted p xs (omega (arith, few, count_by-cons p x xs, ap (λ (b : Bool). cond {A = ℕ} b 1 0) is))))
    step false is rest = rw is (rest (omega (arith, few, count_by-cons p x xs)))

none_fit : {X : Type 0} (p : X → Bool) (xs : List X) → Each (λ x. p x ≡ false) xs → filter p xs ≡ []
none_fit p [] all = refl
none_fit p (x ∷ xs) all = rw all.0 (none_fit p xs all.1)

-- where none is found, none fits
pub none_given : {X : Type 0} (p : X → Bool) (xs : List X) → find p xs ≡ None → filter p xs ≡ []
none_given p xs none = none_fit p xs (none_found p xs none)

all_unfit : {X : Type 0} (p : X → Bool) (xs : List X) → filter p xs ≡ [] → All (λ x. p x ≡ false) xs
all_unfit p [] none = All-nil (λ x. p x ≡ false)
all_unfit {X} p (x ∷ xs) none = step (p x) refl (all_unfit p xs)
  where
    step : (b : Bool) → p x ≡ b → (filter p xs ≡ [] → All (λ y. p y ≡ false) xs) → All (λ y. p y ≡ false) (x ∷ xs)
    step true is rest = let never : x ∷ filter p xs ≡ [] = sym (ap (λ (b : Bool). cond b (x ∷ filter p xs) (filter p xs)) is) ∙ none in cc
    step false is rest = All-cons (λ y. p y ≡ false) x xs is (rest (sym (ap (λ (b : Bool). cond b (x ∷ filter p xs) (filter p xs)) is) ∙ none))

-- one that fits is not in a list in which none does
pub unlisted : {X : Type 0} (p : X → Bool) (xs : List X) (x : X) → p x ≡ true → filter p xs ≡ [] → Contains xs x → ⊥
unlisted p xs x is none there = both_ways (p x) (All-contains (λ y. p y ≡ false) xs x (all_unfit p xs none) there) is

-- what is found is in the list
pub found_listed : {X : Type 0} (p : X → Bool) (xs : List X) (x : X) → find p xs ≡ Some x → Contains xs x
found_listed p [] x found = cc
found_listed {X} p (y ∷ ys) x found = step (p y) found (found_listed p ys x)
  where
    step : (b : Bool) → cond b (Some y) (find p ys) ≡ Some x → (find p ys ≡ Some x → Contains ys x) → Contains (y ∷ ys) x
    step true here rest = let same : y ≡ x = cc in subst (Contains (y ∷ ys)) same (Contains-get_or (y ∷ ys) 0 y (omega arith))
    step false later rest = Contains-append_right (y ∷ []) ys x (rest later)

-- one that fits is kept exactly where this is so, if it is the same for each that fits
pub any_kept : {X : Type 0} (p q : X → Bool) (so : Bool) → ((x : X) → p x ≡ true → q x ≡ so) → (xs : List X) → list_any p (filter q xs) ≡ (list_any p xs && so)
any_kept p q so each [] = refl
any_kept p q so each (x ∷ xs) = step (p x) (q x) refl refl (any_kept p q so each xs)
  where
    none : (a : Bool) → (a && false) ≡ false
    none true = refl
    none false = refl

    step : (t k : Bool) → p x ≡ t → q x ≡ k → list_any p (filter q xs) ≡ (list_any p xs && so) → list_any p (cond k (x ∷ filter q xs) (filter q xs)) ≡ ((t || list_any p xs) && so)
    step true true is kept rest = ap (λ (b : Bool). b || list_any p (filter q xs)) is ∙ sym (sym (each x is) ∙ kept)
    step true false is kept rest =
        let off : so ≡ false = sym (each x is) ∙ kept in
        rest ∙ ap (λ (b : Bool). list_any p xs && b) off ∙ none (list_any p xs) ∙ sym off
    step false true is kept rest = ap (λ (b : Bool). b || list_any p (filter q xs)) is ∙ rest
    step false false is kept rest = rest

-- one that passes two tests, one after the other or both at once
pub any_both : {X : Type 0} (p q : X → Bool) (xs : List X) → list_any p (filter q xs) ≡ list_any (λ x. q x && p x) xs
any_both p q [] = refl
any_both {X} p q (x ∷ xs) = step (q x) (any_both p q xs)
  where
    step : (b : Bool) → list_any p (filter q xs) ≡ list_any (λ y. q y && p y) xs → list_any p (cond b (x ∷ filter q xs) (filter q xs)) ≡ ((b && p x) || list_any (λ y. q y && p y) xs)
    step true rest = ap (λ (c : Bool). p x || c) rest
    step false rest = rest
