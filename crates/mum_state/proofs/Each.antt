-- What holds of each element of a list, and what a test says of one.
use Rattle.mum_state.proofs.Common.{◌≡◌, ℕ, zero, suc, ◌<◌, ◌≤◌, ◌||◌, Bool, true, false, cond, List, [], ◌∷◌, ◌++◌, map, refl, sym, ap, subst, ◌∙◌, arith, Option, Some, None, is_some, ⊤, All, count_by, filter, find, insert, list_all, list_any, option_map, and_parts, false≢true, or_left, or_parts, or_right, none-some, same_Some, count_by-cons}

abbrev pub Each : {X : Type 0} → (X → Type 0) → List X → Type 0
Each P [] = ⊤
Each P (x ∷ xs) = P x × Each P xs

-- ---- from each to each

pub each_so : {X : Type 0} (P Q : X → Type 0) → ((x : X) → P x → Q x) → (xs : List X) → Each P xs → Each Q xs
each_so P Q so [] all = tt
each_so P Q so (x ∷ xs) all = (so x all.0, each_so P Q so xs all.1)

pub each_both : {X : Type 0} (P Q R : X → Type 0) → ((x : X) → P x → Q x → R x) → (xs : List X) → Each P xs → Each Q xs → Each R xs
each_both P Q R so [] all also = tt
each_both P Q R so (x ∷ xs) all also = (so x all.0 also.0, each_both P Q R so xs all.1 also.1)

pub each_map : {X Y : Type 0} (P : X → Type 0) (Q : Y → Type 0) (f : X → Y) → ((x : X) → P x → Q (f x)) → (xs : List X) → Each P xs → Each Q (map f xs)
each_map P Q f so [] all = tt
each_map P Q f so (x ∷ xs) all = (so x all.0, each_map P Q f so xs all.1)

pub each_filter : {X : Type 0} (P : X → Type 0) (test : X → Bool) (xs : List X) → Each P xs → Each P (filter test xs)
each_filter P test [] all = tt
each_filter P test (x ∷ xs) all = step (test x) (each_filter P test xs all.1)
  where
    step : (b : Bool) → Each P (filter test xs) → Each P (cond b (x ∷ filter test xs) (filter test xs))
    step true rest = (all.0, rest)
    step false rest = rest

pub each_append : {X : Type 0} (P : X → Type 0) (xs ys : List X) → Each P xs → Each P ys → Each P (xs ++ ys)
each_append P [] ys all also = also
each_append P (x ∷ xs) ys all also = (all.0, each_append P xs ys all.1 also)

pub each_insert : {X : Type 0} (P : X → Type 0) (xs : List X) (i : ℕ) (x : X) → Each P xs → P x → Each P (insert xs i x)
each_insert P [] zero x all new = (new, tt)
each_insert P [] (suc i) x all new = (new, tt)
each_insert P (y ∷ ys) zero x all new = (new, all)
each_insert P (y ∷ ys) (suc i) x all new = (all.0, each_insert P ys i x all.1 new)

pub each_from_all : {X : Type 0} (P : X → Type 0) (xs : List X) → All P xs → Each P xs
each_from_all P [] all = tt
each_from_all P (x ∷ xs) all = (all 0 x (omega arith), each_from_all P xs (λ k d within. all (suc k) d (omega arith)))

-- ---- tests

pub each_passes : {X : Type 0} (p : X → Bool) (xs : List X) → list_all p xs ≡ true → Each (λ x. p x ≡ true) xs
each_passes p [] all = tt
each_passes p (x ∷ xs) all = let parts = and_parts (p x) (list_all p xs) all in (parts.0, each_passes p xs parts.1)

pub each_fails : {X : Type 0} (p : X → Bool) (xs : List X) → list_any p xs ≡ false → Each (λ x. p x ≡ false) xs
each_fails p [] none = tt
each_fails p (x ∷ xs) none = let parts = or_parts (p x) (list_any p xs) none in (parts.0, each_fails p xs parts.1)

pub none_passes : {X : Type 0} (p : X → Bool) (xs : List X) → Each (λ x. p x ≡ false) xs → list_any p xs ≡ false
none_passes p [] all = refl
none_passes p (x ∷ xs) all = ap (λ (b : Bool). b || list_any p xs) all.0 ∙ none_passes p xs all.1

-- what follows of an element that passes
pub each_any : {X : Type 0} (P : X → Type 0) (Q : Type 0) (p : X → Bool) → ((x : X) → P x → p x ≡ true → Q) → (xs : List X) → Each P xs → list_any p xs ≡ true → Q
each_any P Q p so [] all some = absurd (false≢true some)
each_any P Q p so (x ∷ xs) all some = step (p x) refl (each_any P Q p so xs all.1)
  where
    step : (b : Bool) → p x ≡ b → (list_any p xs ≡ true → Q) → Q
    step true is later = so x all.0 is
    step false is later = later (sym (ap (λ (b : Bool). b || list_any p xs) is) ∙ some)

-- each element passes its own test, so it is among those of the list that do
pub each_self : {X : Type 0} (test : X → X → Bool) → ((x : X) → test x x ≡ true) → (xs : List X) → Each (λ x. list_any (test x) xs ≡ true) xs
each_self test same [] = tt
each_self {X} test same (x ∷ xs) = (
  or_left (test x x) (list_any (test x) xs) (same x),
  each_so (λ (y : X). list_any (test y) xs ≡ true) (λ (y : X). (test y x || list_any (test y) xs) ≡ true)
      (λ y some. or_right (test y x) (list_any (test y) xs) some) xs (each_self test same xs),
)

pub any_alike : {X : Type 0} (p q : X → Bool) → ((x : X) → p x ≡ q x) → (xs : List X) → list_any p xs ≡ list_any q xs
any_alike p q same [] = refl
any_alike p q same (x ∷ xs) = ap (λ (b : Bool). b || list_any p xs) (same x) ∙ ap (λ (b : Bool). q x || b) (any_alike p q same xs)

pub any_map : {X Y : Type 0} (p : Y → Bool) (q : X → Bool) (f : X → Y) → ((x : X) → p (f x) ≡ q x) → (xs : List X) → list_any p (map f xs) ≡ list_any q xs
any_map p q f same [] = refl
any_map p q f same (x ∷ xs) = ap (λ (b : Bool). b || list_any p (map f xs)) (same x) ∙ ap (λ (b : Bool). q x || b) (any_map p q f same xs)

-- ---- lists that stay

pub filter_stays : {X : Type 0} (p : X → Bool) (xs : List X) → Each (λ x. p x ≡ true) xs → filter p xs ≡ xs
filter_stays p [] all = refl
filter_stays {X} p (x ∷ xs) all =
    ap (λ (b : Bool). cond b (x ∷ filter p xs) (filter p xs)) all.0 ∙ ap (λ (ys : List X). x ∷ ys) (filter_stays p xs all.1)

pub map_stays : {X : Type 0} (f : X → X) (xs : List X) → Each (λ x. f x ≡ x) xs → map f xs ≡ xs
map_stays f [] all = refl
map_stays {X} f (x ∷ xs) all = ap (λ (y : X). y ∷ map f xs) all.0 ∙ ap (λ (ys : List X). x ∷ ys) (map_stays f xs all.1)

pub map_each : {X Y : Type 0} (f g : X → Y) (xs : List X) → Each (λ x. f x ≡ g x) xs → map f xs ≡ map g xs
map_each f g [] all = refl
map_each {X} {Y} f g (x ∷ xs) all = ap (λ (y : Y). y ∷ map f xs) all.0 ∙ ap (λ (ys : List Y). g x ∷ ys) (map_each f g xs all.1)

-- a look through a map that it does not see
pub map_unseen : {X Y : Type 0} (g : X → Y) (f : X → X) → ((x : X) → g (f x) ≡ g x) → (xs : List X) → map g (map f xs) ≡ map g xs
map_unseen g f same [] = refl
map_unseen {X} {Y} g f same (x ∷ xs) = ap (λ (y : Y). y ∷ map g (map f xs)) (same x) ∙ ap (λ (ys : List Y). g x ∷ ys) (map_unseen g f same xs)

-- ---- the first that passes

pub some_found : {X : Type 0} (p : X → Bool) (xs : List X) → is_some (find p xs) ≡ list_any p xs
some_found p [] = refl
some_found p (x ∷ xs) = step (p x) (some_found p xs)
  where
    step : (b : Bool) → is_some (find p xs) ≡ list_any p xs → is_some (cond b (Some x) (find p xs)) ≡ (b || list_any p xs)
    step true later = refl
    step false later = later

-- what holds of each holds of the one that is found, and it passes
pub each_find : {X : Type 0} (P : X → Type 0) (p : X → Bool) (xs : List X) (x : X) → Each P xs → find p xs ≡ Some x → P x × (p x ≡ true)
each_find P p [] x all found = absurd (none-some x found)
each_find {X} P p (y ∷ ys) x all found = step (p y) refl (each_find P p ys x all.1)
  where
    step : (b : Bool) → p y ≡ b → (find p ys ≡ Some x → P x × (p x ≡ true)) → P x × (p x ≡ true)
    step true is later =
        let same : y ≡ x = same_Some y x (sym (ap (λ (b : Bool). cond b (Some y) (find p ys)) is) ∙ found) in
        subst (λ (z : X). P z × (p z ≡ true)) same (all.0, is)
    step false is later = later (sym (ap (λ (b : Bool). cond b (Some y) (find p ys)) is) ∙ found)

pub found_passes : {X : Type 0} (p : X → Bool) (xs : List X) (x : X) → find p xs ≡ Some x → p x ≡ true
found_passes {X} p xs x found = (each_find (λ (y : X). ⊤) p xs x (each xs) found).1
  where
    each : (ys : List X) → Each (λ (y : X). ⊤) ys
    each [] = tt
    each (y ∷ ys) = (tt, each ys)

-- one that is found and passes another test counts there
passing_counts : {X : Type 0} (p q : X → Bool) (xs : List X) (x : X) → q x ≡ true → find p xs ≡ Some x → 0 < count_by q xs
passing_counts p q [] x passes found = absurd (none-some x found)
passing_counts p q (y ∷ ys) x passes found = step (p y) refl (passing_counts p q ys x passes)
  where
    step : (b : Bool) → p y ≡ b → (find p ys ≡ Some x → 0 < count_by q ys) → 0 < count_by q (y ∷ ys)
    step true is later =
        let same : y ≡ x = same_Some y x (sym (ap (λ (b : Bool). cond b (Some y) (find p ys)) is) ∙ found) in
        omega (arith, count_by-cons q y ys, ap (λ (b : Bool). cond {A = ℕ} b 1 0) (ap q same ∙ passes))
    step false is later = omega (arith, count_by-cons q y ys, later (sym (ap (λ (b : Bool). cond b (Some y) (find p ys)) is) ∙ found))

-- and is among those that do
pub passing_any : {X : Type 0} (p q : X → Bool) (xs : List X) (x : X) → q x ≡ true → find p xs ≡ Some x → list_any q xs ≡ true
passing_any p q [] x passes found = absurd (none-some x found)
passing_any p q (y ∷ ys) x passes found = step (p y) refl (passing_any p q ys x passes)
  where
    step : (b : Bool) → p y ≡ b → (find p ys ≡ Some x → list_any q ys ≡ true) → list_any q (y ∷ ys) ≡ true
    step true is later =
        let same : y ≡ x = same_Some y x (sym (ap (λ (b : Bool). cond b (Some y) (find p ys)) is) ∙ found) in
        or_left (q y) (list_any q ys) (ap q same ∙ passes)
    step false is later = or_right (q y) (list_any q ys) (later (sym (ap (λ (b : Bool). cond b (Some y) (find p ys)) is) ∙ found))

pub found_counts : {X : Type 0} (p : X → Bool) (xs : List X) (x : X) → find p xs ≡ Some x → 0 < count_by p xs
found_counts p xs x found = passing_counts p p xs x (found_passes p xs x found) found

-- where nothing is found, nothing passes
pub none_found : {X : Type 0} (p : X → Bool) (xs : List X) → find p xs ≡ None → Each (λ x. p x ≡ false) xs
none_found p [] none = tt
none_found {X} p (x ∷ xs) none = step (p x) refl (none_found p xs)
  where
    step : (b : Bool) → p x ≡ b → (find p xs ≡ None → Each (λ y. p y ≡ false) xs) → Each (λ y. p y ≡ false) (x ∷ xs)
    step true is later = absurd (none-some x (sym none ∙ ap (λ (b : Bool). cond b (Some x) (find p xs)) is))
    step false is later = (is, later (sym (ap (λ (b : Bool). cond b (Some x) (find p xs)) is) ∙ none))

none_counts : {X : Type 0} (p : X → Bool) (P : X → Type 0) (xs : List X) → count_by p xs ≡ 0 → Each (λ x. p x ≡ true → P x) xs
none_counts p P [] none = tt
none_counts p P (x ∷ xs) none = step (p x) refl (none_counts p P xs)
  where
    step : (b : Bool) → p x ≡ b → (count_by p xs ≡ 0 → Each (λ y. p y ≡ true → P y) xs) → Each (λ y. p y ≡ true → P y) (x ∷ xs)
    step true is later = absurd (omega (arith, count_by-cons p x xs, ap (λ (b : Bool). cond {A = ℕ} b 1 0) is))
    step false is later = ((λ passes. absurd (false≢true (sym is ∙ passes))), later (omega (arith, count_by-cons p x xs)))

-- where one element at most passes, and one that is found passes, each that passes is that one
pub only_one : {X : Type 0} (p q : X → Bool) (xs : List X) (x : X) → count_by q xs ≤ 1 → q x ≡ true → find p xs ≡ Some x → Each (λ y. q y ≡ true → y ≡ x) xs
only_one p q [] x few passes found = tt
only_one {X} p q (y ∷ ys) x few passes found = step (p y) refl (only_one p q ys x)
  where
    step : (b : Bool) → p y ≡ b → (count_by q ys ≤ 1 → q x ≡ true → find p ys ≡ Some x → Each (λ z. q z ≡ true → z ≡ x) ys) → Each (λ z. q z ≡ true → z ≡ x) (y ∷ ys)
    step true is later =
        let same : y ≡ x = same_Some y x (sym (ap (λ (b : Bool). cond b (Some y) (find p ys)) is) ∙ found) in
        let one : count_by q ys ≡ 0 = omega (arith, few, count_by-cons q y ys, ap (λ (b : Bool). cond {A = ℕ} b 1 0) (ap q same ∙ passes)) in
        ((λ _. same), none_counts q (λ z. z ≡ x) ys one)
    step false is later =
        let found : find p ys ≡ Some x = sym (ap (λ (b : Bool). cond b (Some y) (find p ys)) is) ∙ found in
        let some : 0 < count_by q ys = passing_counts p q ys x passes found in (
          (λ also. absurd (omega (arith, few, some, count_by-cons q y ys, ap (λ (b : Bool). cond {A = ℕ} b 1 0) also))),
          later (omega (arith, few, count_by-cons q y ys)) passes found,
        )

-- where one element passes at most, each that passes is the one that is found
pub only_found : {X : Type 0} (p : X → Bool) (xs : List X) (x : X) → count_by p xs ≤ 1 → find p xs ≡ Some x → Each (λ y. p y ≡ true → y ≡ x) xs
only_found p xs x few found = only_one p p xs x few (found_passes p xs x found) found

-- the value that a look at an option showed
pub shown : {X Y : Type 0} (f : X → Y) (o : Option X) (y : Y) → option_map f o ≡ Some y → (x : X) × (o ≡ Some x) × (f x ≡ y)
shown f None y is = absurd (none-some y is)
shown f (Some x) y is = (x, refl, same_Some (f x) y is)
