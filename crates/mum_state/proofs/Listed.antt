-- What a test says of all of a list, after the list changed.
use Rattle.mum_state.proofs.Common.{◌≡◌, ℕ, zero, suc, ◌&&◌, ◌||◌, not, Bool, true, false, cond, List, [], ◌∷◌, ◌++◌, map, refl, sym, ap, ◌∙◌, arith, insert, All, filter, list_all, list_any, and_from, and_parts, false≢true}

-- a test that each element passes takes nothing away
pub filter_all : {X : Type 0} (p : X → Bool) (xs : List X) → list_all p xs ≡ true → filter p xs ≡ xs
filter_all p [] all = refl
filter_all {X} p (x ∷ xs) all =
    let parts = and_parts (p x) (list_all p xs) all in
    rw parts.0 (ap (λ (ys : List X). x ∷ ys) (filter_all p xs parts.1))

-- where none passes a test, each passes its opposite
pub all_not : {X : Type 0} (p : X → Bool) (xs : List X) → list_any p xs ≡ false → list_all (λ x. not (p x)) xs ≡ true
all_not p [] none = refl
all_not p (x ∷ xs) none = step (p x) none (all_not p xs)
  where
    step : (b : Bool) → (b || list_any p xs) ≡ false → (list_any p xs ≡ false → list_all (λ x. not (p x)) xs ≡ true) → (not b && list_all (λ x. not (p x)) xs) ≡ true
    step true others rest = absurd (false≢true (sym others))
    step false others rest = rest others

-- each passes a test that passes all that another passes
pub all_too : {X : Type 0} (p q : X → Bool) → ((x : X) → p x ≡ true → q x ≡ true) → (xs : List X) → list_all p xs ≡ true → list_all q xs ≡ true
all_too p q so [] all = refl
all_too p q so (x ∷ xs) all = let parts = and_parts (p x) (list_all p xs) all in and_from (q x) (list_all q xs) (so x parts.0) (all_too p q so xs parts.1)

pub all_from : {X : Type 0} (q : X → Bool) (xs : List X) → All (λ x. q x ≡ true) xs → list_all q xs ≡ true
all_from q [] all = refl
all_from q (x ∷ xs) all = and_from (q x) (list_all q xs) (all 0 x (omega arith)) (all_from q xs (λ k d within. all (suc k) d (omega arith)))

pub all_at : {X : Type 0} (q : X → Bool) (xs : List X) → list_all q xs ≡ true → All (λ x. q x ≡ true) xs
all_at q [] all k d within = absurd (omega arith)
all_at q (x ∷ xs) all zero d within = (and_parts (q x) (list_all q xs) all).0
all_at q (x ∷ xs) all (suc k) d within = all_at q xs (and_parts (q x) (list_all q xs) all).1 k d (omega arith)

-- of a list that is mapped
pub all_map : {X Y : Type 0} (p : X → Bool) (q : Y → Bool) (f : X → Y) → ((x : X) → p x ≡ true → q (f x) ≡ true) → (xs : List X) → list_all p xs ≡ true → list_all q (map f xs) ≡ true
all_map p q f so [] all = refl
all_map p q f so (x ∷ xs) all = let parts = and_parts (p x) (list_all p xs) all in and_from (q (f x)) (list_all q (map f xs)) (so x parts.0) (all_map p q f so xs parts.1)

-- and of one of which a part is taken away
pub all_filter : {X : Type 0} (p q : X → Bool) (xs : List X) → list_all p xs ≡ true → list_all p (filter q xs) ≡ true
all_filter p q [] all = refl
all_filter {X} p q (x ∷ xs) all =
    let parts = and_parts (p x) (list_all p xs) all in
    step (q x) parts.0 (all_filter p q xs parts.1)
  where
    step : (b : Bool) → p x ≡ true → list_all p (filter q xs) ≡ true → list_all p (cond b (x ∷ filter q xs) (filter q xs)) ≡ true
    step true first rest = and_from (p x) (list_all p (filter q xs)) first rest
    step false first rest = rest

-- what a filter leaves passes all that its test says
pub all_passing : {X : Type 0} (p q : X → Bool) → ((x : X) → q x ≡ true → p x ≡ true) → (xs : List X) → list_all p (filter q xs) ≡ true
all_passing p q so [] = refl
all_passing {X} p q so (x ∷ xs) = step (q x) refl (all_passing p q so xs)
  where
    step : (b : Bool) → q x ≡ b → list_all p (filter q xs) ≡ true → list_all p (cond b (x ∷ filter q xs) (filter q xs)) ≡ true
    step true on rest = and_from (p x) (list_all p (filter q xs)) (so x on) rest
    step false off rest = rest

-- and of one with one element more
pub all_insert : {X : Type 0} (p : X → Bool) (xs : List X) (i : ℕ) (x : X) → p x ≡ true → list_all p xs ≡ true → list_all p (insert xs i x) ≡ true
all_insert p xs zero x first all = and_from (p x) (list_all p xs) first all
all_insert p [] (suc i) x first all = and_from (p x) true first refl
all_insert p (y ∷ xs) (suc i) x first all =
    let parts = and_parts (p y) (list_all p xs) all in
    and_from (p y) (list_all p (insert xs i x)) parts.0 (all_insert p xs i x first parts.1)

pub inserted_passes : {X : Type 0} (p : X → Bool) (xs : List X) (i : ℕ) (x : X) → list_all p (insert xs i x) ≡ true → p x ≡ true
inserted_passes p xs zero x all = (and_parts (p x) (list_all p xs) all).0
inserted_passes p [] (suc i) x all = (and_parts (p x) true all).0
inserted_passes p (y ∷ xs) (suc i) x all = inserted_passes p xs i x (and_parts (p y) (list_all p (insert xs i x)) all).1

pub last_passes : {X : Type 0} (p : X → Bool) (xs : List X) (x : X) → list_all p (xs ++ x ∷ []) ≡ true → p x ≡ true
last_passes p [] x all = (and_parts (p x) true all).0
last_passes p (y ∷ xs) x all = last_passes p xs x (and_parts (p y) (list_all p (xs ++ x ∷ [])) all).1

pub all_push : {X : Type 0} (p : X → Bool) (xs : List X) (x : X) → p x ≡ true → list_all p xs ≡ true → list_all p (xs ++ x ∷ []) ≡ true
all_push p [] x last all = and_from (p x) true last refl
all_push p (y ∷ xs) x last all =
    let parts = and_parts (p y) (list_all p xs) all in
    and_from (p y) (list_all p (xs ++ x ∷ [])) parts.0 (all_push p xs x last parts.1)

-- a test that a map leaves passes the same
pub any_stays : {X : Type 0} (p : X → Bool) (f : X → X) → ((x : X) → p (f x) ≡ p x) → (xs : List X) → list_any p (map f xs) ≡ list_any p xs
any_stays p f same [] = refl
any_stays p f same (x ∷ xs) = ap (λ b. b || list_any p (map f xs)) (same x) ∙ ap (λ b. p x || b) (any_stays p f same xs)

pub map_same : {X Y : Type 0} (f g : X → Y) → ((x : X) → f x ≡ g x) → (xs : List X) → map f xs ≡ map g xs
map_same f g same [] = refl
map_same {X} {Y} f g same (x ∷ xs) = ap (λ (y : Y). y ∷ map f xs) (same x) ∙ ap (λ (ys : List Y). g x ∷ ys) (map_same f g same xs)

pub map_twice : {X Y Z : Type 0} (g : Y → Z) (f : X → Y) (xs : List X) → map g (map f xs) ≡ map (λ x. g (f x)) xs
map_twice g f [] = refl
map_twice {X} {Y} {Z} g f (x ∷ xs) = ap (λ (zs : List Z). g (f x) ∷ zs) (map_twice g f xs)

-- a filter by what a map gives
pub map_filter : {X Y : Type 0} (f : X → Y) (q : Y → Bool) (xs : List X) → map f (filter (λ x. q (f x)) xs) ≡ filter q (map f xs)
map_filter f q [] = refl
map_filter {X} {Y} f q (x ∷ xs) = step (q (f x)) (map_filter f q xs)
  where
    step : (b : Bool) → map f (filter (λ x. q (f x)) xs) ≡ filter q (map f xs) → map f (cond b (x ∷ filter (λ x. q (f x)) xs) (filter (λ x. q (f x)) xs)) ≡ cond b (f x ∷ filter q (map f xs)) (filter q (map f xs))
    step true rest = ap (λ (ys : List Y). f x ∷ ys) rest
    step false rest = rest

-- two tests that agree where a third passes leave the same of a list of which all pass it
pub filter_same : {X : Type 0} (p q r : X → Bool) → ((x : X) → r x ≡ true → p x ≡ q x) → (xs : List X) → list_all r xs ≡ true → filter p xs ≡ filter q xs
filter_same p q r same [] all = refl
filter_same {X} p q r same (x ∷ xs) all =
    let parts = and_parts (r x) (list_all r xs) all in
    ap (λ (b : Bool). cond b (x ∷ filter p xs) (filter p xs)) (same x parts.0)
    ∙ ap (λ (ys : List X). cond (q x) (x ∷ ys) ys) (filter_same p q r same xs parts.1)

-- a change of those that a test picks leaves what all pass
pub all_changed : {X : Type 0} (p q : X → Bool) (change : X → X) → ((x : X) → p x ≡ true → p (change x) ≡ true) → (xs : List X) → list_all p xs ≡ true → list_all p (map (λ x. cond (q x) (change x) x) xs) ≡ true
all_changed {X} p q change so xs all = all_map p p (λ x. cond (q x) (change x) x) (λ x good. step x (q x) good) xs all
  where
    step : (x : X) (b : Bool) → p x ≡ true → p (cond b (change x) x) ≡ true
    step x true good = so x good
    step x false good = good

-- what all pass after it, one that is changed passes
pub changed_passes : {X : Type 0} (p q : X → Bool) (change : X → X) (xs : List X) → list_any q xs ≡ true → list_all p (map (λ x. cond (q x) (change x) x) xs) ≡ true → (x : X) × (p (change x) ≡ true)
changed_passes p q change [] some all = absurd (false≢true some)
changed_passes {X} p q change (x ∷ xs) some all =
    let parts = and_parts (p (cond (q x) (change x) x)) (list_all p (map (λ y. cond (q y) (change y) y) xs)) all in
    step (q x) refl some parts.0 (λ later. changed_passes p q change xs later parts.1)
  where
    step : (b : Bool) → q x ≡ b → (b || list_any q xs) ≡ true → p (cond (q x) (change x) x) ≡ true → (list_any q xs ≡ true → (y : X) × (p (change y) ≡ true)) → (y : X) × (p (change y) ≡ true)
    step true is some-2 first rest = (x, ap (λ (b : Bool). p (cond b (change x) x)) (sym is) ∙ first)
    step false is some-2 first rest = rest some-2
