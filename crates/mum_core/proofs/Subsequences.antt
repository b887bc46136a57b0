-- Lists of which one is in another, in order.
use Rattle.mum_core.proofs.Common.{◌≡◌, ℕ, Bool, true, false, cond, List, [], ◌∷◌, ◌++◌, map, refl, sym, ap, subst, inl, inr, filter, ◌==◌, AllByRecursion, eq-eqb, eqb-false, append-nil, IsSubsequence, IsSubsequenceBy}

pub skip : {A B : Type 0} (R : A → B → Type 0) (y : B) (xs : List A) (ys : List B) → IsSubsequenceBy R xs ys → IsSubsequenceBy R xs (y ∷ ys)
skip R y [] ys h = tt
skip R y (x ∷ xs) ys h = inr h

-- where the parts are in the parts, the whole is in the whole
pub parts_stand : {A : Type 0} (xs ys more others : List A) → IsSubsequence xs ys → IsSubsequence more others → IsSubsequence (xs ++ more) (ys ++ others)
parts_stand [] [] more others h k = k
parts_stand [] (y ∷ ys) more others h k = skip (λ a b. a ≡ b) y more (ys ++ others) (parts_stand [] ys more others tt k)
parts_stand (x ∷ xs) [] more others h k = absurd h
parts_stand (x ∷ xs) (y ∷ ys) more others (inl here) k = inl (here.0, parts_stand xs ys more others here.1 k)
parts_stand (x ∷ xs) (y ∷ ys) more others (inr later) k = inr (parts_stand (x ∷ xs) ys more others later k)

-- a list is in itself
pub stands_itself : {A : Type 0} (xs : List A) → IsSubsequence xs xs
stands_itself [] = tt
stands_itself (x ∷ xs) = inl (refl, stands_itself xs)

pub stands_in_none : {A B : Type 0} (R : A → B → Type 0) (xs : List A) → IsSubsequenceBy R xs [] → xs ≡ []
stands_in_none R [] h = refl
stands_in_none R (x ∷ xs) h = absurd h

pub stands_longer : {A : Type 0} (xs ys more : List A) → IsSubsequence xs ys → IsSubsequence xs (ys ++ more)
stands_longer {A = A} xs ys more h = subst (λ (part : List A). IsSubsequence part (ys ++ more)) (append-nil xs) (parts_stand xs ys [] more h tt)

-- tests that agree leave what is so in what is left
pub filtered_stand : {A B : Type 0} (R : A → B → Type 0) (good : B → Type 0) (p : A → Bool) (q : B → Bool) → ((x : A) (y : B) → good y → R x y → p x ≡ q y)
    → (xs : List A) (ys : List B) → AllByRecursion good ys → IsSubsequenceBy R xs ys → IsSubsequenceBy R (filter p xs) (filter q ys)
filtered_stand R good p q agree [] ys all h = tt
filtered_stand R good p q agree (x ∷ xs) [] all h = absurd h
filtered_stand R good p q agree (x ∷ xs) (y ∷ ys) all (inl here) = both (p x) (q y) (agree x y all.0 here.0) (filtered_stand R good p q agree xs ys all.1 here.1)
  where
    both : (a b : Bool) → a ≡ b → IsSubsequenceBy R (filter p xs) (filter q ys) → IsSubsequenceBy R (cond a (x ∷ filter p xs) (filter p xs)) (cond b (y ∷ filter q ys) (filter q ys))
    both true true e rest = inl (here.0, rest)
    both false false e rest = rest
    both true false e rest = cc
    both false true e rest = cc
filtered_stand R good p q agree (x ∷ xs) (y ∷ ys) all (inr later) = other (q y) (filtered_stand R good p q agree (x ∷ xs) ys all.1 later)
  where
    other : (b : Bool) → IsSubsequenceBy R (filter p (x ∷ xs)) (filter q ys) → IsSubsequenceBy R (filter p (x ∷ xs)) (cond b (y ∷ filter q ys) (filter q ys))
    other true rest = skip R y (filter p (x ∷ xs)) (filter q ys) rest
    other false rest = rest

-- what is in the values of a list is so in what the list is in
pub stands_through : {A B C : Type 0} (R : B → C → Type 0) (S : A → C → Type 0) (f : B → A) → ((b : B) (c : C) → R b c → S (f b) c)
    → (xs : List A) (bs : List B) (ys : List C) → IsSubsequence xs (map f bs) → IsSubsequenceBy R bs ys → IsSubsequenceBy S xs ys
stands_through R S f each [] bs ys h k = tt
stands_through R S f each (x ∷ xs) [] ys h k = absurd h
stands_through R S f each (x ∷ xs) (b ∷ bs) [] h k = absurd k
stands_through {A = A} R S f each (x ∷ xs) (b ∷ bs) (y ∷ ys) (inl here) (inl same) =
    inl (subst (λ (a : A). S a y) (sym here.0) (each b y same.0), stands_through R S f each xs bs ys here.1 same.1)
stands_through R S f each (x ∷ xs) (b ∷ bs) (y ∷ ys) (inr later) (inl same) = inr (stands_through R S f each (x ∷ xs) bs ys later same.1)
stands_through R S f each (x ∷ xs) (b ∷ bs) (y ∷ ys) h (inr later) = inr (stands_through R S f each (x ∷ xs) (b ∷ bs) ys h later)

pub mapped_stand : {A B : Type 0} (f : A → B) (xs ys : List A) → IsSubsequence xs ys → IsSubsequence (map f xs) (map f ys)
mapped_stand f [] ys h = tt
mapped_stand f (x ∷ xs) [] h = absurd h
mapped_stand f (x ∷ xs) (y ∷ ys) (inl here) = inl (ap f here.0, mapped_stand f xs ys here.1)
mapped_stand f (x ∷ xs) (y ∷ ys) (inr later) = inr (mapped_stand f (x ∷ xs) ys later)

pub from_mapped : {A B C : Type 0} (S : B → C → Type 0) (f : A → B) (xs : List A) (ys : List C) → IsSubsequenceBy S (map f xs) ys → IsSubsequenceBy (λ x y. S (f x) y) xs ys
from_mapped S f [] ys h = tt
from_mapped S f (x ∷ xs) [] h = absurd h
from_mapped S f (x ∷ xs) (y ∷ ys) (inl here) = inl (here.0, from_mapped S f xs ys here.1)
from_mapped S f (x ∷ xs) (y ∷ ys) (inr later) = inr (from_mapped S f (x ∷ xs) ys later)

-- ---- lists that are filtered

pub filter-mapped : {A B : Type 0} (f : A → B) (p : B → Bool) (xs : List A) → filter p (map f xs) ≡ map f (filter (λ x. p (f x)) xs)
filter-mapped f p [] = refl
filter-mapped {B = B} f p (x ∷ xs) = from (p (f x)) (filter-mapped f p xs)
  where
    from : (b : Bool) → filter p (map f xs) ≡ map f (filter (λ x. p (f x)) xs)
        → cond b (f x ∷ filter p (map f xs)) (filter p (map f xs)) ≡ map f (cond b (x ∷ filter (λ x. p (f x)) xs) (filter (λ x. p (f x)) xs))
    from true rest = ap (λ (zs : List B). f x ∷ zs) rest
    from false rest = rest

head_out : {A : Type 0} (q : A → Bool) (x : A) (xs : List A) → filter q (x ∷ xs) ≡ [] → (q x ≡ false) × (filter q xs ≡ [])
head_out q x xs none = from (q x) refl none
  where
    from : (b : Bool) → q x ≡ b → cond b (x ∷ filter q xs) (filter q xs) ≡ [] → (q x ≡ false) × (filter q xs ≡ [])
    from true e none = cc
    from false e none = (e, none)

-- where the test leaves nothing of any other place, it leaves only what is at this one
pub only_of : {A : Type 0} (w : ℕ) (q : A → Bool) (at : A → ℕ) (xs : List A) → ((v : ℕ) → (v ≡ w → ⊥) → filter q (filter (λ x. at x == v) xs) ≡ [])
    → filter q xs ≡ filter q (filter (λ x. at x == w) xs)
only_of w q at [] none = refl
only_of {A = A} w q at (x ∷ xs) none = from (at x == w) refl (only_of w q at xs (λ v other. behind (at x == v) (filter (λ x. at x == v) xs) (none v other)))
  where
    behind : (b : Bool) (ys : List A) → filter q (cond b (x ∷ ys) ys) ≡ [] → filter q ys ≡ []
    behind true ys out = (head_out q x ys out).1
    behind false ys out = out

    from : (b : Bool) → (at x == w) ≡ b → filter q xs ≡ filter q (filter (λ x. at x == w) xs)
        → filter q (x ∷ xs) ≡ filter q (cond b (x ∷ filter (λ x. at x == w) xs) (filter (λ x. at x == w) xs))
    from true e rest = ap (λ (zs : List A). cond (q x) (x ∷ zs) zs) rest
    from false e rest =
        let mine : (at x == at x) ≡ true = eq-eqb (at x) (at x) refl in
        let ys : List A = filter (λ y. at y == at x) xs in
        let out : filter q (x ∷ ys) ≡ [] = subst (λ (b : Bool). filter q (cond b (x ∷ ys) ys) ≡ []) mine (none (at x) (eqb-false (at x) w e)) in
        let off : q x ≡ false = (head_out q x ys out).0 in
        rw off rest
