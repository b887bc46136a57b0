-- What is found in a list of which some are kept, or each is made another of the same kind.
use Rattle.mum_rights_laws.proofs.Common.{◌≡◌, ◌&&◌, ◌||◌, Bool, true, false, cond, List, [], ◌∷◌, map, Some, None, refl, ap, sym, ◌∙◌, filter, find, list_any, option_map, both_ways}

pub found_mapped : {X : Type 0} (p : X → Bool) (f : X → X) → ((x : X) → p (f x) ≡ p x) → (xs : List X) → find p (map f xs) ≡ option_map f (find p xs)
found_mapped p f same [] = refl
found_mapped p f same (x ∷ xs) =
    ap (λ (b : Bool). cond b (Some (f x)) (find p (map f xs))) (same x) ∙ step (p x) (found_mapped p f same xs)
  where
    step : (b : Bool) → find p (map f xs) ≡ option_map f (find p xs) → cond b (Some (f x)) (find p (map f xs)) ≡ option_map f (cond b (Some x) (find p xs))
    step true rest = refl
    step false rest = rest

-- what is looked for is found where all that fits is kept
pub found_kept : {X : Type 0} (p q : X → Bool) → ((x : X) → p x ≡ true → q x ≡ true) → (xs : List X) → find p (filter q xs) ≡ find p xs
found_kept p q so [] = refl
found_kept p q so (x ∷ xs) = step (p x) (q x) refl refl (found_kept p q so xs)
  where
    step : (t k : Bool) → p x ≡ t → q x ≡ k → find p (filter q xs) ≡ find p xs → find p (cond k (x ∷ filter q xs) (filter q xs)) ≡ cond t (Some x) (find p xs)
    step true true is kept rest = ap (λ (b : Bool). cond b (Some x) (find p (filter q xs))) is
    step true false is kept rest = absurd (both_ways (q x) kept (so x is))
    step false true is kept rest = ap (λ (b : Bool). cond b (Some x) (find p (filter q xs))) is ∙ rest
    step false false is kept rest = rest

-- and not where none that fits is kept
pub none_kept : {X : Type 0} (p q : X → Bool) → ((x : X) → p x ≡ true → q x ≡ false) → (xs : List X) → find p (filter q xs) ≡ None
none_kept p q so [] = refl
none_kept p q so (x ∷ xs) = step (p x) (q x) refl refl (none_kept p q so xs)
  where
    step : (t k : Bool) → p x ≡ t → q x ≡ k → find p (filter q xs) ≡ None → find p (cond k (x ∷ filter q xs) (filter q xs)) ≡ None
    step true true is kept rest = absurd (both_ways (q x) (so x is) kept)
    step true false is kept rest = rest
    step false true is kept rest = ap (λ (b : Bool). cond b (Some x) (find p (filter q xs))) is ∙ rest
    step false false is kept rest = rest

-- one that fits is kept exactly where this is so, if it is the same for each that fits
pub any_kept : {X : Type 0} (p q : X → Bool) (so : Bool) → ((x : X) → p x ≡ true → q x ≡ so) → (xs : List X) → list_any p (filter q xs) ≡ (list_any p xs && so)
any_kept p q so each [] = refl
any_kept p q so each (x ∷ xs) = step (p x) (q x) refl refl (any_kept p q so each xs)
  where
    none : (a : Bool) → (a && false) ≡ false
    none true = refl
    none false = refl

    step : (t k : Bool) → p x ≡ t → q x ≡ k → list_any p (filter q xs) ≡ (list_any p xs && so) → list_any p (cond k (x ∷ filter q xs) (filter q xs)) ≡ ((t || list_any p xs) && so)
    step true true is kept rest = ap (λ (b : Bool). b || list_any p (filter q xs)) is ∙ sym (sym (each x is) ∙ kept)
    step true false is kept rest =
        let off : so ≡ false = sym (each x is) ∙ kept in
        rest ∙ ap (λ (b : Bool). list_any p xs && b) off ∙ none (list_any p xs) ∙ sym off
    step false true is kept rest = ap (λ (b : Bool). b || list_any p (filter q xs)) is ∙ rest
    step false false is kept rest = rest
