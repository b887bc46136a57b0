-- Lists that are read or made from the front.
use Rattle.mum_bans.proofs.Common.{◌≡◌, ℕ, ◌+◌, ◌<◌, Bool, true, List, [], ◌∷◌, ◌++◌, length, map, take, get_or, sym, ap, ◌∙◌, list_all, true_from_ne_false, both_ways, get_or_default, map-append, take_more, list_all_at}

taken : {X : Type 0} (xs : List X) (i : ℕ) (x : X) → i < length xs → x ≡ get_or xs i x → take i xs ++ x ∷ [] ≡ take (i + 1) xs
taken {X} xs i x within is = ap (λ (y : X). take i xs ++ y ∷ []) is ∙ sym (take_more xs i x within)

-- one more element is mapped
pub mapped_at : {X Y : Type 0} (f : X → Y) (xs : List X) (i : ℕ) (d : X) (before now : List Y) → i < length xs → before ≡ map f (take i xs) → now ≡ before ++ f (get_or xs i d) ∷ [] → now ≡ map f (take (i + 1) xs)
mapped_at {X} {Y} f xs i d before now within done added =
    added ∙ (ap (λ (ys : List Y). ys ++ f (get_or xs i d) ∷ []) done
    ∙ (sym (map-append f (take i xs) (get_or xs i d ∷ []))
    ∙ ap (λ (ys : List X). map f ys) (taken xs i (get_or xs i d) within (get_or_default xs i d (get_or xs i d) within))))

-- what all elements are, one of them is
pub passes_at : {X : Type 0} (p : X → Bool) (xs : List X) (i : ℕ) (x : X) → i < length xs → x ≡ get_or xs i x → list_all p xs ≡ true → p x ≡ true
passes_at {X} p xs i x within is all = true_from_ne_false (p x) (λ no. both_ways (list_all p xs) (list_all_at p xs i x within (ap p (sym is) ∙ no)) all)
