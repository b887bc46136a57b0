-- Lists that are read or made from the front.
use Rattle.mum_viewer.proofs.Common.{◌≡◌, ℕ, zero, suc, ◌+◌, ◌<◌, ◌≤◌, List, [], ◌∷◌, ◌++◌, length, map, take, get_or, Option, Some, None, refl, sym, ap, ◌∙◌, arith, slice_get, get_or_default, length-append, map-append, take_all, take_more, get_or_from_slice_get, slice_get_within}

taken : {X : Type 0} (xs : List X) (i : ℕ) (x : X) → i < length xs → x ≡ get_or xs i x → take i xs ++ x ∷ [] ≡ take (i + 1) xs
taken {X} xs i x within is = ap (λ (y : X). take i xs ++ y ∷ []) is ∙ sym (take_more xs i x within)

-- one more element is mapped
pub mapped_at : {X Y : Type 0} (f : X → Y) (xs : List X) (i : ℕ) (d : X) (before now : List Y) → i < length xs → before ≡ map f (take i xs) → now ≡ before ++ f (get_or xs i d) ∷ [] → now ≡ map f (take (i + 1) xs)
mapped_at {X} {Y} f xs i d before now within done added =
    added ∙ (ap (λ (ys : List Y). ys ++ f (get_or xs i d) ∷ []) done
    ∙ (sym (map-append f (take i xs) (get_or xs i d ∷ []))
    ∙ ap (λ (ys : List X). map f ys) (taken xs i (get_or xs i d) within (get_or_default xs i d (get_or xs i d) within))))

-- the same, where the elements stand for what is seen of them
pub seen_at : {X Y Z : Type 0} (see : Z → Y) (f : X → Y) (xs : List X) (i : ℕ) (d : X) (before now : List Z) (z : Z) → i < length xs → map see before ≡ map f (take i xs) → now ≡ before ++ z ∷ [] → see z ≡ f (get_or xs i d) → map see now ≡ map f (take (i + 1) xs)
seen_at {X} {Y} {Z} see f xs i d before now z within done added is =
    mapped_at f xs i d (map see before) (map see now) within done
    (ap (λ (zs : List Z). map see zs) added ∙ (map-append see before (z ∷ []) ∙ ap (λ (y : Y). map see before ++ y ∷ []) is))

pub record IsFront {X : Type 0} (xs items : List X) : Type 0 where
  pub front : items ≡ take (length items) xs
  pub within : length items ≤ length xs

-- one more is read
pub next_front : {X : Type 0} (xs items now : List X) (i : ℕ) (x : X) → i ≡ length items → slice_get xs i ≡ Some x → items ≡ take (length items) xs → now ≡ items ++ x ∷ [] → IsFront xs now
next_front {X} xs items now i x same got front added =
    let inside : i < length xs = slice_get_within xs i x got in
    let long : length now ≡ i + 1 = ap (λ (ys : List X). length ys) added ∙ length-append items (x ∷ []) ∙ ap (λ n. n + 1) (sym same) in
    let first : items ≡ take i xs = front ∙ ap (λ n. take n xs) (sym same) in
    record {
      front = added ∙ ap (λ (ys : List X). ys ++ x ∷ []) first ∙ taken xs i x inside (sym (get_or_from_slice_get xs i x x got)) ∙ ap (λ n. take n xs) (sym long);
      within = omega arith;
    }

past_end : {X : Type 0} (xs : List X) (i : ℕ) → slice_get xs i ≡ None → length xs ≤ i
past_end [] i none = omega arith
past_end (y ∷ ys) zero none = cc
past_end (y ∷ ys) (suc i) none = let rest : length ys ≤ i = past_end ys i none in omega arith

-- no more is read: all were
pub whole_front : {X : Type 0} (xs items : List X) (i : ℕ) (o : Option X) → i ≡ length items → slice_get xs i ≡ o → ((x : X) → o ≡ Some x → ⊥) → items ≡ take (length items) xs → items ≡ xs
whole_front xs items i (Some x) same got never front = absurd (never x refl)
whole_front xs items i None same got never front = let far : length xs ≤ i = past_end xs i got in front ∙ take_all (length items) xs (omega arith)
