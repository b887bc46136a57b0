-- One more piece of a list that is made of pieces.
use Rattle.mum_notify.proofs.Common.{◌≡◌, ℕ, zero, suc, ◌+◌, ◌<◌, ◌≤◌, Bool, true, false, cond, List, [], ◌∷◌, ◌++◌, length, map, filter, take, get_or, Option, Some, None, refl, sym, ap, ◌∙◌, append_assoc, arith, slice_get, flat_map, append-nil, flat_map_more, get_or_default, length-append, map-append, take_all, take_more, get_or_from_slice_get, slice_get_within, filter-append}

taken : {X : Type 0} (xs : List X) (i : ℕ) (x : X) → i < length xs → x ≡ get_or xs i x → take i xs ++ x ∷ [] ≡ take (i + 1) xs
taken {X} xs i x within is = ap (λ (y : X). take i xs ++ y ∷ []) is ∙ sym (take_more xs i x within)

-- what was added is the next piece
pub pieces_more : {X Y : Type 0} (f : X → List Y) (old : List Y) (xs : List X) (i : ℕ) (x : X) (before now : List Y) → i < length xs → x ≡ get_or xs i x → before ≡ old ++ flat_map f (take i xs) → now ≡ before ++ f x → now ≡ old ++ flat_map f (take (i + 1) xs)
pieces_more {X} {Y} f old xs i x before now within is done added =
    added ∙ ap (λ (ys : List Y). ys ++ f x) done ∙ append_assoc old (flat_map f (take i xs)) (f x)
    ∙ ap (λ (ys : List Y). old ++ ys) (flat_map_more f [] (take i xs) x ∙ ap (λ (ys : List X). flat_map f ys) (taken xs i x within is))

-- the same where each element of a piece is sent
pub told_more : {X Y Z : Type 0} (g : Y → Z) (f : X → List Y) (old : List Z) (xs : List X) (i : ℕ) (x : X) (before now : List Z) → i < length xs → x ≡ get_or xs i x → before ≡ old ++ map g (flat_map f (take i xs)) → now ≡ before ++ map g (f x) → now ≡ old ++ map g (flat_map f (take (i + 1) xs))
told_more {X} {Y} {Z} g f old xs i x before now within is done added =
    added ∙ ap (λ (ys : List Z). ys ++ map g (f x)) done ∙ append_assoc old (map g (flat_map f (take i xs))) (map g (f x))
    ∙ ap (λ (ys : List Z). old ++ ys)
    (sym (map-append g (flat_map f (take i xs)) (f x)) ∙ ap (λ (ys : List Y). map g ys) (flat_map_more f [] (take i xs) x ∙ ap (λ (ys : List X). flat_map f ys) (taken xs i x within is)))

-- the same, of an element that is read at its place
pub told_at : {X Y Z : Type 0} (g : Y → Z) (f : X → List Y) (old : List Z) (xs : List X) (i : ℕ) (d : X) (before now : List Z) → i < length xs → before ≡ old ++ map g (flat_map f (take i xs)) → now ≡ before ++ map g (f (get_or xs i d)) → now ≡ old ++ map g (flat_map f (take (i + 1) xs))
told_at g f old xs i d before now within done added =
    told_more g f old xs i (get_or xs i d) before now within (get_or_default xs i d (get_or xs i d) within) done added

-- one more that is sent
pub mapped_more : {X Y : Type 0} (f : X → Y) (old : List Y) (xs : List X) (i : ℕ) (x : X) (before now : List Y) → i < length xs → x ≡ get_or xs i x → before ≡ old ++ map f (take i xs) → now ≡ before ++ f x ∷ [] → now ≡ old ++ map f (take (i + 1) xs)
mapped_more {X} {Y} f old xs i x before now within is done added =
    added ∙ ap (λ (ys : List Y). ys ++ f x ∷ []) done ∙ append_assoc old (map f (take i xs)) (f x ∷ [])
    ∙ ap (λ (ys : List Y). old ++ ys) (sym (map-append f (take i xs) (x ∷ [])) ∙ ap (λ (ys : List X). map f ys) (taken xs i x within is))

pub mapped_at : {X Y : Type 0} (f : X → Y) (old : List Y) (xs : List X) (i : ℕ) (d : X) (before now : List Y) → i < length xs → before ≡ old ++ map f (take i xs) → now ≡ before ++ f (get_or xs i d) ∷ [] → now ≡ old ++ map f (take (i + 1) xs)
mapped_at f old xs i d before now within done added =
    mapped_more f old xs i (get_or xs i d) before now within (get_or_default xs i d (get_or xs i d) within) done added

-- the same of those that pass a test: one that does, and one that does not
passed : {X : Type 0} (p : X → Bool) (xs : List X) (i : ℕ) (x : X) → i < length xs → x ≡ get_or xs i x → p x ≡ true → filter p (take (i + 1) xs) ≡ filter p (take i xs) ++ x ∷ []
passed {X} p xs i x within is on =
    ap (λ (ys : List X). filter p ys) (sym (taken xs i x within is)) ∙ filter-append p (take i xs) (x ∷ []) ∙ ap (λ (b : Bool). filter p (take i xs) ++ cond b (x ∷ []) []) on

left_out : {X : Type 0} (p : X → Bool) (xs : List X) (i : ℕ) (x : X) → i < length xs → x ≡ get_or xs i x → p x ≡ false → filter p (take (i + 1) xs) ≡ filter p (take i xs)
left_out {X} p xs i x within is off =
    ap (λ (ys : List X). filter p ys) (sym (taken xs i x within is)) ∙ filter-append p (take i xs) (x ∷ []) ∙ ap (λ (b : Bool). filter p (take i xs) ++ cond b (x ∷ []) []) off ∙ append-nil (filter p (take i xs))

pub kept_more : {X Y : Type 0} (p : X → Bool) (f : X → Y) (old : List Y) (xs : List X) (i : ℕ) (x : X) (before now : List Y) → i < length xs → x ≡ get_or xs i x → p x ≡ true → before ≡ old ++ map f (filter p (take i xs)) → now ≡ before ++ f x ∷ [] → now ≡ old ++ map f (filter p (take (i + 1) xs))
kept_more {X} {Y} p f old xs i x before now within is on done added =
    added ∙ ap (λ (ys : List Y). ys ++ f x ∷ []) done ∙ append_assoc old (map f (filter p (take i xs))) (f x ∷ [])
    ∙ ap (λ (ys : List Y). old ++ ys) (sym (map-append f (filter p (take i xs)) (x ∷ [])) ∙ ap (λ (ys : List X). map f ys) (sym (passed p xs i x within is on)))

pub dropped_more : {X Y : Type 0} (p : X → Bool) (f : X → Y) (old : List Y) (xs : List X) (i : ℕ) (x : X) (before : List Y) → i < length xs → x ≡ get_or xs i x → p x ≡ false → before ≡ old ++ map f (filter p (take i xs)) → before ≡ old ++ map f (filter p (take (i + 1) xs))
dropped_more {X} {Y} p f old xs i x before within is off done =
    done ∙ ap (λ (ys : List X). old ++ map f ys) (sym (left_out p xs i x within is off))

-- the same, of elements that are read at their places
pub passed_at : {X Y : Type 0} (p : X → Bool) (f : X → Y) (xs : List X) (i : ℕ) (d : X) (before now : List Y) → i < length xs → p (get_or xs i d) ≡ true → before ≡ map f (filter p (take i xs)) → now ≡ before ++ f (get_or xs i d) ∷ [] → now ≡ map f (filter p (take (i + 1) xs))
passed_at p f xs i d before now within on done added =
    kept_more p f [] xs i (get_or xs i d) before now within (get_or_default xs i d (get_or xs i d) within) on done added

pub skipped_at : {X Y : Type 0} (p : X → Bool) (f : X → Y) (xs : List X) (i : ℕ) (d : X) (before : List Y) → i < length xs → p (get_or xs i d) ≡ false → before ≡ map f (filter p (take i xs)) → before ≡ map f (filter p (take (i + 1) xs))
skipped_at p f xs i d before within off done =
    dropped_more p f [] xs i (get_or xs i d) before within (get_or_default xs i d (get_or xs i d) within) off done

pub kept_at : {X : Type 0} (p : X → Bool) (xs : List X) (i : ℕ) (d : X) (before now : List X) → i < length xs → p (get_or xs i d) ≡ true → before ≡ filter p (take i xs) → now ≡ before ++ get_or xs i d ∷ [] → now ≡ filter p (take (i + 1) xs)
kept_at {X} p xs i d before now within on done added =
    added ∙ ap (λ (ys : List X). ys ++ get_or xs i d ∷ []) done ∙ sym (passed p xs i (get_or xs i d) within (get_or_default xs i d (get_or xs i d) within) on)

pub dropped_at : {X : Type 0} (p : X → Bool) (xs : List X) (i : ℕ) (d : X) (before : List X) → i < length xs → p (get_or xs i d) ≡ false → before ≡ filter p (take i xs) → before ≡ filter p (take (i + 1) xs)
dropped_at {X} p xs i d before within off done = done ∙ sym (left_out p xs i (get_or xs i d) within (get_or_default xs i d (get_or xs i d) within) off)

-- ---- lists that are read from the front

pub record IsFront {X : Type 0} (xs items : List X) : Type 0 where
  pub front : items ≡ take (length items) xs
  pub within : length items ≤ length xs

-- one more is read
pub next_front : {X : Type 0} (xs items now : List X) (i : ℕ) (x : X) → i ≡ length items → slice_get xs i ≡ Some x → items ≡ take (length items) xs → now ≡ items ++ x ∷ [] → IsFront xs now
next_front {X} xs items now i x same got front added =
    let inside : i < length xs = slice_get_within xs i x got in
    let long : length now ≡ i + 1 = ap (λ (ys : List X). length ys) added ∙ length-append items (x ∷ []) ∙ ap (λ n. n + 1) (sym same) in
    let first : items ≡ take i xs = front ∙ ap (λ n. take n xs) (sym same) in
    record {
      front = added ∙ ap (λ (ys : List X). ys ++ x ∷ []) first ∙ taken xs i x inside (sym (get_or_from_slice_get xs i x x got)) ∙ ap (λ n. take n xs) (sym long);
      within = omega arith;
    }

past_end : {X : Type 0} (xs : List X) (i : ℕ) → slice_get xs i ≡ None → length xs ≤ i
past_end [] i none = omega arith
past_end (y ∷ ys) zero none = cc
past_end (y ∷ ys) (suc i) none = let rest : length ys ≤ i = past_end ys i none in omega arith

-- no more is read: all were
pub whole_front : {X : Type 0} (xs items : List X) (i : ℕ) (o : Option X) → i ≡ length items → slice_get xs i ≡ o → ((x : X) → o ≡ Some x → ⊥) → items ≡ take (length items) xs → items ≡ xs
whole_front xs items i (Some x) same got never front = absurd (never x refl)
whole_front xs items i None same got never front = let far : length xs ≤ i = past_end xs i got in front ∙ take_all (length items) xs (omega arith)
