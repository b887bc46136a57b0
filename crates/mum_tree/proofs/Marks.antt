-- The marks of channels.
use Rattle.mum_tree.proofs.Common.{◌≡◌, ◌≢◌, ℕ, zero, suc, ◌+◌, ◌<◌, ◌||◌, eqb, replicate, set, take, Bool, true, false, cond, List, [], ◌∷◌, length, get_or, map, refl, arith, ap, sym, ◌∙◌, subst, ⊎_elim, All, AllPairs, Contains, filter, cases_Bool, cases_eq, cases_order, eq-eqb, ne_eqb, or_right, list_any_more, is_among, get_or_default, get_or-set_same, get_or-set_other, ChannelId, Row, number, Rise}
use Rattle.mum_tree.proofs.{Find.contains_later, Upward.none_contained}

-- what passes a test, and what is made of it
abbrev pub Passes : {X Y : Type 0} → (X → Bool) → (X → Y) → List X → Y → Type 0
Passes {X} p f xs y = (k : ℕ) × (k < length xs) × ((d : X) → (p (get_or xs k d) ≡ true) × (f (get_or xs k d) ≡ y))

pub passes_from : {X Y : Type 0} (p : X → Bool) (f : X → Y) (xs : List X) (y : Y) → Contains (map f (filter p xs)) y → Passes p f xs y
passes_from p f [] y has = absurd (none_contained y has)
passes_from {X} {Y} p f (x ∷ xs) y has =
    ⊎_elim
    (λ (on : p x ≡ true). first (λ rest. passes_from p f xs y rest) on (subst (λ (ys : List Y). Contains ys y) (ap (λ (b : Bool). map f (cond b (x ∷ filter p xs) (filter p xs))) on) has))
    (λ (off : p x ≡ false). later (passes_from p f xs y (subst (λ (ys : List Y). Contains ys y) (ap (λ (b : Bool). map f (cond b (x ∷ filter p xs) (filter p xs))) off) has)))
    (cases_Bool (p x))
  where
    later : Passes p f xs y → Passes p f (x ∷ xs) y
    later (k, within, is) = (suc k, omega arith, is)

    first : (Contains (map f (filter p xs)) y → Passes p f xs y) → p x ≡ true → Contains (f x ∷ map f (filter p xs)) y → Passes p f (x ∷ xs) y
    first below on (zero, within, is) = (0, omega arith, λ d. (on, is))
    first below on (suc k, within, is) = later (below (k, omega arith, is))

pub passes_to : {X Y : Type 0} (p : X → Bool) (f : X → Y) (xs : List X) (y : Y) → Passes p f xs y → Contains (map f (filter p xs)) y
passes_to p f [] y (k, within, is) = absurd (omega arith)
passes_to {X} {Y} p f (x ∷ xs) y (zero, within, is) =
    subst (λ (ys : List Y). Contains ys y) (sym (ap (λ (b : Bool). map f (cond b (x ∷ filter p xs) (filter p xs))) (is x).0)) (0, omega arith, (is x).1)
passes_to {X} {Y} p f (x ∷ xs) y (suc k, within, is) =
    let rest = passes_to p f xs y (k, omega arith, is) in
    ⊎_elim
    (λ (on : p x ≡ true). subst (λ (ys : List Y). Contains ys y) (sym (ap (λ (b : Bool). map f (cond b (x ∷ filter p xs) (filter p xs))) on)) (contains_later (f x) y (map f (filter p xs)) rest))
    (λ (off : p x ≡ false). subst (λ (ys : List Y). Contains ys y) (sym (ap (λ (b : Bool). map f (cond b (x ∷ filter p xs) (filter p xs))) off)) rest)
    (cases_Bool (p x))

-- where numbers rise, two that are equal are at one place
pub one_place : {X : Type 0} (n : X → ℕ) (xs : List X) (i j : ℕ) (d : X) → AllPairs (λ one later. n one < n later) xs → i < length xs → j < length xs → n (get_or xs i d) ≡ n (get_or xs j d) → i ≡ j
one_place n xs i j d rise first second same =
    ⊎_elim
    (λ (e : i ≡ j). e)
    (λ o. ⊎_elim
    (λ (l : i < j). let less : n (get_or xs i d) < n (get_or xs j d) = rise i j d l second in absurd (omega arith))
    (λ (g : j < i). let less : n (get_or xs j d) < n (get_or xs i d) = rise j i d g first in absurd (omega arith))
    o)
    (cases_order i j)

pub none_marked : (n place : ℕ) → get_or (replicate n false) place false ≡ false
none_marked zero place = refl
none_marked (suc n) zero = refl
none_marked (suc n) (suc place) = none_marked n place

-- the marks of the channels of a list, one more
pub mark_more : (rows : List Row) (marks : List Bool) (ids : List ChannelId) (i : ℕ) (id other : ChannelId) (at : ℕ) (row d : Row) → Rise rows → AllPairs (λ one later. one.place ≢ later.place) rows → i < length ids → id ≡ get_or ids i other → at < length rows → row ≡ get_or rows at d → row.channel.id ≡ id → row.place < length marks → All (λ one. get_or marks one.place false ≡ is_among (take i ids) one.channel.id) rows → All (λ one. get_or (set marks row.place true) one.place false ≡ is_among (take (i + 1) ids) one.channel.id) rows
mark_more rows marks ids i id other at row d rise places_apart inside read within here named places_fit done k e below =
    let one = get_or rows k e in
    let more : is_among (take (i + 1) ids) one.channel.id ≡ (is_among (take i ids) one.channel.id || eqb id.0 (number one)) =
    list_any_more (λ (x : ChannelId). eqb x.0 (number one)) ids i other inside ∙ ap (λ (x : ChannelId). is_among (take i ids) one.channel.id || eqb x.0 (number one)) (sym read) in
    let mine : row ≡ get_or rows at e = here ∙ get_or_default rows at d e within in
    ⊎_elim
    (λ (s : k ≡ at).
    let same : row ≡ one = mine ∙ ap (λ j. get_or rows j e) (sym s) in
    ap (λ (p : ℕ). get_or (set marks row.place true) p false) (ap (λ (r : Row). r.place) (sym same))
    ∙ get_or-set_same marks row.place true false places_fit
    ∙ sym (or_right (is_among (take i ids) one.channel.id) (eqb id.0 (number one)) (eq-eqb id.0 (number one) (ap (λ (x : ChannelId). x.0) (sym named) ∙ ap number same)))
    ∙ sym more)
    (λ (n : k ≡ at → ⊥).
    let apart : one.place ≢ row.place = λ p. place_apart rows places_apart k at e n below within (p ∙ ap (λ (r : Row). r.place) mine) in
    let off : eqb id.0 (number one) ≡ false = ne_eqb id.0 (number one) (λ (p : id.0 ≡ number one). n (one_place number rows k at e rise below within (sym p ∙ ap (λ (x : ChannelId). x.0) (sym named) ∙ ap number mine))) in
    get_or-set_other marks row.place one.place true false apart
    ∙ done k e below
    ∙ sym (or_false (is_among (take i ids) one.channel.id))
    ∙ sym (ap (λ (b : Bool). is_among (take i ids) one.channel.id || b) off)
    ∙ sym more)
    (cases_eq k at)
  where
    or_false : (b : Bool) → (b || false) ≡ b
    or_false true = refl
    or_false false = refl

    place_apart : (rows : List Row) → AllPairs (λ one later. one.place ≢ later.place) rows → (k at : ℕ) (e : Row) → (k ≡ at → ⊥) → k < length rows → at < length rows → (get_or rows k e).place ≢ (get_or rows at e).place
    place_apart rows places_apart k at e differ below within p =
        ⊎_elim (λ (s : k ≡ at). differ s)
        (λ o. ⊎_elim (λ (l : k < at). places_apart k at e l within p) (λ (g : at < k). places_apart at k e g below (sym p)) o)
        (cases_order k at)
