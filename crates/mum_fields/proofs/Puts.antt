-- Fields that are written one after the other.
use Rattle.mum_fields.proofs.Common.{◌≡◌, ℕ, ◌+◌, ◌<◌, List, [], ◌∷◌, ◌++◌, length, get_or, take, map, refl, sym, ap, subst, ◌∙◌, append_assoc, All, append-nil, map_more, All-nil, All-cons, All-append, flat_map-append, Item, spelling, written, Table, parts, Layout, Nothing, Field, Blocks, Values, row_items, each_message, items}

-- P of what is there at last, given for each field what is there once its items are written
abbrev pub Adding : (form : Layout) → Values form → List ℕ → (List ℕ → Type 0) → Type 0
Adding Nothing values now P = P now
Adding (Field label kind number others) values now P = (next : List ℕ) → next ≡ now ++ written (row_items label kind number values.0) → Adding others values.1 next P
Adding (Blocks inside number others) values now P = (next : List ℕ) → next ≡ now ++ written (each_message (items inside) number values.0) → Adding others values.1 next P

both : (own others : List Item) (now next last : List ℕ) → next ≡ now ++ written own → last ≡ next ++ written others → last ≡ now ++ written (own ++ others)
both own others now next last first h =
    h
    ∙ ap (λ start. start ++ written others) first
    ∙ append_assoc now (written own) (written others)
    ∙ ap (λ more. now ++ more) (sym (flat_map-append spelling own others))

adding : (form : Layout) (values : Values form) (now : List ℕ) (P : List ℕ → Type 0) → ((last : List ℕ) → last ≡ now ++ written (items form values) → P last) → Adding form values now P
adding Nothing values now P then = then now (sym (append-nil now))
adding (Field label kind number others) values now P then =
    λ next is. adding others values.1 next P (λ last h. then last (both (row_items label kind number values.0) (items others values.1) now next last is h))
adding (Blocks inside number others) values now P then =
    λ next is. adding others values.1 next P (λ last h. then last (both (each_message (items inside) number values.0) (items others values.1) now next last is h))

-- fields that are written in their order are the items of the message
pub fields-added : (form : Layout) (values : Values form) (before : List ℕ) → Adding form values before (λ last. last ≡ before ++ written (items form values))
fields-added form values before = adding form values before (λ last. last ≡ before ++ written (items form values)) (λ last h. h)

-- a fact of each message that is written so far, and of the next
pub All-next : {X Y : Type 0} (P : Y → Type 0) (f : X → Y) (xs : List X) (i : ℕ) (x : X) → i < length xs → x ≡ get_or xs i x → All P (map f (take i xs)) → P (f x) → All P (map f (take (i + 1) xs))
All-next P f xs i x within is all one =
    let next = map_more f xs i x within ∙ ap (λ y. map f (take i xs) ++ f y ∷ []) (sym is) in
    subst (λ ys. All P ys) (sym next) (All-append P (map f (take i xs)) (f x ∷ []) all (All-cons P (f x) [] one (All-nil P)))

-- messages that have the same parts are the same, one by one
pub messages-same : {M : Type 0} (rows : Table M) → ((m n : M) → parts rows m ≡ parts rows n → m ≡ n) → (xs ys : List M) → map (parts rows) xs ≡ map (parts rows) ys → xs ≡ ys
messages-same rows told [] [] h = refl
messages-same rows told [] (y ∷ ys) h = absurd cc
messages-same rows told (x ∷ xs) [] h = absurd cc
messages-same rows told (x ∷ xs) (y ∷ ys) h =
    let head = told x y (head_same (parts rows x) (parts rows y) (map (parts rows) xs) (map (parts rows) ys) h) in
    let tail = messages-same rows told xs ys (tail_same (parts rows x) (parts rows y) (map (parts rows) xs) (map (parts rows) ys) h) in
    ap (λ z. z ∷ xs) head ∙ ap (λ zs. y ∷ zs) tail
  where
    head_same : {X : Type 0} (a b : X) (more others : List X) → a ∷ more ≡ b ∷ others → a ≡ b
    head_same a b more others e = cc

    tail_same : {X : Type 0} (a b : X) (more others : List X) → a ∷ more ≡ b ∷ others → more ≡ others
    tail_same a b more others e = cc
