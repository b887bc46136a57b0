-- What a decoder takes of fields that were written, item by item: for the laws that a message is read back.
use Rattle.mum_fields.proofs.Common.{◌≡◌, ℕ, ◌+◌, eq-eqb, List, [], ◌∷◌, ◌++◌, length, Option, Some, None, refl, sym, ap, ◌∙◌, arith, append_assoc, ne_eqb, append-nil, length-append, flat_map-cons, Entry, Item, varint_item, block_item, spelling, written, placed_at, placed_from, block_items, each_number, each_block, newer, last, longer, every, block_of, blocks_of, numbers_of}

-- items one after the other
pub placed_from-append : (xs ys : List Item) (place : ℕ) → placed_from place (xs ++ ys) ≡ placed_from place xs ++ placed_from (place + length (written xs)) ys
placed_from-append [] ys place = ap (λ p. placed_from p ys) (omega arith)
placed_from-append (x ∷ xs) ys place =
    let ends : place + length (spelling x) + length (written xs) ≡ place + length (written (x ∷ xs)) = omega (arith, ap length (flat_map-cons spelling x xs), length-append (spelling x) (written xs)) in
    rw (placed_from-append xs ys (place + length (spelling x)), ends) refl

pub last-append : {X : Type 0} (taken : Entry → Option X) (number : ℕ) (before : Option X) (es fs : List Entry) → last taken number before (es ++ fs) ≡ last taken number (last taken number before es) fs
last-append taken number before [] fs = refl
last-append taken number before (e ∷ es) fs = last-append taken number (newer taken number before e) es fs

pub every-append : {X : Type 0} (taken : Entry → List X) (number : ℕ) (before : List X) (es fs : List Entry) → every taken number before (es ++ fs) ≡ every taken number (every taken number before es) fs
every-append taken number before [] fs = refl
every-append taken number before (e ∷ es) fs = every-append taken number (longer taken number before e) es fs

-- items of other numbers
abbrev pub AreOthers : ℕ → List Item → Type 0
AreOthers number [] = Unit {0}
AreOthers number (item ∷ items) = (item.number ≡ number → ⊥) × AreOthers number items

pub last-skip : {X : Type 0} (taken : Entry → Option X) (number : ℕ) (before : Option X) (e : Entry) (es : List Entry) → (e.number ≡ number → ⊥) → last taken number before (e ∷ es) ≡ last taken number before es
last-skip taken number before e es other =
    let same : newer taken number before e ≡ before = rw (ne_eqb e.number number other) refl in
    ap (λ b. last taken number b es) same

pub every-skip : {X : Type 0} (taken : Entry → List X) (number : ℕ) (before : List X) (e : Entry) (es : List Entry) → (e.number ≡ number → ⊥) → every taken number before (e ∷ es) ≡ every taken number before es
every-skip taken number before e es other =
    let same : longer taken number before e ≡ before = rw (ne_eqb e.number number other) refl in
    ap (λ b. every taken number b es) same

pub every-take : {X : Type 0} (taken : Entry → List X) (number : ℕ) (before : List X) (e : Entry) (es : List Entry) → e.number ≡ number → every taken number before (e ∷ es) ≡ every taken number (before ++ taken e) es
every-take taken number before e es is =
    let more : longer taken number before e ≡ before ++ taken e = rw (eq-eqb e.number number is) refl in
    ap (λ b. every taken number b es) more

pub last-others : {X : Type 0} (taken : Entry → Option X) (number : ℕ) (before : Option X) (items : List Item) (place : ℕ) → AreOthers number items → last taken number before (placed_from place items) ≡ before
last-others taken number before [] place h = refl
last-others taken number before (item ∷ items) place h = last-skip taken number before (placed_at place item) (placed_from (place + length (spelling item)) items) h.0 ∙ last-others taken number before items (place + length (spelling item)) h.1

pub every-others : {X : Type 0} (taken : Entry → List X) (number : ℕ) (before : List X) (items : List Item) (place : ℕ) → AreOthers number items → every taken number before (placed_from place items) ≡ before
every-others taken number before [] place h = refl
every-others taken number before (item ∷ items) place h = every-skip taken number before (placed_at place item) (placed_from (place + length (spelling item)) items) h.0 ∙ every-others taken number before items (place + length (spelling item)) h.1

-- the items of a number give back what it was set to
pub last-block_items : (number : ℕ) (o : Option (List ℕ)) (place : ℕ) → last block_of number None (placed_from place (block_items number o)) ≡ o
last-block_items number None place = refl
last-block_items number (Some block) place = rw (eq-eqb number number refl) refl

pub every-each_number : {X : Type 0} (value : ℕ → X) (spelled : X → ℕ) (number : ℕ) (xs before : List X) (place : ℕ) → ((x : X) → value (spelled x) ≡ x) → every (numbers_of value) number before (placed_from place (each_number spelled number xs)) ≡ before ++ xs
every-each_number value spelled number [] before place back = sym (append-nil before)
every-each_number value spelled number (x ∷ xs) before place back =
    let others = every-each_number value spelled number xs (before ++ x ∷ []) (place + length (spelling (varint_item number (spelled x)))) back in
    let taken : before ++ value (spelled x) ∷ [] ≡ before ++ x ∷ [] = rw (back x) refl in
    every-take (numbers_of value) number before (placed_at place (varint_item number (spelled x))) (placed_from (place + length (spelling (varint_item number (spelled x)))) (each_number spelled number xs)) refl ∙ ap (λ b. every (numbers_of value) number b (placed_from (place + length (spelling (varint_item number (spelled x)))) (each_number spelled number xs))) taken ∙ others ∙ append_assoc before (x ∷ []) xs

pub every-each_block : (number : ℕ) (blocks before : List (List ℕ)) (place : ℕ) → every blocks_of number before (placed_from place (each_block number blocks)) ≡ before ++ blocks
every-each_block number [] before place = sym (append-nil before)
every-each_block number (b ∷ bs) before place =
    let others = every-each_block number bs (before ++ b ∷ []) (place + length (spelling (block_item number b))) in
    every-take blocks_of number before (placed_at place (block_item number b)) (placed_from (place + length (spelling (block_item number b))) (each_block number bs)) refl ∙ others ∙ append_assoc before (b ∷ []) bs
