-- How long encodings are, as far as 64 bits count it.
use Rattle.mum_fields.proofs.Common.{◌≡◌, ℕ, zero, suc, ◌+◌, ◌-◌, ◌*◌, ◌/◌, ◌%◌, ◌^◌, ◌<◌, ◌≤◌, Bool, true, false, cond, ltb, List, [], ◌∷◌, ◌++◌, get_or, length, map, min, take, refl, sym, ap, ◌∙◌, arith, ltb-true, ltb-false, length-append, map-append, map_more, flat_map-append, wire_type, shortest_with, shortest, Item, spelling, written, value_bytes, varint_item, block_item, cut, size, Layout, Nothing, Field, Blocks, Values, row_items, each_message, items}
use Rattle.mum_fields.proofs.Spellings.{Rest, shortest_with-last}

-- ---- lengths of spellings

length-shortest_with : (more n : ℕ) → length (shortest_with more n) ≤ suc more
length-shortest_with zero n = omega arith
length-shortest_with (suc more) n = by_test (ltb n 128) (length-shortest_with more (n / 128))
  where
    by_test : (test : Bool) → length (shortest_with more (n / 128)) ≤ suc more → length (cond test (n ∷ []) ((n % 128 + 128) ∷ shortest_with more (n / 128))) ≤ suc (suc more)
    by_test true h = omega arith
    by_test false h = omega arith

pub length-shortest : (n : ℕ) → length (shortest n) ≤ 10
unfolding shortest
length-shortest n = length-shortest_with 9 n

shortest_with-some : (more n : ℕ) → 0 < length (shortest_with more n)
shortest_with-some zero n = omega arith
shortest_with-some (suc more) n = by_test (ltb n 128)
  where
    by_test : (test : Bool) → 0 < length (cond test (n ∷ []) ((n % 128 + 128) ∷ shortest_with more (n / 128)))
    by_test true = omega arith
    by_test false = omega arith

pub shortest-some : (n : ℕ) → 0 < length (shortest n)
unfolding shortest
shortest-some n = shortest_with-some 9 n

pub size-append : (xs ys : List Item) → size (xs ++ ys) ≡ min (size xs + size ys) (2 ^ 64 - 1)
size-append xs ys =
    let whole : length (written (xs ++ ys)) ≡ length (written xs) + length (written ys) = ap length (flat_map-append spelling xs ys) ∙ length-append (written xs) (written ys) in
    omega arith

pub size-some : (x : Item) (xs : List Item) → 0 < size (x ∷ xs)
size-some x xs =
    let key = shortest-some (x.number * 8 + wire_type x.content) in
    let whole = length-append (spelling x) (written xs) in
    let first = length-append (shortest (x.number * 8 + wire_type x.content)) (value_bytes x.content) in
    omega arith

-- a number with its key
pub number-size : (number value key own : ℕ) → key ≡ length (shortest (number * 8 + 0)) → own ≡ length (shortest value) → key ≤ 10 → own ≤ 10 → key + own ≡ size (varint_item number value ∷ [])
number-size number value key own is_key is_own few some =
    let whole = length-append (shortest (number * 8 + 0) ++ shortest value) [] in
    let parts = length-append (shortest (number * 8 + 0)) (shortest value) in
    omega arith

-- a block with its key and its length
pub block-size : (number bytes key own : ℕ) (block : List ℕ) → key ≡ length (shortest (number * 8 + 2)) → own ≡ length (shortest bytes) → bytes ≡ cut (length block) → min (bytes + (key + own)) (2 ^ 64 - 1) ≡ size (block_item number block ∷ [])
block-size number bytes key own block is_key is_own cuts = by_test (ltb (2 ^ 64 - 1) (length block)) refl
  where
    front : List ℕ
    front = shortest (number * 8 + 2)

    whole : length (written (block_item number block ∷ [])) ≡ length (shortest (number * 8 + 2)) + (length (shortest (length block)) + length block)
    whole =
        let a = length-append (shortest (number * 8 + 2) ++ (shortest (length block) ++ block)) [] in
        let b = length-append (shortest (number * 8 + 2)) (shortest (length block) ++ block) in
        let c = length-append (shortest (length block)) block in
        omega arith

    by_test : (test : Bool) → ltb (2 ^ 64 - 1) (length block) ≡ test → min (bytes + (key + own)) (2 ^ 64 - 1) ≡ size (block_item number block ∷ [])
    by_test true is = let long = ltb-true (2 ^ 64 - 1) (length block) is in let w = whole in omega arith
    by_test false is =
        let short = ltb-false (2 ^ 64 - 1) (length block) is in
        let same : bytes ≡ length block = omega arith in
        let own_is : own ≡ length (shortest (length block)) = is_own ∙ ap (λ n. length (shortest n)) same in
        let w = whole in
        omega arith

-- ---- bytes that are counted one by one

pub rest-few : (n m : ℕ) (out : List ℕ) → Rest n out (shortest m) → length out + 1 ≤ 10
rest-few n m out r = omega (arith, length-append out (shortest_with r.more n), ap length r.whole, shortest_with-some r.more n, length-shortest m)

pub rest-last : (n m : ℕ) (out : List ℕ) → n < 128 → Rest n out (shortest m) → length out + 1 ≡ length (shortest m)
rest-last n m out low r = omega (arith, length-append out (shortest_with r.more n), ap length (shortest_with-last r.more n low), ap length r.whole)

-- one more size is added to those before
pub sum-more : (total one others all more both : ℕ) → more ≡ min (total + one) (2 ^ 64 - 1) → both ≡ min (one + others) (2 ^ 64 - 1) → min (total + both) (2 ^ 64 - 1) ≡ all → min (more + others) (2 ^ 64 - 1) ≡ all
sum-more total one others all more both is_more is_both h = omega arith

-- ---- lengths that are added up

-- the items so far, and one more
size-next : (xs ys : List Item) (x : Item) (start total one more : ℕ) → ys ≡ xs ++ x ∷ [] → total ≡ cut (start + size xs) → one ≡ size (x ∷ []) → more ≡ cut (total + one) → more ≡ cut (start + size ys)
size-next xs ys x start total one more is before own adds =
    let both = ap size is ∙ size-append xs (x ∷ []) in
    omega (arith, both)

-- an item for each of a list
pub size-more : {X : Type 0} (item : X → Item) (xs : List X) (i : ℕ) (x : X) (start total one more : ℕ) → i < length xs → x ≡ get_or xs i x → total ≡ cut (start + size (map item (take i xs))) → one ≡ size (item x ∷ []) → more ≡ cut (total + one) → more ≡ cut (start + size (map item (take (i + 1) xs)))
size-more item xs i x start total one more within is before own adds =
    let next = map_more item xs i x within ∙ ap (λ y. map item (take i xs) ++ item y ∷ []) (sym is) in
    size-next (map item (take i xs)) (map item (take (i + 1) xs)) (item x) start total one more next before own adds

-- an item for the values of each
pub size-more-values : {X Y : Type 0} (view : X → Y) (item : Y → Item) (xs : List X) (i : ℕ) (x : X) (start total one more : ℕ) → i < length xs → x ≡ get_or xs i x → total ≡ cut (start + size (map item (map view (take i xs)))) → one ≡ size (item (view x) ∷ []) → more ≡ cut (total + one) → more ≡ cut (start + size (map item (map view (take (i + 1) xs))))
size-more-values view item xs i x start total one more within is before own adds =
    let next = map_more view xs i x within ∙ ap (λ y. map view (take i xs) ++ view y ∷ []) (sym is) in
    let items = ap (λ ys. map item ys) next ∙ map-append item (map view (take i xs)) (view x ∷ []) in
    size-next (map item (map view (take i xs))) (map item (map view (take (i + 1) xs))) (item (view x)) start total one more items before own adds

-- P of the length at last, given for each field the length after it
abbrev pub Counting : (form : Layout) → Values form → ℕ → (ℕ → Type 0) → Type 0
Counting Nothing values now P = P now
Counting (Field label kind number others) values now P = (next : ℕ) → next ≡ cut (now + size (row_items label kind number values.0)) → Counting others values.1 next P
Counting (Blocks inside number others) values now P = (next : ℕ) → next ≡ cut (now + size (each_message (items inside) number values.0)) → Counting others values.1 next P

both-counted : (own others : List Item) (now next last : ℕ) → next ≡ cut (now + size own) → last ≡ cut (next + size others) → last ≡ cut (now + size (own ++ others))
both-counted own others now next last first h =
    let whole = size-append own others in
    omega (arith, whole)

counting : (form : Layout) (values : Values form) (now : ℕ) (P : ℕ → Type 0) → now ≤ 2 ^ 64 - 1 → ((last : ℕ) → last ≡ cut (now + size (items form values)) → P last) → Counting form values now P
counting Nothing values now P few then = then now (omega arith)
counting (Field label kind number others) values now P few then =
    λ next is. counting others values.1 next P (omega (arith, is)) (λ last h. then last (both-counted (row_items label kind number values.0) (items others values.1) now next last is h))
counting (Blocks inside number others) values now P few then =
    λ next is. counting others values.1 next P (omega (arith, is)) (λ last h. then last (both-counted (each_message (items inside) number values.0) (items others values.1) now next last is h))

-- fields that are counted in their order are the length of the message
pub fields-counted : (form : Layout) (values : Values form) (start : ℕ) → start ≡ 0 → Counting form values start (λ last. last ≡ size (items form values))
fields-counted form values start none = counting form values start (λ last. last ≡ size (items form values)) (omega (arith, none)) (λ last h. whole last h)
  where
    whole : (last : ℕ) → last ≡ cut (start + size (items form values)) → last ≡ size (items form values)
    whole last h = omega (arith, none, h)
