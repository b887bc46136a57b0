-- The order of a tree has no more channels than 33 times those that there are.
use Rattle.mum_kept_laws.proofs.Common.{◌≡◌, ℕ, zero, suc, ◌+◌, ◌*◌, ◌≤◌, ◌<◌, ◌==◌, ◌||◌, Bool, true, false, not, cond, List, [], ◌∷◌, length, map, refl, sym, ap, ◌∙◌, arith, count_by, flat_map, and_parts, eq-eqb, eqb-true, false≢true, ne_eqb, nat_tests, flat_map-append, length-append, length-map, is_among, ChannelId, ROOT, Row, parent_of, is_root, number, Rise, TreeState, AllPairs-tail, count_by-cons, count_by-filter-le, count_by-filter_none, Each, each_filter, each_from_all, each_so, same_channel, channel_ids, children, family, is_child, tree_order}
use Rattle.mum_kept_laws.proofs.{Counting.AreOnce, Counting.count_append, Counting.few_among, Counting.occurs, TreeOrder.flat_there}

pub none_counted : {X : Type 0} (p : X → Bool) (xs : List X) → Each (λ x. p x ≡ false) xs → count_by p xs ≡ 0
none_counted p [] all = refl
none_counted p (x ∷ xs) all = omega (arith, count_by-cons p x xs, ap (λ (b : Bool). cond {A = ℕ} b 1 0) all.0, none_counted p xs all.1)

-- each number is there once
pub ids_once : (rows : List Row) → Rise rows → AreOnce (map (λ row. row.channel.id) rows)
ids_once [] rise id = omega arith
ids_once (row ∷ rows) rise id = step (number row == id.0) refl (ids_once rows (AllPairs-tail (λ one next. number one < number next) row rows rise) id)
  where
    later : Each (λ other. number row < number other) rows
    later = each_from_all (λ other. number row < number other) rows (λ k d within. rise 0 (suc k) d (omega arith) (omega arith))

    ids : List ChannelId
    ids = map (λ (one : Row). one.channel.id) rows

    others : (number row == id.0) ≡ true → Each (λ one. (one.0 == id.0) ≡ false) ids
    others same = over rows later
      where
        over : (xs : List Row) → Each (λ other. number row < number other) xs → Each (λ one. (one.0 == id.0) ≡ false) (map (λ (one : Row). one.channel.id) xs)
        over [] all = tt
        over (x ∷ xs) all =
            let same_number : number row ≡ id.0 = eqb-true (number row) id.0 same in
            let more = all.0 in
            (ne_eqb (number x) id.0 (λ (e : number x ≡ id.0). absurd (omega arith)), over xs all.1)

    step : (b : Bool) → (number row == id.0) ≡ b → occurs id ids ≤ 1 → occurs id (row.channel.id ∷ ids) ≤ 1
    step true same few =
        let none : occurs id ids ≡ 0 = none_counted (λ (one : ChannelId). one.0 == id.0) ids (others same) in
        omega (arith, none, count_by-cons (λ (one : ChannelId). one.0 == id.0) row.channel.id ids, ap (λ (b : Bool). cond {A = ℕ} b 1 0) same)
    step false differ few = omega (arith, few, count_by-cons (λ (one : ChannelId). one.0 == id.0) row.channel.id ids, ap (λ (b : Bool). cond {A = ℕ} b 1 0) differ)

-- a channel is a child of its parent alone, and once
kids_once : (tree : TreeState) → Rise tree.channels → (id above : ChannelId) → occurs id (children tree above) ≤ cond (above.0 == (parent_of tree id).0) 1 0
kids_once tree rise id above = step (above.0 == (parent_of tree id).0) refl
  where
    swapped : (a b : ℕ) → (a == b) ≡ false → (b == a) ≡ false
    swapped a b off = grind (arith, nat_tests)

    step : (b : Bool) → (above.0 == (parent_of tree id).0) ≡ b → occurs id (children tree above) ≤ cond b 1 0
    step true same = omega (arith, ids_once tree.channels rise id, count_by-filter-le (λ (one : ChannelId). one.0 == id.0) (is_child tree above) (channel_ids tree))
    step false differ =
        let none : occurs id (children tree above) ≡ 0 = count_by-filter_none (λ (one : ChannelId). one.0 == id.0) (is_child tree above) other (channel_ids tree) in
        omega (arith, none)
      where
        other : (one : ChannelId) → is_child tree above one ≡ true → (one.0 == id.0) ≡ false
        other one child =
            ne_eqb one.0 id.0
            (λ (e : one.0 ≡ id.0).
            let same : one ≡ id = same_channel one id e in
            let under : ((parent_of tree one).0 == above.0) ≡ true = (and_parts (not (is_root one)) ((parent_of tree one).0 == above.0) child).1 in
            false≢true (sym (swapped above.0 (parent_of tree id).0 differ) ∙ ap (λ (x : ChannelId). (parent_of tree x).0 == above.0) (sym same) ∙ under))

flat_once : (tree : TreeState) → Rise tree.channels → (ids : List ChannelId) (id : ChannelId) → occurs id (flat_map (children tree) ids) ≤ occurs (parent_of tree id) ids
flat_once tree rise [] id = omega arith
flat_once tree rise (above ∷ ids) id =
    omega (
      arith,
      count_append (λ (one : ChannelId). one.0 == id.0) (children tree above) (flat_map (children tree) ids),
      kids_once tree rise id above,
      flat_once tree rise ids id,
      count_by-cons (λ (one : ChannelId). one.0 == (parent_of tree id).0) above ids,
    )

-- ---- level by level

no_levels : (kids : ChannelId → List ChannelId) (ids : List ChannelId) → length (flat_map (family kids zero) ids) ≡ 0
unfolding family
no_levels kids [] = refl
no_levels kids (id ∷ ids) = no_levels kids ids

one_level : (kids : ChannelId → List ChannelId) (levels : ℕ) (ids : List ChannelId) → length (flat_map (family kids (suc levels)) ids) ≡ length ids + length (flat_map (family kids levels) (flat_map kids ids))
unfolding family
one_level kids levels [] = refl
one_level kids levels (id ∷ ids) =
    let own : List ChannelId = flat_map (family kids levels) (kids id) in
    let rest : List ChannelId = flat_map (family kids (suc levels)) ids in
    let below : List ChannelId = flat_map (family kids levels) (flat_map kids ids) in
    omega (arith, one_level kids levels ids, length-append own rest, length-append own below, ap (λ (xs : List ChannelId). length xs) (flat_map-append (family kids levels) (kids id) (flat_map kids ids)))

-- the channels of the tree
in_tree : (tree : TreeState) → Each (λ id. is_among (channel_ids tree) id ≡ true) (channel_ids tree)
in_tree tree = own (channel_ids tree)
  where
    or_true : (b : Bool) → (b || true) ≡ true
    or_true true = refl
    or_true false = refl

    own : (ids : List ChannelId) → Each (λ id. is_among ids id ≡ true) ids
    own [] = tt
    own (id ∷ ids) = (
      ap (λ (b : Bool). b || is_among ids id) (eq-eqb id.0 id.0 refl),
      each_so (λ one. is_among ids one ≡ true) (λ one. is_among (id ∷ ids) one ≡ true) (λ one among. ap (λ (b : Bool). (id.0 == one.0) || b) among ∙ or_true (id.0 == one.0)) ids (own ids),
    )

levels_few : (tree : TreeState) → Rise tree.channels → length (channel_ids tree) ≤ 2048 → (levels : ℕ) (ids : List ChannelId) → AreOnce ids → Each (λ id. is_among (channel_ids tree) id ≡ true) ids
    → length (flat_map (family (children tree) levels) ids) ≤ 2048 * levels
levels_few tree rise few zero ids once all = omega (arith, no_levels (children tree) ids)
levels_few tree rise few (suc levels) ids once all =
    let kids : List ChannelId = flat_map (children tree) ids in
    let rest : length (flat_map (family (children tree) levels) kids) ≤ 2048 * levels =
    levels_few tree rise few levels kids (λ id. omega (arith, flat_once tree rise ids id, once (parent_of tree id)))
    (flat_there (λ id. is_among (channel_ids tree) id ≡ true) (children tree) (λ id there. each_filter (λ one. is_among (channel_ids tree) one ≡ true) (is_child tree id) (channel_ids tree) (in_tree tree)) ids all) in
    omega (arith, few, rest, one_level (children tree) levels ids, few_among (channel_ids tree) ids once all)

pub order_few : (tree : TreeState) → Rise tree.channels → length tree.channels ≤ 2048 → is_among (channel_ids tree) ROOT ≡ true → length (tree_order tree) ≤ 67584
order_few tree rise few root =
    let many : length (channel_ids tree) ≡ length tree.channels = length-map tree.channels (λ (row : Row). row.channel.id) in
    let all : length (flat_map (family (children tree) 33) (ROOT ∷ [])) ≤ 2048 * 33 =
    levels_few tree rise (omega arith) 33 (ROOT ∷ []) once_alone (root, tt) in
    omega (arith, all, length-append (family (children tree) 33 ROOT) [])
  where
    once_alone : AreOnce (ROOT ∷ [])
    once_alone id = step (ROOT.0 == id.0) refl
      where
        step : (b : Bool) → (ROOT.0 == id.0) ≡ b → occurs id (ROOT ∷ []) ≤ 1
        step true same = omega (arith, count_by-cons (λ (one : ChannelId). one.0 == id.0) ROOT [], ap (λ (b : Bool). cond {A = ℕ} b 1 0) same)
        step false off = omega (arith, count_by-cons (λ (one : ChannelId). one.0 == id.0) ROOT [], ap (λ (b : Bool). cond {A = ℕ} b 1 0) off)
