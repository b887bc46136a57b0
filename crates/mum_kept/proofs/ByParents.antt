-- Kept channels, sorted by their parents, are the children of each.
use Rattle.mum_kept.proofs.Common.{◌≡◌, ℕ, zero, suc, ◌+◌, ◌-◌, ◌<◌, ◌≤◌, ◌==◌, ◌&&◌, Bool, true, false, not, nat_lt, ltb, List, [], ◌∷◌, ◌++◌, length, map, filter, drop, get_or, Option, Some, refl, sym, ap, ◌∙◌, append_assoc, arith, flat_map, IsNonDecreasingBy, IsPartitionedBy, IsStableByKey, ties, option_map_or, is_lt, nat_cmp, eq-eqb, eqb-true, lt-ltb, ltb-true, nat_tests, get_or-drop, length-drop, flat_map-map, ChannelId, Row, parent_of, is_root, row_of, Rise, Pair, TreeState, ends_from, starts_at, Each, each_so, children, family, is_child, family_alike, filter_alike, KeptChannel, children_of, tree_of, tree_row, tree_rows}
use Rattle.mum_kept.proofs.{Lasting.found_each, Numbered.each_unmapped}

-- the channels listed under one
abbrev pub kids_in : List Pair → ChannelId → List ChannelId
kids_in listed parent = ends_from parent listed

-- ---- before the sort

abbrev SameKids : TreeState → ChannelId → List KeptChannel → Type 0
SameKids whole parent channels = ends_from parent (children_of channels) ≡ filter (is_child whole parent) (map (λ (row : Row). row.channel.id) (tree_rows channels))

by_parent : (whole : TreeState) (parent : ChannelId) (channel : KeptChannel) (channels : List KeptChannel) (b : Bool) → (channel.parent.0 == parent.0) ≡ b → is_root channel.id ≡ false → parent_of whole channel.id ≡ channel.parent
    → SameKids whole parent channels → SameKids whole parent (channel ∷ channels)
by_parent whole parent channel channels true e root is rest = rw (root, is, e) (ap (λ (xs : List ChannelId). channel.id ∷ xs) rest)
by_parent whole parent channel channels false e root is rest = rw (root, is, e) rest

by_root : (whole : TreeState) (parent : ChannelId) (channel : KeptChannel) (channels : List KeptChannel) (b : Bool) → is_root channel.id ≡ b → parent_of whole channel.id ≡ channel.parent → SameKids whole parent channels → SameKids whole parent (channel ∷ channels)
by_root whole parent channel channels true root is rest = rw root rest
by_root whole parent channel channels false root is rest = by_parent whole parent channel channels (channel.parent.0 == parent.0) refl root is rest

kids_from : (whole : TreeState) (parent : ChannelId) (channels : List KeptChannel) → Each (λ channel. parent_of whole channel.id ≡ channel.parent) channels → SameKids whole parent channels
kids_from whole parent [] parents = refl
kids_from whole parent (channel ∷ channels) parents = by_root whole parent channel channels (is_root channel.id) refl parents.0 (kids_from whole parent channels parents.1)

-- the parent of each is found under its number
pub parents_found : (channels : List KeptChannel) → Rise (tree_rows channels) → Each (λ channel. parent_of (tree_of channels) channel.id ≡ channel.parent) channels
parents_found channels rise =
    each_so (λ channel. row_of (tree_rows channels) channel.id ≡ Some (tree_row channel)) (λ channel. parent_of (tree_of channels) channel.id ≡ channel.parent)
    (λ channel found. ap (λ (o : Option Row). option_map_or (λ (row : Row). row.channel.parent) o channel.id) found)
    channels (each_unmapped (λ (row : Row). row_of (tree_rows channels) row.channel.id ≡ Some row) tree_row channels (found_each (tree_rows channels) rise))

-- ---- the sort

-- neither parent is below the other: they are one
tied_by : (a b : ℕ) (x y z w : Bool) → nat_lt a b ≡ x → nat_lt b a ≡ y → (a == b) ≡ z → (b == a) ≡ w → (b == a) ≡ (not (is_lt (nat_cmp a b)) && not (is_lt (nat_cmp b a)))
tied_by a b true y z true below other same back = absurd (grind (arith, nat_tests))
tied_by a b x true z true below other same back = absurd (grind (arith, nat_tests))
tied_by a b false false z false below other same back = absurd (grind (arith, nat_tests))
tied_by a b false false true true below other same back = rw (below, other, same, back) refl
tied_by a b false false false true below other same back = rw (below, other, same, back) refl
tied_by a b true y z false below other same back = rw (below, back) refl
tied_by a b false true true false below other same back = absurd (grind (arith, nat_tests))
tied_by a b false true false false below other same back = rw (below, other, same, back) refl

under_ties : (parent : ChannelId) (pair : Pair) → starts_at parent pair ≡ ties (λ (x y : Pair). is_lt (nat_cmp x.0.0 y.0.0)) (parent, parent) pair
under_ties parent pair =
    tied_by parent.0 pair.0.0 (nat_lt parent.0 pair.0.0) (nat_lt pair.0.0 parent.0) (parent.0 == pair.0.0) (pair.0.0 == parent.0) refl refl refl refl

-- a stable sort by the parents leaves the channels under each as they were
pub children_are_sorted : (channels : List KeptChannel) (parent : ChannelId) (listed sorted : List Pair) → Rise (tree_rows channels) → listed ≡ children_of channels → IsStableByKey (λ (pair : Pair). pair.0.0) nat_cmp listed sorted
    → ends_from parent sorted ≡ children (tree_of channels) parent
children_are_sorted channels parent listed sorted rise all stable =
    let tied = ties (λ (x y : Pair). is_lt (nat_cmp x.0.0 y.0.0)) (parent, parent) in
    ap (λ xs. map (λ (pair : Pair). pair.1) xs)
    (filter_alike (starts_at parent) tied (under_ties parent) sorted ∙ stable (parent, parent) ∙ filter_alike tied (starts_at parent) (λ pair. sym (under_ties parent pair)) listed)
    ∙ ap (ends_from parent) all ∙ kids_from (tree_of channels) parent channels (parents_found channels rise)

-- ---- those under one channel are together

pub starts_parted : (listed : List Pair) (parent : ChannelId) → IsNonDecreasingBy (λ (pair : Pair). pair.0.0) listed → IsPartitionedBy (λ (pair : Pair). ltb pair.0.0 parent.0) listed
starts_parted listed parent sorted i j d below within lower = let rises = sorted i j d below within in lt-ltb _ _ (omega (arith, ltb-true _ _ lower))

pub own_parted : (listed : List Pair) (first : ℕ) (parent : ChannelId) → IsNonDecreasingBy (λ (pair : Pair). pair.0.0) listed → ((k : ℕ) (d : Pair) → first ≤ k → k < length listed → parent.0 ≤ (get_or listed k d).0.0)
    → IsPartitionedBy (starts_at parent) (drop first listed)
own_parted listed first parent sorted after i j d below within own =
    let inside : first + j < length listed = omega (arith, length-drop first listed) in
    let here : (get_or (drop first listed) i d).0.0 ≡ (get_or listed (first + i) d).0.0 = ap (λ (pair : Pair). pair.0.0) (get_or-drop first listed i d) in
    let later : (get_or (drop first listed) j d).0.0 ≡ (get_or listed (first + j) d).0.0 = ap (λ (pair : Pair). pair.0.0) (get_or-drop first listed j d) in
    let rises = sorted (first + i) (first + j) d (omega arith) inside in
    let least = after (first + i) d (omega arith) (omega arith) in
    eq-eqb _ _ (omega (arith, eqb-true _ _ own))

-- ---- families

-- a family is the channel, and then those of its children
family_of : (kids : ChannelId → List ChannelId) (levels : ℕ) (id : ChannelId) → 0 < levels → family kids levels id ≡ id ∷ flat_map (family kids (levels - 1)) (kids id)
unfolding family
family_of kids zero id some = absurd (omega arith)
family_of kids (suc levels) id some = let less : suc levels - 1 ≡ levels = omega arith in ap (λ n. id ∷ flat_map (family kids n) (kids id)) (sym less)

-- where those of all listed under a channel come after it, its family does
pub family_told : (listed : List Pair) (levels : ℕ) (id : ChannelId) (under : List Pair) (old now : List ChannelId) → 0 < levels → under ≡ filter (starts_at id) listed
    → now ≡ (old ++ id ∷ []) ++ flat_map (λ (child : Pair). family (kids_in listed) (levels - 1) child.1) under → now ≡ old ++ family (kids_in listed) levels id
family_told listed levels id under old now some is told =
    let f : ChannelId → List ChannelId = family (kids_in listed) (levels - 1) in
    told ∙ append_assoc old (id ∷ []) (flat_map (λ (child : Pair). f child.1) under)
    ∙ ap (λ (ids : List ChannelId). old ++ (id ∷ ids)) (sym (flat_map-map f (λ (child : Pair). child.1) under) ∙ ap (λ (one : List Pair). flat_map f (map (λ (child : Pair). child.1) one)) is)
    ∙ ap (λ (ids : List ChannelId). old ++ ids) (sym (family_of (kids_in listed) levels id some))

-- the families of the listed that were sorted are those of the tree
pub order_told : (tree : TreeState) (seen sorted : List Pair) (old now : List ChannelId) (levels : ℕ) (id : ChannelId) → old ≡ [] → seen ≡ sorted → ((parent : ChannelId) → ends_from parent sorted ≡ children tree parent)
    → now ≡ old ++ family (kids_in seen) levels id → now ≡ family (children tree) levels id
order_told tree seen sorted old now levels id none same kids told =
    told ∙ ap (λ (ids : List ChannelId). ids ++ family (kids_in seen) levels id) none
    ∙ family_alike (kids_in seen) (children tree) (λ parent. ap (ends_from parent) same ∙ kids parent) levels id
