-- Channels, sorted by their parents, are the children of each.
use Rattle.mum_notify.proofs.Common.{◌≡◌, ℕ, zero, suc, ◌-◌, ◌<◌, ◌≤◌, ◌==◌, ◌&&◌, Bool, true, false, not, cond, nat_le, nat_lt, List, [], ◌∷◌, ◌++◌, length, map, filter, get_or, refl, sym, ap, ◌∙◌, append_assoc, arith, append-nil, flat_map-map, nat_tests, IsTrue, flat_map, IsNonDecreasingBy, IsStableByKey, ties, is_lt, nat_cmp, ChannelId, parent_of, is_root, TreeState, IsBelowAll, Rises, channel_ids, children, family, is_child, is_not_after, is_under, children_in, children_of, Child}

no_lower : (a b : ℕ) → a ≤ b → IsTrue (nat_le a b)
no_lower a b less = grind (arith, nat_tests)

below_all : (child : Child) (listed : List Child) → ((j : ℕ) (d : Child) → j < length listed → child.parent.0 ≤ (get_or listed j d).parent.0) → IsBelowAll is_not_after child listed
below_all child [] less = tt
below_all child (other ∷ listed) less =
    (no_lower child.parent.0 other.parent.0 (less 0 other (omega arith)), below_all child listed (λ j d within. less (suc j) d (omega arith)))

pub rises_from : (listed : List Child) → IsNonDecreasingBy (λ (child : Child). child.parent.0) listed → Rises is_not_after listed
rises_from [] sorted = tt
rises_from (child ∷ listed) sorted =
    (below_all child listed (λ j d within. sorted 0 (suc j) d (omega arith) (omega arith)), rises_from listed (λ i j d less within. sorted (suc i) (suc j) d (omega arith) (omega arith)))

-- two tests that answer alike pass the same
pub filter_alike : {X : Type 0} (p q : X → Bool) → ((x : X) → p x ≡ q x) → (xs : List X) → filter p xs ≡ filter q xs
filter_alike p q same [] = refl
filter_alike p q same (x ∷ xs) = rw (same x) (ap (λ ys. cond (q x) (x ∷ ys) ys) (filter_alike p q same xs))

abbrev SameKids : TreeState → ChannelId → List ChannelId → Type 0
SameKids tree parent ids = children_in (children_of tree ids) parent ≡ filter (is_child tree parent) ids

by_parent : (tree : TreeState) (parent id : ChannelId) (ids : List ChannelId) (b : Bool) → ((parent_of tree id).0 == parent.0) ≡ b → is_root id ≡ false → SameKids tree parent ids → SameKids tree parent (id ∷ ids)
by_parent tree parent id ids true e root rest = rw (root, e) (ap (λ (xs : List ChannelId). id ∷ xs) rest)
by_parent tree parent id ids false e root rest = rw (root, e) rest

by_root : (tree : TreeState) (parent id : ChannelId) (ids : List ChannelId) (b : Bool) → is_root id ≡ b → SameKids tree parent ids → SameKids tree parent (id ∷ ids)
by_root tree parent id ids true root rest = rw root rest
by_root tree parent id ids false root rest = by_parent tree parent id ids ((parent_of tree id).0 == parent.0) refl root rest

-- before the sort the listed under a channel are its children
pub kids_from : (tree : TreeState) (parent : ChannelId) (ids : List ChannelId) → children_in (children_of tree ids) parent ≡ filter (is_child tree parent) ids
kids_from tree parent [] = refl
kids_from tree parent (id ∷ ids) = by_root tree parent id ids (is_root id) refl (kids_from tree parent ids)

-- neither parent is below the other: they are one
tied_by : (a b : ℕ) (x y z w : Bool) → nat_lt a b ≡ x → nat_lt b a ≡ y → (a == b) ≡ z → (b == a) ≡ w → (b == a) ≡ (not (is_lt (nat_cmp a b)) && not (is_lt (nat_cmp b a)))
tied_by a b true y z true below other same back = absurd (grind (arith, nat_tests))
tied_by a b x true z true below other same back = absurd (grind (arith, nat_tests))
tied_by a b false false z false below other same back = absurd (grind (arith, nat_tests))
tied_by a b false false true true below other same back = rw (below, other, same, back) refl
tied_by a b false false false true below other same back = absurd (grind (arith, nat_tests))
tied_by a b true y z false below other same back = rw (below, back) refl
tied_by a b false true true false below other same back = absurd (grind (arith, nat_tests))
tied_by a b false true false false below other same back = rw (below, other, same, back) refl

under_ties : (parent : ChannelId) (child : Child) → is_under parent child ≡ ties (λ (x y : Child). is_lt (nat_cmp x.parent.0 y.parent.0)) (record { parent = parent; id = parent }) child
under_ties parent child =
    tied_by parent.0 child.parent.0 (nat_lt parent.0 child.parent.0) (nat_lt child.parent.0 parent.0) (parent.0 == child.parent.0) (child.parent.0 == parent.0) refl refl refl refl

-- a stable sort by the parents leaves the listed under each as they were
pub children_are_sorted : (tree : TreeState) (parent : ChannelId) (listed sorted : List Child) → listed ≡ children_of tree (channel_ids tree) → IsStableByKey (λ (child : Child). child.parent.0) nat_cmp listed sorted → children_in sorted parent ≡ children tree parent
children_are_sorted tree parent listed sorted all stable =
    let one : Child = record { parent = parent; id = parent } in
    let tied = ties (λ (x y : Child). is_lt (nat_cmp x.parent.0 y.parent.0)) one in
    ap (λ xs. map (λ (child : Child). child.id) xs)
    (filter_alike (is_under parent) tied (under_ties parent) sorted ∙ stable one ∙ filter_alike tied (is_under parent) (λ child. sym (under_ties parent child)) listed)
    ∙ ap (λ xs. children_in xs parent) all ∙ kids_from tree parent (channel_ids tree)

-- ---- families

flat_alike : {X Y : Type 0} (f g : X → List Y) → ((x : X) → f x ≡ g x) → (xs : List X) → flat_map f xs ≡ flat_map g xs
flat_alike f g same [] = refl
flat_alike f g same (x ∷ xs) = ap (λ ys. ys ++ flat_map f xs) (same x) ∙ ap (λ ys. g x ++ ys) (flat_alike f g same xs)

-- two that name the same children have the same families
pub family_alike : (kids others : ChannelId → List ChannelId) → ((id : ChannelId) → kids id ≡ others id) → (levels : ℕ) (id : ChannelId) → family kids levels id ≡ family others levels id
unfolding family
family_alike kids others same zero id = refl
family_alike kids others same (suc levels) id =
    ap (λ (xs : List ChannelId). id ∷ xs)
    (ap (λ (xs : List ChannelId). flat_map (family kids levels) xs) (same id) ∙ flat_alike (family kids levels) (family others levels) (family_alike kids others same levels) (others id))

-- a family is the channel, and then those of its children
family_of : (kids : ChannelId → List ChannelId) (levels : ℕ) (id : ChannelId) → 0 < levels → family kids levels id ≡ id ∷ flat_map (family kids (levels - 1)) (kids id)
unfolding family
family_of kids zero id some = absurd (omega arith)
family_of kids (suc levels) id some = let less : suc levels - 1 ≡ levels = omega arith in ap (λ n. id ∷ flat_map (family kids n) (kids id)) (sym less)

-- where those of all listed under a channel are sent after it, its family is
pub family_told : (listed : List Child) (levels : ℕ) (id : ChannelId) (under : List Child) (old now : List ChannelId) → 0 < levels → under ≡ filter (is_under id) listed → now ≡ (old ++ id ∷ []) ++ flat_map (λ (child : Child). family (children_in listed) (levels - 1) child.id) under → now ≡ old ++ family (children_in listed) levels id
family_told listed levels id under old now some is told =
    let f : ChannelId → List ChannelId = family (children_in listed) (levels - 1) in
    told ∙ append_assoc old (id ∷ []) (flat_map (λ (child : Child). f child.id) under)
    ∙ ap (λ (ids : List ChannelId). old ++ (id ∷ ids)) (sym (flat_map-map f (λ (child : Child). child.id) under) ∙ ap (λ (one : List Child). flat_map f (map (λ (child : Child). child.id) one)) is)
    ∙ ap (λ (ids : List ChannelId). old ++ ids) (sym (family_of (children_in listed) levels id some))

-- of no level there is none
pub no_levels : (kids : ChannelId → List ChannelId) (levels : ℕ) (id : ChannelId) (old : List ChannelId) → levels ≡ 0 → old ≡ old ++ family kids levels id
unfolding family
no_levels kids levels id old none = sym (ap (λ n. old ++ family kids n id) none ∙ append-nil old)

-- the families of the listed that were sorted are those of the tree
pub order_told : (tree : TreeState) (seen sorted : List Child) (old now : List ChannelId) (levels : ℕ) (id : ChannelId) → old ≡ [] → seen ≡ sorted → ((parent : ChannelId) → children_in sorted parent ≡ children tree parent) → now ≡ old ++ family (children_in seen) levels id → now ≡ family (children tree) levels id
order_told tree seen sorted old now levels id none same kids told =
    told ∙ ap (λ (ids : List ChannelId). ids ++ family (children_in seen) levels id) none
    ∙ family_alike (children_in seen) (children tree) (λ parent. ap (λ (listed : List Child). children_in listed parent) same ∙ kids parent) levels id
