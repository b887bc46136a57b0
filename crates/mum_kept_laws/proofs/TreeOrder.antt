-- In the order of the tree each channel comes once its parent did, and none is left out.
use Rattle.mum_kept_laws.proofs.Common.{◌≡◌, ℕ, zero, suc, ◌+◌, ◌<◌, ◌==◌, ◌||◌, Bool, true, false, not, cond, List, [], ◌∷◌, ◌++◌, map, filter, Option, Some, is_some, refl, sym, ap, subst, ◌∙◌, arith, inr, ◌⊎◌, ⊤, Contains, flat_map, list_any, option_map_or, and_from, and_parts, eq-eqb, eqb-true, false≢true, list_any-append, none-some, is_among, ChannelId, ROOT, Row, parent_of, is_root, is_there, row_of, upward, TreeState, Each, each_append, each_filter, lead_parent, none_contained, there_from_lead, upward_zero, same_channel, channel_ids, children, family, is_child, tree_order}

-- ---- among

or_true : (b : Bool) → (b || true) ≡ true
or_true true = refl
or_true false = refl

among_later : (one id : ChannelId) (ids : List ChannelId) → is_among ids id ≡ true → is_among (one ∷ ids) id ≡ true
among_later one id ids among = ap (λ (b : Bool). (one.0 == id.0) || b) among ∙ or_true (one.0 == id.0)

among_first : (id : ChannelId) (ids : List ChannelId) → is_among (id ∷ ids) id ≡ true
among_first id ids = ap (λ (b : Bool). b || is_among ids id) (eq-eqb id.0 id.0 refl)

-- these, and then those before
abbrev pub met : List ChannelId → List ChannelId → List ChannelId
met [] before = before
met (id ∷ ids) before = met ids (id ∷ before)

pub among_met : (ids before : List ChannelId) (id : ChannelId) → is_among before id ≡ true → is_among (met ids before) id ≡ true
among_met [] before id among = among
among_met (one ∷ ids) before id among = among_met ids (one ∷ before) id (among_later one id before among)

pub met_among : (ids before : List ChannelId) (id : ChannelId) → is_among ids id ≡ true → is_among (met ids before) id ≡ true
met_among [] before id among = absurd (false≢true among)
met_among (one ∷ ids) before id among = step (one.0 == id.0) refl among (met_among ids (one ∷ before) id)
  where
    step : (b : Bool) → (one.0 == id.0) ≡ b → (b || is_among ids id) ≡ true → (is_among ids id ≡ true → is_among (met ids (one ∷ before)) id ≡ true) → is_among (met ids (one ∷ before)) id ≡ true
    step true same here rest = among_met ids (one ∷ before) id (ap (λ (b : Bool). b || is_among before id) same)
    step false other later rest = rest later

-- ---- each parent comes first

-- the channel is the root, or its parent is among those
abbrev pub FollowsParent : TreeState → List ChannelId → ChannelId → Type 0
FollowsParent tree before id = (is_root id ≡ true) ⊎ (is_among before (parent_of tree id) ≡ true)

abbrev pub ParentsFirst : TreeState → List ChannelId → List ChannelId → Type 0
ParentsFirst tree before [] = ⊤
ParentsFirst tree before (id ∷ ids) = FollowsParent tree before id × ParentsFirst tree (id ∷ before) ids

first_append : (tree : TreeState) (xs ys before : List ChannelId) → ParentsFirst tree before xs → ParentsFirst tree (met xs before) ys → ParentsFirst tree before (xs ++ ys)
first_append tree [] ys before first second = second
first_append tree (x ∷ xs) ys before first second = (first.0, first_append tree xs ys (x ∷ before) first.1 second)

-- the families of these channels, whose parent is among those before
families : (tree : TreeState) (f : ChannelId → List ChannelId) → ((id : ChannelId) (before : List ChannelId) → FollowsParent tree before id → ParentsFirst tree before (f id))
    → (above : ChannelId) (ids before : List ChannelId) → is_among before above ≡ true → Each (λ id. (parent_of tree id).0 ≡ above.0) ids → ParentsFirst tree before (flat_map f ids)
families tree f each above [] before among parents = tt
families tree f each above (id ∷ ids) before among parents =
    first_append tree (f id) (flat_map f ids) before
    (each id before (inr (among_same before above (parent_of tree id) (sym parents.0) among)))
    (families tree f each above ids (met (f id) before) (among_met (f id) before above among) parents.1)
  where
    among_same : (ids : List ChannelId) (one other : ChannelId) → one.0 ≡ other.0 → is_among ids one ≡ true → is_among ids other ≡ true
    among_same ids one other same among = ap (λ (n : ℕ). list_any (λ (x : ChannelId). x.0 == n) ids) (sym same) ∙ among

children_parents : (tree : TreeState) (above : ChannelId) (ids : List ChannelId) → Each (λ id. (parent_of tree id).0 ≡ above.0) (filter (is_child tree above) ids)
children_parents tree above [] = tt
children_parents tree above (id ∷ ids) = step (is_child tree above id) refl (children_parents tree above ids)
  where
    step : (b : Bool) → is_child tree above id ≡ b → Each (λ one. (parent_of tree one).0 ≡ above.0) (filter (is_child tree above) ids) → Each (λ one. (parent_of tree one).0 ≡ above.0) (cond b (id ∷ filter (is_child tree above) ids) (filter (is_child tree above) ids))
    step true on rest = (eqb-true (parent_of tree id).0 above.0 (and_parts (not (is_root id)) ((parent_of tree id).0 == above.0) on).1, rest)
    step false off rest = rest

pub family_first : (tree : TreeState) (levels : ℕ) (id : ChannelId) (before : List ChannelId) → FollowsParent tree before id → ParentsFirst tree before (family (children tree) levels id)
unfolding family
family_first tree zero id before follows = tt
family_first tree (suc levels) id before follows =
    (follows, families tree (family (children tree) levels) (family_first tree levels) id (children tree id) (id ∷ before) (among_first id before) (children_parents tree id (channel_ids tree)))

-- ---- each is there

there_in_ids : (rows whole : List Row) → ((row : Row) → is_there rows row.channel.id ≡ true → is_there whole row.channel.id ≡ true) → Each (λ id. is_there whole id ≡ true) (map (λ (row : Row). row.channel.id) rows)
there_in_ids [] whole so = tt
there_in_ids (row ∷ rows) whole so = (
  so row (ap (λ (b : Bool). is_some (cond b (Some row) (row_of rows row.channel.id))) (eq-eqb row.channel.id.0 row.channel.id.0 refl)),
  there_in_ids rows whole (λ other there. so other (step (row.channel.id.0 == other.channel.id.0) (row_of rows other.channel.id) there)),
)
  where
    step : (b : Bool) (found : Option Row) → is_some found ≡ true → is_some (cond b (Some row) found) ≡ true
    step true found there = refl
    step false found there = there

pub flat_there : (P : ChannelId → Type 0) (f : ChannelId → List ChannelId) → ((id : ChannelId) → P id → Each P (f id)) → (ids : List ChannelId) → Each P ids → Each P (flat_map f ids)
flat_there P f each [] all = tt
flat_there P f each (id ∷ ids) all = each_append P (f id) (flat_map f ids) (each id all.0) (flat_there P f each ids all.1)

pub family_there : (tree : TreeState) (levels : ℕ) (id : ChannelId) → is_there tree.channels id ≡ true → Each (λ one. is_there tree.channels one ≡ true) (family (children tree) levels id)
unfolding family
family_there tree zero id there = tt
family_there tree (suc levels) id there = (
  there,
  flat_there (λ one. is_there tree.channels one ≡ true) (family (children tree) levels) (family_there tree levels) (children tree id)
      (each_filter (λ one. is_there tree.channels one ≡ true) (is_child tree id) (channel_ids tree) (there_in_ids tree.channels tree.channels (λ row there. there))),
)

-- ---- none is left out

-- a channel with all that is below it, n levels deep at least, is among the whole
record IsWithin (kids : ChannelId → List ChannelId) (whole : List ChannelId) (least : ℕ) (id : ChannelId) : Type 0 where
  low : ℕ
  enough : least < low
  within : (one : ChannelId) → is_among (family kids low id) one ≡ true → is_among whole one ≡ true

among_flat : (f : ChannelId → List ChannelId) (ids : List ChannelId) (id one : ChannelId) → is_among ids id ≡ true → is_among (f id) one ≡ true → is_among (flat_map f ids) one ≡ true
among_flat f [] id one among own = absurd (false≢true among)
among_flat f (first ∷ ids) id one among own = by_first (first.0 == id.0) refl among (λ later. among_flat f ids id one later own)
  where
    by_first : (b : Bool) → (first.0 == id.0) ≡ b → (b || is_among ids id) ≡ true → (is_among ids id ≡ true → is_among (flat_map f ids) one ≡ true) → is_among (f first ++ flat_map f ids) one ≡ true
    by_first true same here rest =
        let e : first ≡ id = same_channel first id (eqb-true first.0 id.0 same) in
        list_any-append (λ (x : ChannelId). x.0 == one.0) (f first) (flat_map f ids)
        ∙ ap (λ (x : ChannelId). is_among (f x) one || is_among (flat_map f ids) one) e
        ∙ ap (λ (b : Bool). b || is_among (flat_map f ids) one) own
    by_first false other later rest =
        list_any-append (λ (x : ChannelId). x.0 == one.0) (f first) (flat_map f ids)
        ∙ ap (λ (b : Bool). is_among (f first) one || b) (rest later)
        ∙ or_true (is_among (f first) one)

-- a channel is among the children of its parent
child_among : (tree : TreeState) (id : ChannelId) (row : Row) → row_of tree.channels id ≡ Some row → is_root id ≡ false → is_among (children tree row.channel.parent) id ≡ true
child_among tree id row there below = search_in tree.channels there
  where
    child : (one : ChannelId) → one.0 ≡ id.0 → is_child tree row.channel.parent one ≡ true
    child one same =
        let e : one ≡ id = same_channel one id same in
        let parent : parent_of tree id ≡ row.channel.parent = ap (λ (found : Option Row). option_map_or (λ (r : Row). r.channel.parent) found id) there in
        ap (is_child tree row.channel.parent) e
        ∙ and_from (not (is_root id)) ((parent_of tree id).0 == row.channel.parent.0) (ap not below) (eq-eqb (parent_of tree id).0 row.channel.parent.0 (ap (λ (x : ChannelId). x.0) parent))

    search_in : (rows : List Row) → row_of rows id ≡ Some row → is_among (filter (is_child tree row.channel.parent) (map (λ (r : Row). r.channel.id) rows)) id ≡ true
    search_in [] none = absurd (none-some row none)
    search_in (first ∷ rows) found = by_first (first.channel.id.0 == id.0) refl found (search_in rows)
      where
        later : (b : Bool) → is_among (filter (is_child tree row.channel.parent) (map (λ (r : Row). r.channel.id) rows)) id ≡ true
            → is_among (cond b (first.channel.id ∷ filter (is_child tree row.channel.parent) (map (λ (r : Row). r.channel.id) rows)) (filter (is_child tree row.channel.parent) (map (λ (r : Row). r.channel.id) rows))) id ≡ true
        later true among = among_later first.channel.id id (filter (is_child tree row.channel.parent) (map (λ (r : Row). r.channel.id) rows)) among
        later false among = among

        by_first : (b : Bool) → (first.channel.id.0 == id.0) ≡ b → cond b (Some first) (row_of rows id) ≡ Some row
            → (row_of rows id ≡ Some row → is_among (filter (is_child tree row.channel.parent) (map (λ (r : Row). r.channel.id) rows)) id ≡ true)
            → is_among (filter (is_child tree row.channel.parent) (map (λ (r : Row). r.channel.id) (first ∷ rows))) id ≡ true
        by_first true same here rest =
            ap (λ (b : Bool). is_among (cond b (first.channel.id ∷ filter (is_child tree row.channel.parent) (map (λ (r : Row). r.channel.id) rows)) (filter (is_child tree row.channel.parent) (map (λ (r : Row). r.channel.id) rows))) id)
            (child first.channel.id (eqb-true first.channel.id.0 id.0 same))
            ∙ ap (λ (b : Bool). b || is_among (filter (is_child tree row.channel.parent) (map (λ (r : Row). r.channel.id) rows)) id) same
        by_first false other there rest = later (is_child tree row.channel.parent first.channel.id) (rest there)

-- one step down
step_within : (kids : ChannelId → List ChannelId) (whole : List ChannelId) (least low : ℕ) (above id : ChannelId) → suc least < low → is_among (kids above) id ≡ true
    → ((one : ChannelId) → is_among (family kids low above) one ≡ true → is_among whole one ≡ true) → IsWithin kids whole least id
unfolding family
step_within kids whole least zero above id enough child within = absurd (omega arith)
step_within kids whole least (suc low) above id enough child within = record {
  low = low;
  enough = omega arith;
  within = λ one among. within one (ap (λ (b : Bool). (above.0 == one.0) || b) (among_flat (family kids low) (kids above) id one child among) ∙ or_true (above.0 == one.0));
}

within_root : (tree : TreeState) (steps least levels : ℕ) (id : ChannelId) → steps + least ≡ levels → Contains (upward tree.channels steps id) ROOT → IsWithin (children tree) (family (children tree) levels ROOT) least id
within_root tree zero least levels id all lead = absurd (none_contained ROOT (subst (λ (ids : List ChannelId). Contains ids ROOT) (upward_zero tree.channels id) lead))
within_root tree (suc steps) least levels id all lead =
    let found = there_from_lead tree.channels (suc steps) id lead in
    by_root (is_root id) refl found.0 found.1 (within_root tree steps (suc least) levels)
  where
    by_root : (b : Bool) → is_root id ≡ b → (row : Row) → row_of tree.channels id ≡ Some row
        → ((above : ChannelId) → steps + suc least ≡ levels → Contains (upward tree.channels steps above) ROOT → IsWithin (children tree) (family (children tree) levels ROOT) (suc least) above)
        → IsWithin (children tree) (family (children tree) levels ROOT) least id
    by_root true root row there rest =
        let same : ROOT ≡ id = same_channel ROOT id (sym (eqb-true id.0 ROOT.0 root)) in
        subst (λ (one : ChannelId). IsWithin (children tree) (family (children tree) levels ROOT) least one) same (record { low = levels; enough = omega arith; within = λ one among. among })
    by_root false below row there rest =
        let above = rest row.channel.parent (omega arith) (lead_parent tree.channels steps id row there below lead) in
        step_within (children tree) (family (children tree) levels ROOT) least above.low row.channel.parent id above.enough (child_among tree id row there below) above.within

first_among : (kids : ChannelId → List ChannelId) (low : ℕ) (id : ChannelId) → 0 < low → is_among (family kids low id) id ≡ true
unfolding family
first_among kids zero id some = absurd (omega arith)
first_among kids (suc low) id some = ap (λ (b : Bool). b || is_among (flat_map (family kids low) (kids id)) id) (eq-eqb id.0 id.0 refl)

-- each channel is in the order
pub all_in_order : (tree : TreeState) (id : ChannelId) → Contains (upward tree.channels 33 id) ROOT → is_among (tree_order tree) id ≡ true
all_in_order tree id lead =
    let own = within_root tree 33 0 33 id refl lead in
    own.within id (first_among (children tree) own.low id own.enough)
