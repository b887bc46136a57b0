-- Each channel comes after its parent in the order of the tree.
use Rattle.mum_notify.proofs.Common.{◌≡◌, ℕ, zero, suc, ◌+◌, ◌<◌, ◌==◌, Bool, true, false, not, cond, List, [], ◌∷◌, ◌++◌, map, filter, Option, Some, None, refl, sym, ap, ◌∙◌, arith, append_assoc, subst, is_some, Contains, flat_map, option_map, option_map_or, and_from, eqb-true, eq-eqb, flat_map-append, append-nil, filter-append, ChannelId, ROOT, parent_of, is_root, row_of, upward, TreeState, Channel, Row, lead_parent, none_contained, there_from_lead, upward_zero, IsProper, StateValue, channel_ids, channel_of, children, family, is_child, tree_order}

-- ---- a list is split where an element is

pub record Parts {X : Type 0} (xs : List X) (x : X) : Type 0 where
  pub front : List X
  pub back : List X
  pub is : xs ≡ front ++ x ∷ back

filter_kept : {X : Type 0} (p : X → Bool) (x : X) (xs : List X) → p x ≡ true → filter p (x ∷ xs) ≡ x ∷ filter p xs
filter_kept {X} p x xs on = ap (λ (b : Bool). cond b (x ∷ filter p xs) (filter p xs)) on

pub parts_kept : {X : Type 0} (p : X → Bool) (xs : List X) (x : X) → p x ≡ true → Parts xs x → Parts (filter p xs) x
parts_kept {X} p xs x on parts = record {
  front = filter p parts.front;
  back = filter p parts.back;
  is = ap (filter p) parts.is ∙ filter-append p parts.front (x ∷ parts.back) ∙ ap (λ (ys : List X). filter p parts.front ++ ys) (filter_kept p x parts.back on);
}

-- numbers distinguish channels
pub same_channel : (one other : ChannelId) → one.0 ≡ other.0 → one ≡ other
same_channel one other same = let made : ℕ → ChannelId = λ number. record { 0 = number } in ap made same

-- a channel that is there is in the list of all
pub parts_there : (rows : List Row) (id : ChannelId) (row : Row) → row_of rows id ≡ Some row → Parts (map (λ (one : Row). one.channel.id) rows) id
parts_there [] id row there = cc
parts_there (first ∷ rows) id row there = step (first.channel.id.0 == id.0) refl there (parts_there rows id row)
  where
    step : (b : Bool) → (first.channel.id.0 == id.0) ≡ b → cond b (Some first) (row_of rows id) ≡ Some row → (row_of rows id ≡ Some row → Parts (map (λ (one : Row). one.channel.id) rows) id) → Parts (map (λ (one : Row). one.channel.id) (first ∷ rows)) id
    step true same here rest = record {
      front = [];
      back = map (λ (one : Row). one.channel.id) rows;
      is = ap (λ (one : ChannelId). one ∷ map (λ (other : Row). other.channel.id) rows) (same_channel first.channel.id id (eqb-true first.channel.id.0 id.0 same));
    }
    step false other later rest =
        let parts = rest later in
        record { front = first.channel.id ∷ parts.front; back = parts.back; is = ap (λ (ids : List ChannelId). first.channel.id ∷ ids) parts.is }

-- a channel is among the children of its parent
child_is : (tree : TreeState) (id : ChannelId) (row : Row) → row_of tree.channels id ≡ Some row → is_root id ≡ false → is_child tree row.channel.parent id ≡ true
child_is tree id row there other =
    let parent : parent_of tree id ≡ row.channel.parent = ap (λ (found : Option Row). option_map_or (λ (one : Row). one.channel.parent) found id) there in
    and_from (not (is_root id)) ((parent_of tree id).0 == row.channel.parent.0) (ap not other) (eq-eqb (parent_of tree id).0 row.channel.parent.0 (ap (λ (one : ChannelId). one.0) parent))

parts_children : (tree : TreeState) (id : ChannelId) (row : Row) → row_of tree.channels id ≡ Some row → is_root id ≡ false → Parts (children tree row.channel.parent) id
parts_children tree id row there other =
    parts_kept (is_child tree row.channel.parent) (channel_ids tree) id (child_is tree id row there other) (parts_there tree.channels id row there)

-- ---- families within families

-- a family is whole in that of a channel above
pub record Stands (kids : ChannelId → List ChannelId) (whole : List ChannelId) (low : ℕ) (id : ChannelId) : Type 0 where
  pub front : List ChannelId
  pub back : List ChannelId
  pub is : whole ≡ front ++ family kids low id ++ back

-- n levels are left for it, of those that the whole has
pub record HasLevels (kids : ChannelId → List ChannelId) (whole : List ChannelId) (least : ℕ) (id : ChannelId) : Type 0 where
  pub low : ℕ
  pub enough : least < low
  pub stands : Stands kids whole low id

itself : (kids : ChannelId → List ChannelId) (levels : ℕ) (id : ChannelId) → Stands kids (family kids levels id) levels id
itself kids levels id = record { front = []; back = []; is = sym (append-nil (family kids levels id)) }

regrouped : (front : List ChannelId) (id : ChannelId) (early own late back : List ChannelId) → front ++ (id ∷ (early ++ (own ++ late))) ++ back ≡ (front ++ id ∷ early) ++ own ++ (late ++ back)
regrouped front id early own late back = simp append_assoc

-- below a channel is the family of each of its children
one_down : (kids : ChannelId → List ChannelId) (whole : List ChannelId) (low : ℕ) (above id : ChannelId) → Parts (kids above) id → Stands kids whole (suc low) above → Stands kids whole low id
unfolding family
one_down kids whole low above id parts stands =
    let f : ChannelId → List ChannelId = family kids low in
    let below : flat_map f (kids above) ≡ flat_map f parts.front ++ (f id ++ flat_map f parts.back) =
    ap (flat_map f) parts.is ∙ flat_map-append f parts.front (id ∷ parts.back) in
    record {
      front = stands.front ++ above ∷ flat_map f parts.front;
      back = flat_map f parts.back ++ stands.back;
      is = stands.is ∙ ap (λ (ids : List ChannelId). stands.front ++ (above ∷ ids) ++ stands.back) below ∙ regrouped stands.front above (flat_map f parts.front) (f id) (flat_map f parts.back) stands.back;
    }

step_down : (kids : ChannelId → List ChannelId) (whole : List ChannelId) (least low : ℕ) (above id : ChannelId) → suc least < low → Parts (kids above) id → Stands kids whole low above → HasLevels kids whole least id
step_down kids whole least zero above id enough parts stands = absurd (omega arith)
step_down kids whole least (suc low) above id enough parts stands = record { low = low; enough = omega arith; stands = one_down kids whole low above id parts stands }

-- from where parents lead to the root in n steps, the family is in that of the root
under_root : (tree : TreeState) (steps least levels : ℕ) (id : ChannelId) → steps + least ≡ levels → Contains (upward tree.channels steps id) ROOT → HasLevels (children tree) (family (children tree) levels ROOT) least id
under_root tree zero least levels id all lead = absurd (none_contained ROOT (subst_lead (upward_zero tree.channels id) lead))
  where
    subst_lead : upward tree.channels 0 id ≡ [] → Contains (upward tree.channels 0 id) ROOT → Contains [] ROOT
    subst_lead e there = rw e at there
under_root tree (suc steps) least levels id all lead =
    let found = there_from_lead tree.channels (suc steps) id lead in
    by_root (is_root id) refl found.0 found.1 (under_root tree steps (suc least) levels)
  where
    by_root : (b : Bool) → is_root id ≡ b → (row : Row) → row_of tree.channels id ≡ Some row → ((above : ChannelId) → steps + suc least ≡ levels → Contains (upward tree.channels steps above) ROOT → HasLevels (children tree) (family (children tree) levels ROOT) (suc least) above) → HasLevels (children tree) (family (children tree) levels ROOT) least id
    by_root true root row there rest =
        let same : ROOT ≡ id = same_channel ROOT id (sym (eqb-true id.0 ROOT.0 root)) in
        let whole : Stands (children tree) (family (children tree) levels ROOT) levels ROOT = itself (children tree) levels ROOT in
        record { low = levels; enough = omega arith; stands = subst (λ (one : ChannelId). Stands (children tree) (family (children tree) levels ROOT) levels one) same whole }
    by_root false root row there rest =
        let above = rest row.channel.parent (omega arith) (lead_parent tree.channels steps id row there root lead) in
        step_down (children tree) (family (children tree) levels ROOT) least above.low row.channel.parent id above.enough (parts_children tree id row there root) above.stands

behind_grouped : (front : List ChannelId) (above : ChannelId) (early : List ChannelId) (id : ChannelId) (own late back : List ChannelId) → front ++ (above ∷ (early ++ ((id ∷ own) ++ late))) ++ back ≡ front ++ above ∷ early ++ id ∷ (own ++ (late ++ back))
behind_grouped front above early id own late back = simp append_assoc

-- after a channel comes each of its children
child_behind : (kids : ChannelId → List ChannelId) (whole : List ChannelId) (low : ℕ) (above id : ChannelId) → 1 < low → Parts (kids above) id → Stands kids whole low above → (before between below : List ChannelId) × (whole ≡ before ++ above ∷ between ++ id ∷ below)
unfolding family
child_behind kids whole zero above id enough parts stands = absurd (omega arith)
child_behind kids whole (suc zero) above id enough parts stands = absurd (omega arith)
child_behind kids whole (suc (suc low)) above id enough parts stands =
    let f : ChannelId → List ChannelId = family kids (suc low) in
    let own : List ChannelId = flat_map (family kids low) (kids id) in
    let below : flat_map f (kids above) ≡ flat_map f parts.front ++ (f id ++ flat_map f parts.back) =
    ap (flat_map f) parts.is ∙ flat_map-append f parts.front (id ∷ parts.back) in (
      stands.front,
      flat_map f parts.front,
      own ++ (flat_map f parts.back ++ stands.back),
      stands.is ∙ ap (λ (ids : List ChannelId). stands.front ++ (above ∷ ids) ++ stands.back) below ∙ behind_grouped stands.front above (flat_map f parts.front) id own (flat_map f parts.back) stands.back,
    )

pub parents_come_first_lem : (state : StateValue) (channel : Channel) → IsProper state → channel_of state.tree channel.id ≡ Some channel → is_root channel.id ≡ false → (above between below : List ChannelId) × (tree_order state.tree ≡ above ++ channel.parent ∷ between ++ channel.id ∷ below)
parents_come_first_lem state channel proper is other = by_row (row_of state.tree.channels channel.id) refl is
  where
    by_row : (found : Option Row) → row_of state.tree.channels channel.id ≡ found → option_map (λ (row : Row). row.channel) found ≡ Some channel → (above between below : List ChannelId) × (tree_order state.tree ≡ above ++ channel.parent ∷ between ++ channel.id ∷ below)
    by_row None there none = cc
    by_row (Some row) there one =
        let same : row.channel.parent ≡ channel.parent = let whole : row.channel ≡ channel = cc in ap (λ (own : Channel). own.parent) whole in
        let lead = proper.tree.lead channel.id (ap is_some there) in
        let above = under_root state.tree 32 1 33 row.channel.parent refl (lead_parent state.tree.channels 32 channel.id row there other lead) in
        rw (← same) (child_behind (children state.tree) (tree_order state.tree) above.low row.channel.parent channel.id above.enough (parts_children state.tree channel.id row there other) above.stands)
