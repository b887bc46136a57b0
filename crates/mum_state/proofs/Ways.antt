-- Paths and policies stay where no channel is made, moved or removed and no policy set.
use Rattle.mum_state.proofs.Common.{◌≡◌, ℕ, zero, suc, ◌==◌, ◌&&◌, not, Bool, true, false, cond, List, [], ◌∷◌, map, reverse, refl, sym, ap, subst, ◌∙◌, Option, Some, None, if◌then◌else◌, filter, find, list_any, option_map, option_map_or, eq-eqb, not_from_false, true≢false, none-some, same_Some, ChannelId, Channel, Row, PATH_LIMIT, with_given, is_there, number, path, row_of, upward, Pair, TreeState, changed, Edit, EditChannel, MakeChannel, RemoveChannel, SetAcl, applied, empties, has_member, is_emptied, without_emptied, changes_paths, channel_parts, IsProper, set_by, PolicyRow, StateValue, with_clearing, with_suppression}
use Rattle.mum_tree.specs.Rows.{is_root}
use Rattle.mum_state.proofs.{Each.Each, Each.any_alike, Each.any_map, Each.each_fails, Each.each_map, Each.each_self, Each.each_so, Each.filter_stays, Each.map_unseen, Each.some_found, Heard.clearing_policies, Heard.clearing_tree, Heard.heard_members}

-- ---- what paths are made of

-- a channel and its parent
abbrev pub edge : Row → Pair
edge row = (row.channel.id, row.channel.parent)

abbrev pub starts_edge : List Pair → ChannelId → Bool
starts_edge edges id = list_any (λ one. one.0.0 == id.0) edges

abbrev parent_by : List Pair → ChannelId → Option ChannelId
parent_by edges id = option_map (λ one. one.1) (find (λ one. one.0.0 == id.0) edges)

abbrev parent_in : List Row → ChannelId → Option ChannelId
parent_in rows id = option_map (λ row. row.channel.parent) (row_of rows id)

one_parent : (b : Bool) (row : Row) (later : Option Row) (rest : Option Pair)
    → option_map (λ (one : Row). one.channel.parent) later ≡ option_map (λ (one : Pair). one.1) rest
    → option_map (λ (one : Row). one.channel.parent) (cond b (Some row) later) ≡ option_map (λ (one : Pair). one.1) (cond b (Some (edge row)) rest)
one_parent true row later rest same = refl
one_parent false row later rest same = same

parent_by_edge : (rows : List Row) (id : ChannelId) → parent_in rows id ≡ parent_by (map edge rows) id
parent_by_edge [] id = refl
parent_by_edge (row ∷ rows) id = one_parent (number row == id.0) row (row_of rows id) _ (parent_by_edge rows id)

pub there_by_edge : (rows : List Row) (id : ChannelId) → is_there rows id ≡ starts_edge (map edge rows) id
there_by_edge rows id =
    some_found (λ row. number row == id.0) rows ∙ sym (any_map (λ (one : Pair). one.0.0 == id.0) (λ row. number row == id.0) edge (λ row. refl) rows)

one_up : (row other : Option Row) (up also : ChannelId → List ChannelId) (id : ChannelId)
    → option_map (λ (one : Row). one.channel.parent) row ≡ option_map (λ (one : Row). one.channel.parent) other
    → ((parent : ChannelId) → up parent ≡ also parent)
    → option_map_or (λ (one : Row). id ∷ (if is_root id then [] else up one.channel.parent)) row []
    ≡ option_map_or (λ (one : Row). id ∷ (if is_root id then [] else also one.channel.parent)) other []
one_up None None up also id parents same = refl
one_up None (Some other) up also id parents same = absurd (none-some _ parents)
one_up (Some row) None up also id parents same = absurd (none-some _ (sym parents))
one_up (Some row) (Some other) up also id parents same =
    let one : row.channel.parent ≡ other.channel.parent = same_Some _ _ parents in
    ap (λ (above : List ChannelId). id ∷ (if is_root id then [] else above)) (same row.channel.parent ∙ ap also one)

up_alike : (rows others : List Row) → ((id : ChannelId) → parent_in rows id ≡ parent_in others id) → (steps : ℕ) (id : ChannelId) → upward rows steps id ≡ upward others steps id
unfolding upward
up_alike rows others parents zero id = refl
up_alike rows others parents (suc steps) id =
    one_up (row_of rows id) (row_of others id) (upward rows steps) (upward others steps) id (parents id) (up_alike rows others parents steps)

pub path_alike : (rows others : List Row) (id : ChannelId) → map edge rows ≡ map edge others → path rows id ≡ path others id
path_alike rows others id same =
    ap reverse (up_alike rows others
    (λ one. parent_by_edge rows one ∙ ap (λ (edges : List Pair). parent_by edges one) same ∙ sym (parent_by_edge others one)) PATH_LIMIT id)

pub there_alike : (rows others : List Row) (id : ChannelId) → map edge rows ≡ map edge others → is_there rows id ≡ is_there others id
there_alike rows others id same = there_by_edge rows id ∙ ap (λ (edges : List Pair). starts_edge edges id) same ∙ sym (there_by_edge others id)

-- ---- policies

-- each policy is of a channel that is there
abbrev pub AreGoverned : List Pair → List PolicyRow → Type 0
AreGoverned edges policies = Each (λ row. starts_edge edges row.channel ≡ true) policies

each_starts : (rows : List Row) → Each (λ row. starts_edge (map edge rows) row.channel.id ≡ true) rows
each_starts rows =
    each_so (λ row. list_any (λ one. number one == number row) rows ≡ true) (λ row. starts_edge (map edge rows) row.channel.id ≡ true)
    (λ row here. any_map (λ (one : Pair). one.0.0 == number row) (λ one. number one == number row) edge (λ one. refl) rows ∙ here)
    rows (each_self (λ row one. number one == number row) (λ row. eq-eqb (number row) (number row) refl) rows)

pub each_of_mapped : {X Y : Type 0} (P : Y → Type 0) (f : X → Y) (xs : List X) → Each P (map f xs) → Each (λ x. P (f x)) xs
each_of_mapped P f [] all = tt
each_of_mapped P f (x ∷ xs) all = (all.0, each_of_mapped P f xs all.1)

pub governed_where_proper : (state : StateValue) → IsProper state → AreGoverned (map edge state.tree.channels) state.policies
governed_where_proper state proper =
    let starts : ChannelId → Type 0 = λ id. starts_edge (map edge state.tree.channels) id ≡ true in
    let ids : Each starts (map (λ (row : Row). row.channel.id) state.tree.channels) =
    each_map (λ (row : Row). starts row.channel.id) starts (λ row. row.channel.id) (λ row here. here) state.tree.channels (each_starts state.tree.channels) in
    each_of_mapped starts (λ (row : PolicyRow). row.channel) state.policies
    (subst (Each starts) (sym proper.policies) ids)

-- ---- one edit

one_edited : (b : Bool) (row : Row) (change : Channel) → change.id ≡ row.channel.id → change.parent ≡ row.channel.parent
    → edge (cond b (record row { channel = change }) row) ≡ edge row
one_edited true row change same also = λ i. (same i, also i)
one_edited false row change same also = refl

edges_changed : (id : ChannelId) (change : Channel → Channel) → ((one : Channel) → (change one).id ≡ one.id) → ((one : Channel) → (change one).parent ≡ one.parent)
    → (rows : List Row) → map edge (changed id change rows) ≡ map edge rows
edges_changed id change same also rows =
    map_unseen edge (λ row. cond (number row == id.0) (record row { channel = change row.channel }) row)
    (λ row. one_edited (number row == id.0) row (change row.channel) (same row.channel) (also row.channel)) rows

set_edges : (state : StateValue) (edit : Edit) → changes_paths edit ≡ false → map edge (set_by state edit).tree.channels ≡ map edge state.tree.channels
set_edges state (MakeChannel id parent name temporary info maker) quiet = absurd (true≢false quiet)
set_edges state (RemoveChannel id actor) quiet = absurd (true≢false quiet)
set_edges state (SetAcl channel actor policy) quiet = absurd (true≢false quiet)
set_edges state (EditChannel id actor name (Some parent) description position max_users links_add links_remove) quiet = absurd (true≢false quiet)
set_edges state (EditChannel id actor name None description position max_users links_add links_remove) quiet =
    edges_changed id (with_given (channel_parts name None description position max_users links_add links_remove)) (λ one. refl) (λ one. refl) state.tree.channels
set_edges state edit quiet = refl

set_policies : (state : StateValue) (edit : Edit) → changes_paths edit ≡ false → (set_by state edit).policies ≡ state.policies
set_policies state (MakeChannel id parent name temporary info maker) quiet = absurd (true≢false quiet)
set_policies state (RemoveChannel id actor) quiet = absurd (true≢false quiet)
set_policies state (SetAcl channel actor policy) quiet = absurd (true≢false quiet)
set_policies state edit quiet = refl

-- who is there is determined by the sessions alone
emptied_alike : (before state other : StateValue) → state.tree ≡ other.tree
    → ((channel : ChannelId) → has_member state.roster.sessions channel ≡ has_member other.roster.sessions channel) → empties before state ≡ empties before other
emptied_alike before state other same members =
    any_alike (is_emptied before.roster.sessions state.roster.sessions) (is_emptied before.roster.sessions other.roster.sessions)
    (λ row. ap (λ (b : Bool). row.channel.temporary && has_member before.roster.sessions row.channel.id && not b) (members row.channel.id)) state.tree.channels
    ∙ ap (λ (tree : TreeState). list_any (is_emptied before.roster.sessions other.roster.sessions) tree.channels) same

pub heard_empties : (state : StateValue) (edit : Edit)
    → empties state (with_clearing edit (with_suppression state edit (set_by state edit))) ≡ empties state (set_by state edit)
heard_empties state edit =
    emptied_alike state (with_clearing edit (with_suppression state edit (set_by state edit))) (set_by state edit)
    (clearing_tree edit (with_suppression state edit (set_by state edit)))
    (λ channel. heard_members channel state edit (set_by state edit))

-- where no channel is emptied, all are kept
pub rows_kept : (before state : StateValue) → empties before state ≡ false
    → filter (λ row. not (is_emptied before.roster.sessions state.roster.sessions row)) state.tree.channels ≡ state.tree.channels
rows_kept before state none =
    filter_stays (λ row. not (is_emptied before.roster.sessions state.roster.sessions row)) state.tree.channels
    (each_so (λ row. is_emptied before.roster.sessions state.roster.sessions row ≡ false)
    (λ row. not (is_emptied before.roster.sessions state.roster.sessions row) ≡ true)
    (λ row. not_from_false (is_emptied before.roster.sessions state.roster.sessions row)) state.tree.channels
    (each_fails (is_emptied before.roster.sessions state.roster.sessions) state.tree.channels none))

policies_kept : (rows : List Row) (policies : List PolicyRow) → AreGoverned (map edge rows) policies → filter (λ row. is_there rows row.channel) policies ≡ policies
policies_kept rows policies governed =
    filter_stays (λ row. is_there rows row.channel) policies
    (each_so (λ row. starts_edge (map edge rows) row.channel ≡ true) (λ row. is_there rows row.channel ≡ true)
    (λ row here. there_by_edge rows row.channel ∙ here) policies governed)

-- these rows and these policies are those of the ways
pub record HasWays (edges : List Pair) (policies : List PolicyRow) (rows : List Row) (governing : List PolicyRow) : Type 0 where
  pub ways : map edge rows ≡ edges
  pub rules : governing ≡ policies

module _ (edges : List Pair) (policies : List PolicyRow) (governed : AreGoverned edges policies) where
  ways_kept : (before state : StateValue) → empties before state ≡ false → HasWays edges policies state.tree.channels state.policies
      → HasWays edges policies (without_emptied before state).tree.channels (without_emptied before state).policies
  ways_kept before state none has =
      let kept = rows_kept before state none in
      let here : AreGoverned (map edge state.tree.channels) state.policies =
      subst (λ (es : List Pair). AreGoverned es state.policies) (sym has.ways) (subst (AreGoverned edges) (sym has.rules) governed) in
      record {
        ways = ap (map edge) kept ∙ has.ways;
        rules = ap (λ (rows : List Row). filter (λ row. is_there rows row.channel) state.policies) kept
            ∙ policies_kept state.tree.channels state.policies here ∙ has.rules;
      }

  ways_heard : (state : StateValue) (edit : Edit) → changes_paths edit ≡ false → HasWays edges policies state.tree.channels state.policies
      → HasWays edges policies (with_clearing edit (with_suppression state edit (set_by state edit))).tree.channels (with_clearing edit (with_suppression state edit (set_by state edit))).policies
  ways_heard state edit quiet has = record {
    ways = ap (λ (tree : TreeState). map edge tree.channels) (clearing_tree edit (with_suppression state edit (set_by state edit))) ∙ set_edges state edit quiet ∙ has.ways;
    rules = clearing_policies edit (with_suppression state edit (set_by state edit)) ∙ set_policies state edit quiet ∙ has.rules;
  }

  pub ways_stay : (state : StateValue) (edit : Edit) → changes_paths edit ≡ false → empties state (set_by state edit) ≡ false
      → HasWays edges policies state.tree.channels state.policies → HasWays edges policies (applied state edit).tree.channels (applied state edit).policies
  ways_stay state edit quiet none has =
      ways_kept state (with_clearing edit (with_suppression state edit (set_by state edit))) (heard_empties state edit ∙ none) (ways_heard state edit quiet has)
