-- The edits that give channels their names and their parents fit one after the other, and leave the channels as they are
-- to be.
use Rattle.mum_kept_laws.proofs.Common.{◌≡◌, ℕ, suc, ◌+◌, ◌==◌, ◌&&◌, ◌||◌, Bool, true, false, not, cond, List, [], ◌∷◌, ◌++◌, length, filter, map, Option, Some, None, is_none, is_some, refl, sym, ap, subst, ◌∙◌, arith, ⊎_elim, Contains, list_all, option_map, option_map_or, and_from, eq-eqb, eqb-true, false≢true, or_right, same_Some, bytes_eq-Decides, is_among, ChannelId, ROOT, TreeFault, LinkCount, NoChannel, Row, Change, fault_of_edit, given_or, overlinks, parent_after, renames_or_moves, with_change, with_given, fault_of_placement, name_of, parent_of, is_root, is_there, number, row_of, upward, TreeState, changed, number_found, some_row, no_link_more, lead_parent, there_from_lead, Edit, EditChannel, applied, given, is_name, StateValue, Each, each_find, shown, named_in_tree, same_channel, IsBare, Leads, leads, less_left, parent_below_root, place_edit}
use Rattle.mum_tree.specs.Change.{names_there}
use Rattle.mum_kept_laws.proofs.{Changing.IsUndescribed, Changing.changed_undescribed, Changing.changed_unplaced, Changing.parent_again, Changing.parent_given, Changing.placing, Changing.rows_placed, Passing.Passes, Passing.nothing_passes, Passing.one_passes, Placing.no_cause, Staged.AreClosed, Staged.AreTarget, Staged.found_staged, Staged.is_settled, Staged.made, Staged.root_closes, Staged.root_stages, Staged.staged, Staged.staged_rows, TreeOrder.ParentsFirst, TreeOrder.met, Unplaced.causes, Unplaced.causes_unplaced, Unplaced.found_unplaced, Unplaced.there_unplaced, Unplaced.unplaced, Unplaced.unplaced_rows}

-- these channels are placed, and no links are there
pub record IsStage (prefix : List ℕ) (rows : List Row) (done : List ChannelId) (tree : TreeState) : Type 0 where
  pub channels : unplaced_rows tree.channels ≡ staged_rows done prefix rows
  pub undescribed : Each IsUndescribed tree.channels
  pub links : tree.links ≡ []

-- the edit of a row
abbrev pub place_row : Row → Edit
place_row row = EditChannel row.channel.id None (Some row.channel.name) (parent_below_root row.channel.parent) None None None [] []

-- the tree has the channels of the target
pub there_staged : (prefix : List ℕ) (rows : List Row) (done : List ChannelId) (tree : TreeState) (id : ChannelId) → IsStage prefix rows done tree → is_there tree.channels id ≡ is_there rows id
there_staged prefix rows done tree id stage =
    sym (there_unplaced tree.channels id) ∙ ap (λ (rs : List Row). is_there rs id) stage.channels ∙ ap (λ (o : Option Row). is_some o) (found_staged done prefix rows id) ∙ kept_there (row_of rows id)
  where
    kept_there : (o : Option Row) → is_some (option_map (staged done prefix) o) ≡ is_some o
    kept_there None = refl
    kept_there (Some row) = refl

one_true : (b : Bool) → b ≡ true → (true && b && true) ≡ true
one_true true on = refl
one_true false off = absurd (cc)

never : (b : Bool) (fault : Option TreeFault) → fault ≡ None → cond b fault None ≡ None
never true fault none = none
never false fault none = refl

module _ (left : ℕ) (prefix : List ℕ) (rows : List Row) (done : List ChannelId) (row : Row) (state : StateValue) (bare : IsBare (suc left) state) (stage : IsStage prefix rows done state.tree) (target : AreTarget prefix rows)
    (closed : AreClosed rows done) (there : row_of rows row.channel.id ≡ Some row) (below : is_root row.channel.id ≡ false) (above : is_settled done row.channel.parent ≡ true) (named : is_name row.channel.name ≡ true) where
  abbrev id : ChannelId
  id = row.channel.id

  abbrev up : ChannelId
  up = row.channel.parent

  abbrev change : Change
  change = placing row

  id_there : is_there state.tree.channels id ≡ true
  id_there = there_staged prefix rows done state.tree id stage ∙ ap (λ (o : Option Row). is_some o) there

  up_there : is_there state.tree.channels up ≡ true
  up_there =
      let lead : Contains (upward rows 32 up) ROOT = lead_parent rows 32 id row there below (target.lead id (ap (λ (o : Option Row). is_some o) there)) in
      there_staged prefix rows done state.tree up stage ∙ ap (λ (o : Option Row). is_some o) (there_from_lead rows 32 up lead).1

  all_named : list_all (is_there state.tree.channels) (id ∷ (given change.parent ++ change.links_add ++ change.links_remove)) ≡ true
  all_named = and_from (is_there state.tree.channels id) (list_all (is_there state.tree.channels) (given change.parent ++ change.links_add ++ change.links_remove)) id_there (parent_there (is_root up))
    where
      parent_there : (b : Bool) → list_all (is_there state.tree.channels) (given (cond b None (Some up)) ++ [] ++ []) ≡ true
      parent_there true = refl
      parent_there false = ap (λ (b : Bool). b && true) up_there

  -- the row of the channel in the tree is the staged one, but for its place
  own : (x : Row) × (row_of state.tree.channels id ≡ Some x) × (unplaced x ≡ staged done prefix row)
  own =
      shown unplaced (row_of state.tree.channels id) (staged done prefix row)
      (sym (found_unplaced state.tree.channels id) ∙ ap (λ (rs : List Row). row_of rs id) stage.channels ∙ found_staged done prefix rows id ∙ ap (option_map (staged done prefix)) there)

  own_name : name_of state.tree id ≡ (staged done prefix row).channel.name
  own_name = ap (λ (o : Option Row). option_map_or (λ (r : Row). r.channel.name) o []) own.1 ∙ ap (λ (r : Row). r.channel.name) own.2

  own_parent : parent_of state.tree id ≡ (staged done prefix row).channel.parent
  own_parent = ap (λ (o : Option Row). option_map_or (λ (r : Row). r.channel.parent) o id) own.1 ∙ ap (λ (r : Row). r.channel.parent) own.2

  after_parent : parent_after state.tree id change ≡ up
  after_parent = ap (given_or (parent_below_root up)) own_parent ∙ by_stage (is_settled done id)
    where
      by_stage : (b : Bool) → given_or (parent_below_root up) (cond b row.channel (made prefix row.channel)).parent ≡ up
      by_stage true = parent_again up
      by_stage false = parent_given up

  quiet : cond (renames_or_moves state.tree id change) (fault_of_placement state.tree id row.channel.name (parent_after state.tree id change)) None ≡ None
  quiet = by_stage (is_settled done id) refl
    where
      by_stage : (b : Bool) → is_settled done id ≡ b → cond (renames_or_moves state.tree id change) (fault_of_placement state.tree id row.channel.name (parent_after state.tree id change)) None ≡ None
      by_stage false unsettled =
          never (renames_or_moves state.tree id change) (fault_of_placement state.tree id row.channel.name (parent_after state.tree id change))
          (ap (λ (q : ChannelId). causes state.tree.channels id row.channel.name q) after_parent
          ∙ sym (causes_unplaced state.tree.channels id row.channel.name up)
          ∙ ap (λ (rs : List Row). causes rs id row.channel.name up) stage.channels
          ∙ no_cause done prefix rows target closed id row there unsettled above)
      by_stage true settled =
          let same : staged done prefix row ≡ row = ap (λ (b : Bool). record row { channel = cond b row.channel (made prefix row.channel) }) settled in
          let same_name : name_of state.tree id ≡ row.channel.name = own_name ∙ ap (λ (r : Row). r.channel.name) same in
          let same_parent : parent_of state.tree id ≡ up = own_parent ∙ ap (λ (r : Row). r.channel.parent) same in
          ap (λ (b : Bool). cond (not b || not ((parent_after state.tree id change).0 == (parent_of state.tree id).0)) (fault_of_placement state.tree id row.channel.name (parent_after state.tree id change)) None)
          ((bytes_eq-Decides row.channel.name (name_of state.tree id)).1 (sym same_name))
          ∙ ap (λ (b : Bool). cond (not b) (fault_of_placement state.tree id row.channel.name (parent_after state.tree id change)) None)
          (eq-eqb (parent_after state.tree id change).0 (parent_of state.tree id).0 (ap (λ (x : ChannelId). x.0) (after_parent ∙ sym same_parent)))

  allowed : fault_of_edit state.tree id change ≡ None
  allowed =
      let in_tree : names_there state.tree id change ≡ true = named_in_tree state.tree id change bare.proper.tree all_named in
      let few : overlinks state.tree id change ≡ false = no_link_more state.tree id change bare.proper.tree.rise bare.proper.tree.joined refl in
      ap (λ (b : Bool). cond (not b) (Some NoChannel)
      (option_map_or (λ (fault : TreeFault). Some fault) (cond (renames_or_moves state.tree id change) (fault_of_placement state.tree id row.channel.name (parent_after state.tree id change)) None) (cond (overlinks state.tree id change) (Some LinkCount) None)))
      in_tree
      ∙ ap (λ (b : Bool). option_map_or (λ (fault : TreeFault). Some fault) (cond (renames_or_moves state.tree id change) (fault_of_placement state.tree id row.channel.name (parent_after state.tree id change)) None) (cond b (Some LinkCount) None)) few
      ∙ ap (λ (o : Option TreeFault). option_map_or (λ (fault : TreeFault). Some fault) o None) quiet

  pub place_led : Leads left state (place_row row)
  place_led =
      leads left state (place_row row) refl bare (one_true (list_all (is_there state.tree.channels) (id ∷ (given change.parent ++ change.links_add ++ change.links_remove))) all_named) refl
      (and_from _ _ (and_from _ _ (ap is_none allowed) named) refl)

  pub place_staged : IsStage prefix rows (id ∷ done) (applied state (place_row row)).tree
  place_staged =
      let tree : (applied state (place_row row)).tree ≡ with_change state.tree id change = ap (λ (s : StateValue). s.tree) place_led.is in
      record {
        channels = ap (λ (t : TreeState). unplaced_rows t.channels) tree ∙ changed_unplaced id row.channel.name (parent_below_root up) state.tree.channels ∙ ap (changed id (with_given change)) stage.channels ∙ rows_placed done prefix rows id row target.rise there;
        undescribed = subst (λ (t : TreeState). Each IsUndescribed t.channels) (sym tree) (changed_undescribed id row.channel.name (parent_below_root up) state.tree.channels stage.undescribed);
        links = ap (λ (t : TreeState). t.links) tree ∙ stage.links;
      }

  -- what is placed stays closed
  pub still_closed : AreClosed rows (id ∷ done)
  still_closed one other among low found = by_own (id.0 == one.0) one other refl among low found
    where
      later : (x : ChannelId) → is_settled done x ≡ true → is_settled (id ∷ done) x ≡ true
      later x settled = widen (is_root x) (id.0 == x.0) (is_among done x) settled
        where
          widen : (a b c : Bool) → (a || c) ≡ true → (a || (b || c)) ≡ true
          widen true b c on = refl
          widen false true c on = refl
          widen false false c on = on

      by_own : (b : Bool) (one : ChannelId) (other : Row) → (id.0 == one.0) ≡ b → is_among (id ∷ done) one ≡ true → is_root one ≡ false → row_of rows one ≡ Some other → is_settled (id ∷ done) other.channel.parent ≡ true
      by_own true one other same among low found =
          let e : id ≡ one = same_channel id one (eqb-true id.0 one.0 same) in
          let row_is : row ≡ other = same_Some row other (sym there ∙ ap (row_of rows) e ∙ found) in
          ap (λ (r : Row). is_settled (id ∷ done) r.channel.parent) (sym row_is) ∙ later up above
      by_own false one other differ among low found =
          later other.channel.parent (closed one other (sym (ap (λ (b : Bool). b || is_among done one) differ) ∙ among) low found)

-- WHAT IS LEFT, in this order:
-- ---- all of them

-- the root has its place
root_placed : (prefix : List ℕ) (rows : List Row) (done : List ChannelId) (tree : TreeState) (id : ChannelId) → is_root id ≡ true → IsStage prefix rows done tree → IsStage prefix rows (id ∷ done) tree
root_placed prefix rows done tree id root stage = record {
  channels = stage.channels ∙ sym (root_stages done prefix id root rows);
  undescribed = stage.undescribed;
  links = stage.links;
}

-- these names and parents are those of the rows
abbrev pub AreOf : TreeState → List Row → Type 0
AreOf tree rows = (id : ChannelId) (row : Row) → row_of rows id ≡ Some row → (name_of tree id ≡ row.channel.name) × (parent_of tree id ≡ row.channel.parent)

place_is : (tree : TreeState) (rows : List Row) (id : ChannelId) (row : Row) → AreOf tree rows → row_of rows id ≡ Some row → row.channel.id ≡ id → place_row row ≡ place_edit tree id
place_is tree rows id row are there own =
    ap (λ (x : ChannelId). EditChannel x None (Some row.channel.name) (parent_below_root row.channel.parent) None None None [] []) own
    ∙ ap (λ (name : List ℕ). EditChannel id None (Some name) (parent_below_root row.channel.parent) None None None [] []) (sym (are id row there).0)
    ∙ ap (λ (parent : ChannelId). EditChannel id None (Some (name_of tree id)) (parent_below_root parent) None None None [] []) (sym (are id row there).1)

pub places_pass : (prefix : List ℕ) (rows : List Row) (tree : TreeState) → AreTarget prefix rows → Each (λ row. is_name row.channel.name ≡ true) rows → AreOf tree rows
    → (ids done : List ChannelId) (state : StateValue) (left : ℕ) → IsBare (length ids + left) state → IsStage prefix rows done state.tree → AreClosed rows done
    → ParentsFirst tree done ids → Each (λ id. is_there rows id ≡ true) ids
    → Passes left state (map (place_edit tree) (filter (λ id. not (is_root id)) ids)) (λ later. IsStage prefix rows (met ids done) later.tree)
places_pass prefix rows tree target named are [] done state left bare stage closed first there =
    nothing_passes left state (λ later. IsStage prefix rows done later.tree) (less_left (0 + left) left state (omega arith) bare) stage
places_pass prefix rows tree target named are (id ∷ ids) done state left bare stage closed first there =
    by_root (is_root id) refl (λ now bare_now stage_now closed_now. places_pass prefix rows tree target named are ids (id ∷ done) now left bare_now stage_now closed_now first.1 there.1)
  where
    rest_edits : List Edit
    rest_edits = map (place_edit tree) (filter (λ (one : ChannelId). not (is_root one)) ids)

    After : StateValue → Type 0
    After later = IsStage prefix rows (met ids (id ∷ done)) later.tree

    enough : IsBare (suc (length ids + left)) state
    enough = less_left (suc (length ids) + left) (suc (length ids + left)) state (omega arith) bare

    Rest : Type 0
    Rest = (now : StateValue) → IsBare (length ids + left) now → IsStage prefix rows (id ∷ done) now.tree → AreClosed rows (id ∷ done) → Passes left now rest_edits After

    by_row : Rest → is_root id ≡ false → (row : Row) → row_of rows id ≡ Some row → Passes left state (place_edit tree id ∷ rest_edits) After
    by_row rest below row found =
        let own : row.channel.id ≡ id = same_channel row.channel.id id (number_found rows id row found) in
        let here : row_of rows row.channel.id ≡ Some row = ap (row_of rows) own ∙ found in
        let low : is_root row.channel.id ≡ false = ap is_root own ∙ below in
        let above : is_settled done row.channel.parent ≡ true =
        ⊎_elim (λ (root : is_root id ≡ true). absurd (false≢true (sym below ∙ root)))
        (λ (among : is_among done (parent_of tree id) ≡ true). or_right (is_root row.channel.parent) (is_among done row.channel.parent) (ap (is_among done) (sym (are id row found).1) ∙ among)) first.0 in
        let good : is_name row.channel.name ≡ true = (each_find (λ (one : Row). is_name one.channel.name ≡ true) (λ (one : Row). number one == id.0) rows row named found).0 in
        let led : Leads (length ids + left) state (place_row row) = place_led (length ids + left) prefix rows done row state enough stage target closed here low above good in
        let staged_now : IsStage prefix rows (row.channel.id ∷ done) (applied state (place_row row)).tree = place_staged (length ids + left) prefix rows done row state enough stage target closed here low above good in
        let closed_now : AreClosed rows (row.channel.id ∷ done) = still_closed (length ids + left) prefix rows done row state enough stage target closed here low above good in
        subst (λ (edit : Edit). Passes left state (edit ∷ rest_edits) After) (place_is tree rows id row are found own)
        (one_passes left (length ids + left) state (place_row row) rest_edits After led
        (rest (applied state (place_row row)) led.bare
        (subst (λ (one : ChannelId). IsStage prefix rows (one ∷ done) (applied state (place_row row)).tree) own staged_now)
        (subst (λ (one : ChannelId). AreClosed rows (one ∷ done)) own closed_now)))

    by_root : (b : Bool) → is_root id ≡ b → Rest → Passes left state (map (place_edit tree) (cond (not b) (id ∷ filter (λ (one : ChannelId). not (is_root one)) ids) (filter (λ (one : ChannelId). not (is_root one)) ids))) After
    by_root true root rest =
        rest state (less_left (suc (length ids + left)) (length ids + left) state (omega arith) enough)
        (root_placed prefix rows done state.tree id root stage) (root_closes rows done id root closed)
    by_root false below rest = let found = some_row (row_of rows id) there.0 in by_row rest below found.0 found.1
