-- The edit that describes the root fits, and then each channel is as it is to be.
use Rattle.mum_kept_laws.proofs.Common.{◌≡◌, ℕ, suc, ◌==◌, ◌&&◌, Bool, true, false, not, cond, ℤ, pos, List, [], ◌∷◌, length, filter, map, Option, Some, None, is_none, is_some, refl, sym, ap, subst, ◌∙◌, arith, option_map, int_eq, and_from, and_parts, eqb-true, Decides-int_eq, ChannelId, ROOT, ChannelInfo, Row, Change, fault_of_edit, with_change, with_given, is_root, is_there, number, row_of, TreeState, changed, plain_info, row_of-map, edits_both_ways, informed_proper, Edit, applied, channel_parts, is_text, StateValue, Each, each_so, map_each, map_stays, named_in_tree, IsBare, Leads, leads, less_left, one_there, KeptChannel, describes_root, info_edit, info_edits, is_plain, is_top, tree_row, tree_rows}
use Rattle.mum_kept_laws.proofs.{Changing.IsUndescribed, Changing.map_map, Makes.hidden_rows, Passing.Passes, Passing.nothing_passes, Passing.one_passes, Unplaced.unplaced, Unplaced.unplaced_rows}

-- ---- rows without their places

abbrev pub placeless : Row → Row
placeless row = record row { place = 0 }

abbrev pub placeless_rows : List Row → List Row
placeless_rows rows = map placeless rows

pub there_placeless : (rows : List Row) (id : ChannelId) → is_there (placeless_rows rows) id ≡ is_there rows id
there_placeless rows id = ap (λ (o : Option Row). is_some o) (row_of-map placeless (λ row. refl) rows id) ∙ same (row_of rows id)
  where
    same : (o : Option Row) → is_some (option_map placeless o) ≡ is_some o
    same None = refl
    same (Some row) = refl

-- each channel is as it is to be, and no links are there
pub record IsDescribed (channels : List KeptChannel) (tree : TreeState) : Type 0 where
  pub rows : placeless_rows tree.channels ≡ tree_rows channels
  pub links : tree.links ≡ []

-- ---- what describes the root

-- the root's with this information
abbrev described : ChannelInfo → Row → Row
described info row = record row { channel = record row.channel { info = cond (is_root row.channel.id) info row.channel.info } }

described_once : (info : ChannelInfo) (row : Row) → placeless (described info row) ≡ described info (unplaced row)
described_once info row = step (is_root row.channel.id) refl
  where
    step : (b : Bool) → is_root row.channel.id ≡ b → placeless (described info row) ≡ described info (unplaced row)
    step true top = rw top refl
    step false below = rw below refl

each_row : (P : Row → Type 0) → ((row : Row) → P row) → (rows : List Row) → Each P rows
each_row P all [] = tt
each_row P all (row ∷ rows) = (all row, each_row P all rows)

all_described : (info : ChannelInfo) (rows : List Row) → placeless_rows (map (described info) rows) ≡ map (described info) (unplaced_rows rows)
all_described info rows =
    map_map placeless (described info) rows
    ∙ map_each (λ row. placeless (described info row)) (λ row. described info (unplaced row)) rows (each_row (λ row. placeless (described info row) ≡ described info (unplaced row)) (described_once info) rows)
    ∙ sym (map_map (described info) unplaced rows)

-- the rows of the root and the others
wanted : (root : KeptChannel) (others : List KeptChannel) → is_top root ≡ true → Each (λ channel. is_top channel ≡ false) others → map (described root.info) (hidden_rows (root ∷ others)) ≡ tree_rows (root ∷ others)
wanted root others top below =
    ap (λ (b : Bool). record {
      place = 0;
      channel = record { id = root.id; parent = root.parent; name = root.name; temporary = false; info = cond b root.info (cond b plain_info root.info) };
    } ∷ map (described root.info) (hidden_rows others)) top
    ∙ ap (λ (rows : List Row). tree_row root ∷ rows) (rest others below)
  where
    rest : (channels : List KeptChannel) → Each (λ channel. is_top channel ≡ false) channels → map (described root.info) (hidden_rows channels) ≡ tree_rows channels
    rest [] all = refl
    rest (channel ∷ channels) all =
        ap (λ (b : Bool). record {
          place = 0;
          channel = record { id = channel.id; parent = channel.parent; name = channel.name; temporary = false; info = cond b root.info (cond b plain_info channel.info) };
        } ∷ map (described root.info) (hidden_rows channels)) all.0
        ∙ ap (λ (rows : List Row). tree_row channel ∷ rows) (rest channels all.1)

-- ---- where nothing describes the root

empty_is : (text : List ℕ) → (length text == 0) ≡ true → text ≡ []
empty_is [] none = refl
empty_is (x ∷ text) none = absurd (let e : length (x ∷ text) ≡ 0 = eqb-true (length (x ∷ text)) 0 none in omega arith)

pub plain_is : (info : ChannelInfo) → is_plain info ≡ true → info ≡ plain_info
plain_is info plain =
    let two = and_parts ((length info.description == 0) && int_eq info.position (pos 0)) (info.max_users == 0) plain in
    let one = and_parts (length info.description == 0) (int_eq info.position (pos 0)) two.0 in
    ap (λ (text : List ℕ). record info { description = text }) (empty_is info.description one.0)
    ∙ ap (λ (place : ℤ). record info { description = []; position = place }) ((Decides-int_eq info.position (pos 0)).0 one.1)
    ∙ ap (λ (users : ℕ). record { description = []; position = pos 0; max_users = users }) (eqb-true info.max_users 0 two.1)

still_plain : (info : ChannelInfo) → info ≡ plain_info → (rows : List Row) → Each IsUndescribed rows → map (described info) rows ≡ rows
still_plain info plain rows all =
    map_stays (described info) rows (each_so IsUndescribed (λ row. described info row ≡ row) (λ row is. one row is (is_root row.channel.id) refl) rows all)
  where
    one : (row : Row) → IsUndescribed row → (b : Bool) → is_root row.channel.id ≡ b → described info row ≡ row
    one row is true top =
        ap (λ (b : Bool). record row { channel = record row.channel { info = cond b info row.channel.info } }) top
        ∙ ap (λ (i : ChannelInfo). record row { channel = record row.channel { info = i } }) (plain ∙ sym (is top))
    one row is false below = ap (λ (b : Bool). record row { channel = record row.channel { info = cond b info row.channel.info } }) below

-- ---- the edit

abbrev info_change : ChannelInfo → Change
info_change info = channel_parts None None (Some info.description) (Some info.position) (Some info.max_users) [] []

change_describes : (info : ChannelInfo) (rows : List Row) → changed ROOT (with_given (info_change info)) rows ≡ map (described info) rows
change_describes info rows =
    map_each (λ row. cond (number row == ROOT.0) (record row { channel = with_given (info_change info) row.channel }) row) (described info) rows
    (each_row (λ row. cond (number row == ROOT.0) (record row { channel = with_given (info_change info) row.channel }) row ≡ described info row) (λ row. step row (is_root row.channel.id)) rows)
  where
    step : (row : Row) (b : Bool) → cond b (record row { channel = with_given (info_change info) row.channel }) row ≡ record row { channel = record row.channel { info = cond b info row.channel.info } }
    step row true = refl
    step row false = refl

module _ (left : ℕ) (info : ChannelInfo) (state : StateValue) (bare : IsBare (suc left) state) (text : is_text info.description ≡ true) where
  root_there : is_there state.tree.channels ROOT ≡ true
  root_there = ap (λ (o : Option Row). is_some o) bare.proper.tree.root.1

  info_allowed : fault_of_edit state.tree ROOT (info_change info) ≡ None
  info_allowed =
      (edits_both_ways state.tree ROOT (info_change info) bare.proper.tree
      (named_in_tree state.tree ROOT (info_change info) bare.proper.tree (ap (λ (b : Bool). b && true) root_there))).1
      (informed_proper state.tree ROOT info bare.proper.tree)

  info_led : Leads left state (info_edit info)
  info_led =
      leads left state (info_edit info) refl bare
      (one_there (is_there state.tree.channels ROOT) root_there)
      refl
      (and_from _ _ (and_from _ _ (ap is_none info_allowed) refl) text)

  info_tree : (applied state (info_edit info)).tree ≡ with_change state.tree ROOT (info_change info)
  info_tree = ap (λ (s : StateValue). s.tree) info_led.is

-- ---- the phase

no_root_left : (channels : List KeptChannel) → Each (λ channel. is_top channel ≡ false) channels → filter describes_root channels ≡ []
no_root_left [] all = refl
no_root_left (channel ∷ channels) all =
    ap (λ (b : Bool). cond (b && not (is_plain channel.info)) (channel ∷ filter describes_root channels) (filter describes_root channels)) all.0 ∙ no_root_left channels all.1

info_edits_are : (root : KeptChannel) (others : List KeptChannel) → is_top root ≡ true → Each (λ channel. is_top channel ≡ false) others → info_edits (root ∷ others) ≡ cond (is_plain root.info) [] (info_edit root.info ∷ [])
info_edits_are root others top below =
    ap (λ (b : Bool). map (λ (channel : KeptChannel). info_edit channel.info) (cond (b && not (is_plain root.info)) (root ∷ filter describes_root others) (filter describes_root others))) top
    ∙ ap (λ (rest : List KeptChannel). map (λ (channel : KeptChannel). info_edit channel.info) (cond (not (is_plain root.info)) (root ∷ rest) rest)) (no_root_left others below)
    ∙ step (is_plain root.info)
  where
    step : (b : Bool) → map (λ (channel : KeptChannel). info_edit channel.info) (cond (not b) (root ∷ []) []) ≡ cond b [] (info_edit root.info ∷ [])
    step true = refl
    step false = refl

pub infos_pass : (root : KeptChannel) (others : List KeptChannel) (state : StateValue) (left : ℕ) → is_top root ≡ true → Each (λ channel. is_top channel ≡ false) others → is_text root.info.description ≡ true
    → IsBare (suc left) state → unplaced_rows state.tree.channels ≡ hidden_rows (root ∷ others) → Each IsUndescribed state.tree.channels → state.tree.links ≡ []
    → Passes left state (info_edits (root ∷ others)) (λ later. IsDescribed (root ∷ others) later.tree)
infos_pass root others state left top below text bare same undescribed none =
    subst (λ (edits : List Edit). Passes left state edits After) (sym (info_edits_are root others top below)) (step (is_plain root.info) refl)
  where
    After : StateValue → Type 0
    After later = IsDescribed (root ∷ others) later.tree

    rows_are : placeless_rows (map (described root.info) state.tree.channels) ≡ tree_rows (root ∷ others)
    rows_are = all_described root.info state.tree.channels ∙ ap (λ (rows : List Row). map (described root.info) rows) same ∙ wanted root others top below

    step : (b : Bool) → is_plain root.info ≡ b → Passes left state (cond b [] (info_edit root.info ∷ [])) After
    step true plain =
        nothing_passes left state After (less_left (suc left) left state (omega arith) bare)
        (record {
          rows = ap (λ (rows : List Row). placeless_rows rows) (sym (still_plain root.info (plain_is root.info plain) state.tree.channels undescribed)) ∙ rows_are;
          links = none;
        })
    step false shown =
        let led : Leads left state (info_edit root.info) = info_led left root.info state bare text in
        let tree : (applied state (info_edit root.info)).tree ≡ with_change state.tree ROOT (info_change root.info) = info_tree left root.info state bare text in
        one_passes left left state (info_edit root.info) [] After led
        (nothing_passes left (applied state (info_edit root.info)) After led.bare
        (record {
          rows = ap (λ (t : TreeState). placeless_rows t.channels) tree ∙ ap (λ (rows : List Row). placeless_rows rows) (change_describes root.info state.tree.channels) ∙ rows_are;
          links = ap (λ (t : TreeState). t.links) tree ∙ none;
        }))
