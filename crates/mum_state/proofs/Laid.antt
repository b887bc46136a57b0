-- Policies lie at the places of their channels, whatever becomes of the channels.
use Rattle.mum_state.proofs.Common.{◌≡◌, ◌≢◌, ℕ, suc, ◌<◌, ◌==◌, ◌&&◌, ◌++◌, Bool, true, false, cond, List, [], ◌∷◌, length, get_or, set, map, refl, sym, ap, ◌∙◌, arith, Option, Some, None, inl, inr, filter, option_map, both_ways, cases_order, eq-eqb, eqb-true, or_parts, get_or-set_other, get_or-set_same, get_or_default, map-append, list_any-append, list_any_at, ChannelId, ChannelPolicy, Channel, ChannelInfo, Row, has_place, least_place, IsProperTree, is_there, number, row_of, TreeState, changed, new_row, with_info, with_new, number_found, row_of_at, free_unhad, least_free, set_policy, with_policy, open_policy, policy_row, policies_by_place}
use Rattle.mum_state.proofs.{ByPlace.laid, ByPlace.stored_at, Gone.rows_of, Gone.there_of, Listed.any_stays, Listed.filter_same, Listed.map_filter, Listed.map_same, Listed.map_twice, Members.map_agree, Quiet.rows_there}

-- the open policy lies at each place that no channel has
abbrev pub IsOpenWhereFree : List ChannelPolicy → List Row → Type 0
IsOpenWhereFree stored rows = (place : ℕ) → has_place rows place ≡ false → get_or stored place open_policy ≡ open_policy

-- ---- channels that change

module _ (id : ChannelId) (change : Channel → Channel) (keeps : (channel : Channel) → (change channel).id ≡ channel.id) where
  either : (stored : List ChannelPolicy) (row : Row) (b : Bool) → laid stored (cond b (record row { channel = change row.channel }) row) ≡ laid stored row
  either stored row true = ap (λ (one : ChannelId). record { channel = one; policy = stored_at stored row }) (keeps row.channel)
  either stored row false = refl

  pub laid_changed : (stored : List ChannelPolicy) (rows : List Row) → policies_by_place stored (changed id change rows) ≡ policies_by_place stored rows
  laid_changed stored rows =
      map_twice (laid stored) (λ row. cond (number row == id.0) (record row { channel = change row.channel }) row) rows
      ∙ map_same (λ row. laid stored (cond (number row == id.0) (record row { channel = change row.channel }) row)) (laid stored) (λ row. either stored row (number row == id.0)) rows

  stays : (place : ℕ) (row : Row) (b : Bool) → ((cond b (record row { channel = change row.channel }) row).place == place) ≡ (row.place == place)
  stays place row true = refl
  stays place row false = refl

  pub had_changed : (rows : List Row) (place : ℕ) → has_place (changed id change rows) place ≡ has_place rows place
  had_changed rows place = any_stays (λ row. row.place == place) (λ row. cond (number row == id.0) (record row { channel = change row.channel }) row) (λ row. stays place row (number row == id.0)) rows

  pub free_changed : (stored : List ChannelPolicy) (rows : List Row) → IsOpenWhereFree stored rows → IsOpenWhereFree stored (changed id change rows)
  free_changed stored rows free place none = free place (sym (had_changed rows place) ∙ none)

-- ---- one channel more

module _ (stored : List ChannelPolicy) (tree : TreeState) (id parent : ChannelId) (name : List ℕ) (temporary : Bool) (info : ChannelInfo) (free : IsOpenWhereFree stored tree.channels) where
  new : Row
  new = new_row (least_place tree.channels) id parent name temporary

  open_there : get_or stored (least_place tree.channels) open_policy ≡ open_policy
  open_there = free (least_place tree.channels) (free_unhad tree.channels (least_place tree.channels) (least_free tree.channels).0)

  pub laid_made : policies_by_place stored (with_info (with_new tree id parent name temporary) id info).channels ≡ policies_by_place stored tree.channels ++ policy_row id ∷ []
  laid_made =
      laid_changed id (λ channel. record channel { info = info }) (λ channel. refl) stored (tree.channels ++ new_row (least_place tree.channels) id parent name temporary ∷ [])
      ∙ map-append (laid stored) tree.channels (new_row (least_place tree.channels) id parent name temporary ∷ [])
      ∙ ap (λ (policy : ChannelPolicy). policies_by_place stored tree.channels ++ record { channel = id; policy = policy } ∷ []) open_there

  pub free_made : IsOpenWhereFree stored (with_info (with_new tree id parent name temporary) id info).channels
  free_made =
      free_changed id (λ channel. record channel { info = info }) (λ channel. refl) stored (tree.channels ++ new_row (least_place tree.channels) id parent name temporary ∷ [])
      (λ place none. free place (or_parts (has_place tree.channels place) (has_place (new_row (least_place tree.channels) id parent name temporary ∷ []) place)
      (sym (list_any-append (λ (row : Row). row.place == place) tree.channels (new_row (least_place tree.channels) id parent name temporary ∷ [])) ∙ none)).0)

-- ---- channels that go

pub laid_left : (before after : List ChannelPolicy) (rows : List Row) (stays : ChannelId → Bool)
    → ((place : ℕ) → has_place (rows_of stays rows) place ≡ true → get_or after place open_policy ≡ get_or before place open_policy)
    → policies_by_place after (rows_of stays rows) ≡ filter (λ row. is_there (rows_of stays rows) row.channel) (policies_by_place before rows)
laid_left before after rows stays kept =
    map_agree (laid after) (laid before) (rows_of stays rows)
    (λ k d within.
    let row : Row = get_or (rows_of stays rows) k d in
    ap (λ (policy : ChannelPolicy). record { channel = row.channel.id; policy = policy })
    (kept row.place (list_any_at (λ (one : Row). one.place == row.place) (rows_of stays rows) k d within (eq-eqb row.place row.place refl))))
    ∙ ap (map (laid before))
    (filter_same (λ row. stays row.channel.id) (λ row. is_there (rows_of stays rows) row.channel.id) (λ row. is_there rows row.channel.id)
    (λ row there. sym (there_of stays rows row.channel.id ∙ ap (λ b. b && stays row.channel.id) there)) rows (rows_there rows))
    ∙ map_filter (laid before) (λ row. is_there (rows_of stays rows) row.channel) rows

-- ---- another policy

-- a row that is found is somewhere
record StandsAt (rows : List Row) (row : Row) : Type 0 where
  at : ℕ
  within : at < length rows
  is : get_or rows at row ≡ row

stands_at : (rows : List Row) (id : ChannelId) (row : Row) → row_of rows id ≡ Some row → StandsAt rows row
stands_at [] id row found = cc
stands_at (first ∷ rows) id row found = step (number first == id.0) refl (stands_at rows id row)
  where
    step : (b : Bool) → (number first == id.0) ≡ b → (row_of rows id ≡ Some row → StandsAt rows row) → StandsAt (first ∷ rows) row
    step true is later =
        let same : first ≡ row = (let some : Some first ≡ Some row = sym (ap (λ (b : Bool). cond b (Some first) (row_of rows id)) is) ∙ found in cc) in
        record { at = 0; within = omega arith; is = same }
    step false is later =
        let rest = later (sym (ap (λ (b : Bool). cond b (Some first) (row_of rows id)) is) ∙ found) in
        record { at = suc rest.at; within = (let lt : rest.at < length rows = rest.within in omega arith); is = rest.is }

module _ (stored : List ChannelPolicy) (tree : TreeState) (id : ChannelId) (policy : ChannelPolicy) (place : ℕ) (proper : IsProperTree tree) (whole : length stored ≡ tree.limit) (placed : option_map (λ row. row.place) (row_of tree.channels id) ≡ Some place) where
  rows : List Row
  rows = tree.channels

  found : (o : Option Row) → option_map (λ row. row.place) o ≡ Some place → (row : Row) × (o ≡ Some row) × (row.place ≡ place)
  found None none = cc
  found (Some row) some = (row, refl, (let same : row.place ≡ place = cc in same))

  own : (row : Row) × (row_of tree.channels id ≡ Some row) × (row.place ≡ place)
  own = found (row_of tree.channels id) placed

  spot : StandsAt tree.channels own.0
  spot = stands_at tree.channels id own.0 own.1

  pub within : place < length stored
  within =
      let places_fit : (get_or tree.channels spot.at own.0).place < tree.limit = proper.places_fit spot.at own.0 spot.within in
      let is : (get_or tree.channels spot.at own.0).place ≡ own.0.place = ap (λ (row : Row). row.place) spot.is in
      let same : own.0.place ≡ place = own.2 in
      omega arith

  -- a row of another number has another place
  other_place : (k : ℕ) (d : Row) → k < length tree.channels → (number (get_or tree.channels k d) == id.0) ≡ false → place ≢ (get_or tree.channels k d).place
  other_place k d in_rows differs same =
      let row : Row = get_or tree.channels k d in
      let at : ℕ = spot.at in
      let mine : get_or tree.channels at d ≡ own.0 = get_or_default tree.channels at d own.0 spot.within ∙ spot.is in
      elim (cases_order k at) [
        | inl equal ↦
            let here : row ≡ own.0 = ap (λ (i : ℕ). get_or tree.channels i d) equal ∙ mine in
            both_ways (number row == id.0) differs (eq-eqb (number row) id.0 (ap number here ∙ number_found tree.channels id own.0 own.1))
        | inr apart ↦ elim apart [
          | inl below ↦ proper.places_apart k at d below spot.within (sym same ∙ sym own.2 ∙ ap (λ (one : Row). one.place) (sym mine))
          | inr above ↦ proper.places_apart at k d above in_rows (ap (λ (one : Row). one.place) mine ∙ own.2 ∙ same)
        ]
      ]

  one_row : (k : ℕ) (d : Row) → k < length tree.channels → (b : Bool) → (number (get_or tree.channels k d) == id.0) ≡ b
      → laid (set stored place policy) (get_or tree.channels k d) ≡ cond b (record (laid stored (get_or tree.channels k d)) { policy = policy }) (laid stored (get_or tree.channels k d))
  one_row k d in_rows true is =
      let row : Row = get_or tree.channels k d in
      let same : Some row ≡ Some own.0 = sym (row_of_at tree.channels k d id proper.rise in_rows (eqb-true (number row) id.0 is)) ∙ own.1 in
      let at : row.place ≡ place = ap (λ (o : Option Row). place_or o) same ∙ own.2 in
      ap (λ (one : ChannelPolicy). record { channel = row.channel.id; policy = one })
      (ap (λ (n : ℕ). get_or (set stored place policy) n open_policy) at ∙ get_or-set_same stored place policy open_policy within)
    where
      place_or : Option Row → ℕ
      place_or None = 0
      place_or (Some row) = row.place
  one_row k d in_rows false is =
      let row : Row = get_or tree.channels k d in
      ap (λ (one : ChannelPolicy). record { channel = row.channel.id; policy = one })
      (get_or-set_other stored place row.place policy open_policy (λ same. other_place k d in_rows is (sym same)))

  pub laid_set : policies_by_place (set stored place policy) tree.channels ≡ with_policy id policy (policies_by_place stored tree.channels)
  laid_set =
      map_agree (laid (set stored place policy)) (λ row. set_policy id policy (laid stored row)) tree.channels
      (λ k d in_rows. one_row k d in_rows (number (get_or tree.channels k d) == id.0) refl)
      ∙ sym (map_twice (set_policy id policy) (laid stored) tree.channels)

  pub free_set : IsOpenWhereFree stored tree.channels → IsOpenWhereFree (set stored place policy) tree.channels
  free_set free other none =
      get_or-set_other stored place other policy open_policy (λ same. both_ways (has_place tree.channels other) none (had (sym same))) ∙ free other none
    where
      had : place ≡ other → has_place tree.channels other ≡ true
      had same =
          list_any_at (λ (row : Row). row.place == other) tree.channels spot.at own.0 spot.within
          (eq-eqb (get_or tree.channels spot.at own.0).place other (ap (λ (row : Row). row.place) spot.is ∙ own.2 ∙ same))
