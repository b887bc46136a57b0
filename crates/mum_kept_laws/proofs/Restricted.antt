-- The channels of a proper state that last are a tree of their own.
use Rattle.mum_kept_laws.proofs.Common.{◌≡◌, ℕ, zero, suc, ◌<◌, ◌≤◌, ◌==◌, Bool, true, false, not, cond, List, [], ◌∷◌, length, filter, map, Option, Some, None, is_some, refl, sym, ap, subst, ◌∙◌, arith, All, AllPairs, Contains, find, list_all, option_map, option_map_or, and_from, and_parts, eqb-true, false≢true, length-map, AllPairs-filter, ChannelId, ROOT, layout, parts, AreTyped, acl, ChannelPolicy, Row, AreApart, HasRoot, IsProperTree, IsUnderLasting, LeadUp, is_root, is_temporary, is_there, number, row_of, upward, Rise, TreeState, AllPairs-map, number_found, row_of-map, kept_row, there_after, upward_missing, upward_root, upward_under, upward_zero, IsProper, is_name, is_sound_channel, is_sound_policy, is_text, PolicyRow, StateValue, policy_of, Each, each_filter, each_find, each_from_all, each_passes, each_so, none_found, same_channel, acl_told, KeptChannel, AreGoodChannels, has_name, has_policy, has_text, is_lasting, kept_channel, kept_channels, kept_policy, holds_policy, policy_payload, tree_rows, found_each, CanBeWritten}
use Rattle.mum_kept_laws.proofs.{Infos.placeless, Infos.placeless_rows, Infos.there_placeless, PolicyPhase.is_of, PolicyPhase.policy_there, ReadBack.payload_held}

-- ---- lists

pub each_kept : {X : Type 0} (p : X → Bool) (xs : List X) → Each (λ x. p x ≡ true) (filter p xs)
each_kept p [] = tt
each_kept p (x ∷ xs) = step (p x) refl (each_kept p xs)
  where
    step : (b : Bool) → p x ≡ b → Each (λ y. p y ≡ true) (filter p xs) → Each (λ y. p y ≡ true) (cond b (x ∷ filter p xs) (filter p xs))
    step true on rest = (on, rest)
    step false off rest = rest

pub passes_all : {X Y : Type 0} (p : Y → Bool) (f : X → Y) (xs : List X) → Each (λ x. p (f x) ≡ true) xs → list_all p (map f xs) ≡ true
passes_all p f [] all = refl
passes_all p f (x ∷ xs) all = and_from (p (f x)) (list_all p (map f xs)) all.0 (passes_all p f xs all.1)

pub all_from_each : {X : Type 0} (P : X → Type 0) (xs : List X) → Each P xs → All P xs
all_from_each P [] all k d within = absurd (omega arith)
all_from_each P (x ∷ xs) all zero d within = all.0
all_from_each P (x ∷ xs) all (suc k) d within = all_from_each P xs all.1 k d (omega arith)

fewer : {X : Type 0} (p : X → Bool) (xs : List X) → length (filter p xs) ≤ length xs
fewer p [] = omega arith
fewer p (x ∷ xs) = step (p x) (fewer p xs)
  where
    step : (b : Bool) → length (filter p xs) ≤ length xs → length (cond b (x ∷ filter p xs) (filter p xs)) ≤ suc (length xs)
    step true few = omega arith
    step false few = omega arith

-- ---- rows

abbrev pub lasting_row : Row → Bool
lasting_row row = is_lasting row.channel

abbrev pub lasting_rows : List Row → List Row
lasting_rows rows = filter lasting_row rows

rows_of_lasting : (state : StateValue) (rows : List Row) → tree_rows (map (λ (row : Row). kept_channel state row.channel) (lasting_rows rows)) ≡ placeless_rows (lasting_rows rows)
rows_of_lasting state [] = refl
rows_of_lasting state (row ∷ rows) = step row.channel.temporary refl (rows_of_lasting state rows)
  where
    step : (b : Bool) → row.channel.temporary ≡ b → tree_rows (map (λ (one : Row). kept_channel state one.channel) (lasting_rows rows)) ≡ placeless_rows (lasting_rows rows)
        → tree_rows (map (λ (one : Row). kept_channel state one.channel) (cond (not b) (row ∷ lasting_rows rows) (lasting_rows rows))) ≡ placeless_rows (cond (not b) (row ∷ lasting_rows rows) (lasting_rows rows))
    step true is rest = rest
    step false is rest =
        ap (λ (t : Bool). record {
          place = 0;
          channel = record { id = row.channel.id; parent = row.channel.parent; name = row.channel.name; temporary = t; info = row.channel.info };
        } ∷ tree_rows (map (λ (one : Row). kept_channel state one.channel) (lasting_rows rows))) (sym is)
        ∙ ap (λ (others : List Row). placeless row ∷ others) rest

-- the rows that are kept
pub kept_rows_are : (state : StateValue) → tree_rows (kept_channels state) ≡ placeless_rows (lasting_rows state.tree.channels)
kept_rows_are state = rows_of_lasting state state.tree.channels

module _ (rows : List Row) where
  abbrev left : List Row
  left = placeless_rows (lasting_rows rows)

  found_left : (id : ChannelId) → row_of left id ≡ option_map placeless (row_of (lasting_rows rows) id)
  found_left id = row_of-map placeless (λ row. refl) (lasting_rows rows) id

  pub lasting_found : (id : ChannelId) (row : Row) → row_of rows id ≡ Some row → row.channel.temporary ≡ false → row_of left id ≡ Some (placeless row)
  lasting_found id row found lasts = found_left id ∙ ap (option_map placeless) (kept_row lasting_row rows id row found (ap not lasts))

  none_left : (id : ChannelId) → row_of rows id ≡ None → row_of left id ≡ None
  none_left id none = found_left id ∙ ap (option_map placeless) (never (lasting_rows rows) (each_filter (λ row. (number row == id.0) ≡ false) lasting_row rows (none_found (λ (row : Row). number row == id.0) rows none)))
    where
      never : (xs : List Row) → Each (λ row. (number row == id.0) ≡ false) xs → row_of xs id ≡ None
      never [] all = refl
      never (x ∷ xs) all = ap (λ (b : Bool). cond b (Some x) (row_of xs id)) all.0 ∙ never xs all.1

  -- from a channel that lasts the way leads up over channels that last
  up_left : Each (IsUnderLasting rows) rows → (steps : ℕ) (id : ChannelId) → is_temporary rows id ≡ false → upward left steps id ≡ upward rows steps id
  up_left under zero id lasts = upward_zero left id ∙ sym (upward_zero rows id)
  up_left under (suc steps) id lasts = by_row (row_of rows id) refl (up_left under steps)
    where
      Higher : Type 0
      Higher = (one : ChannelId) → is_temporary rows one ≡ false → upward left steps one ≡ upward rows steps one

      by_root : Higher → (row : Row) → row_of rows id ≡ Some row → row_of left id ≡ Some (placeless row) → (b : Bool) → is_root id ≡ b → upward left (suc steps) id ≡ upward rows (suc steps) id
      by_root higher row found again true top = upward_root left steps id (placeless row) again top ∙ sym (upward_root rows steps id row found top)
      by_root higher row found again false below =
          let own = each_find (IsUnderLasting rows) (λ (one : Row). number one == id.0) rows row under found in
          let same : number row ≡ id.0 = number_found rows id row found in
          let above : is_temporary rows row.channel.parent ≡ false = own.0 (λ (e : number row ≡ 0). false≢true (sym below ∙ root_of (sym same ∙ e))) in
          upward_under left steps id (placeless row) again below
          ∙ ap (λ (ids : List ChannelId). id ∷ ids) (higher row.channel.parent above)
          ∙ sym (upward_under rows steps id row found below)
        where
          root_of : id.0 ≡ 0 → is_root id ≡ true
          root_of e = ap (λ (n : ℕ). n == 0) e

      by_row : (found : Option Row) → row_of rows id ≡ found → Higher → upward left (suc steps) id ≡ upward rows (suc steps) id
      by_row None none higher = upward_missing left (suc steps) id (none_left id none) ∙ sym (upward_missing rows (suc steps) id none)
      by_row (Some row) found higher =
          let temporary : row.channel.temporary ≡ false = sym (ap (λ (o : Option Row). option_map_or (λ (one : Row). one.channel.temporary) o false) found) ∙ lasts in
          by_root higher row found (lasting_found id row found temporary) (is_root id) refl

-- what is left there was there, and lasts
not_false : (b : Bool) → not b ≡ true → b ≡ false
not_false true off = absurd (false≢true off)
not_false false on = refl

-- ---- the tree of what is kept

module _ (tree : TreeState) (proper : IsProperTree tree) where
  abbrev rows : List Row
  rows = tree.channels

  rise_left : Rise (placeless_rows (lasting_rows rows))
  rise_left =
      AllPairs-map (λ row later. number row < number later) (λ row later. number row < number later) placeless (lasting_rows rows) (λ i j d less within below. below)
      (AllPairs-filter (λ row later. number row < number later) lasting_row rows proper.rise)

  root_left : HasRoot (placeless_rows (lasting_rows rows))
  root_left = (placeless proper.root.0, lasting_found rows ROOT proper.root.0 proper.root.1 proper.root.2.3, (refl, proper.root.2.1, proper.root.2.2, proper.root.2.3))

  lead_left : LeadUp (placeless_rows (lasting_rows rows))
  lead_left id there =
      let was = there_after lasting_row rows id proper.rise (sym (there_placeless (lasting_rows rows) id) ∙ there) in
      let lasts : is_temporary rows id ≡ false = ap (λ (o : Option Row). option_map_or (λ (one : Row). one.channel.temporary) o false) was.1 ∙ not_false was.0.channel.temporary was.2 in
      subst (λ (ids : List ChannelId). Contains ids ROOT) (sym (up_left rows (each_from_all (IsUnderLasting rows) rows proper.lasting) 33 id lasts))
      (proper.lead id (ap (λ (o : Option Row). is_some o) was.1))

  apart_left : AllPairs AreApart (placeless_rows (lasting_rows rows))
  apart_left = AllPairs-map AreApart AreApart placeless (lasting_rows rows) (λ i j d less within apart. apart) (AllPairs-filter AreApart lasting_row rows proper.apart)

-- ---- policies

module _ (state : StateValue) (proper : IsProper state) (written : CanBeWritten state) where
  -- the policy of a channel is sound and can be written
  pub record HasSound (id : ChannelId) : Type 0 where
    pub policy : ChannelPolicy
    pub is : policy_of state id ≡ Some policy
    pub sound : is_sound_policy policy ≡ true
    pub typed : AreTyped (layout acl) (parts acl (acl_told id policy))

  pub policy_found : (id : ChannelId) → is_there state.tree.channels id ≡ true → HasSound id
  policy_found id there = by_row (find (is_of id) state.policies) refl (policy_there state id proper there)
    where
      by_row : (found : Option PolicyRow) → find (is_of id) state.policies ≡ found → is_some found ≡ true → HasSound id
      by_row None none there = absurd (false≢true there)
      by_row (Some row) found there =
          let sound = each_find (λ (one : PolicyRow). is_sound_policy one.policy ≡ true) (is_of id) state.policies row (each_passes (λ (one : PolicyRow). is_sound_policy one.policy) state.policies proper.sound_policies) found in
          let typed = each_find (λ (one : PolicyRow). AreTyped (layout acl) (parts acl (acl_told one.channel one.policy))) (is_of id) state.policies row
          (each_from_all (λ (one : PolicyRow). AreTyped (layout acl) (parts acl (acl_told one.channel one.policy))) state.policies written) found in
          let own : row.channel ≡ id = same_channel row.channel id (eqb-true row.channel.0 id.0 sound.1) in
          record {
            policy = row.policy;
            is = ap (λ (o : Option PolicyRow). option_map (λ (one : PolicyRow). one.policy) o) found;
            sound = sound.0;
            typed = subst (λ (x : ChannelId). AreTyped (layout acl) (parts acl (acl_told x row.policy))) own typed.0;
          }

  -- the rows are there
  pub rows_there : Each (λ row. is_there state.tree.channels row.channel.id ≡ true) state.tree.channels
  rows_there =
      each_so (λ row. row_of state.tree.channels row.channel.id ≡ Some row) (λ row. is_there state.tree.channels row.channel.id ≡ true) (λ row found. ap (λ (o : Option Row). is_some o) found)
      state.tree.channels (found_each state.tree.channels proper.tree.rise)

  policy_kept : (id : ChannelId) → is_there state.tree.channels id ≡ true → holds_policy id (kept_policy state id) ≡ true
  policy_kept id there =
      let own : HasSound id = policy_found id there in
      ap (λ (o : Option ChannelPolicy). holds_policy id (option_map_or (policy_payload id) o [])) own.is ∙ payload_held id own.policy own.sound own.typed

  sound_rows : Each (λ row. is_sound_channel row ≡ true) state.tree.channels
  sound_rows = each_passes is_sound_channel state.tree.channels proper.channels

  pub channels_good : AreGoodChannels (kept_channels state)
  channels_good =
      let rows_are : placeless_rows (lasting_rows state.tree.channels) ≡ tree_rows (kept_channels state) = sym (kept_rows_are state) in
      let make : Row → KeptChannel = λ row. kept_channel state row.channel in
      record {
        few = omega (arith, length-map (lasting_rows state.tree.channels) make, fewer lasting_row state.tree.channels, proper.tree.few, proper.tree.limited);
        rising = subst Rise rows_are (rise_left state.tree proper.tree);
        root = subst HasRoot rows_are (root_left state.tree proper.tree);
        parents = subst LeadUp rows_are (lead_left state.tree proper.tree);
        names = passes_all has_name make (lasting_rows state.tree.channels) (each_filter (λ row. is_name row.channel.name ≡ true) lasting_row state.tree.channels
            (each_so (λ row. is_sound_channel row ≡ true) (λ row. is_name row.channel.name ≡ true) (λ row sound. (and_parts (is_name row.channel.name) (is_text row.channel.info.description) sound).0) state.tree.channels sound_rows));
        siblings = subst (λ (rows : List Row). AllPairs AreApart rows) rows_are (apart_left state.tree proper.tree);
        texts = passes_all has_text make (lasting_rows state.tree.channels) (each_filter (λ row. is_text row.channel.info.description ≡ true) lasting_row state.tree.channels
            (each_so (λ row. is_sound_channel row ≡ true) (λ row. is_text row.channel.info.description ≡ true) (λ row sound. (and_parts (is_name row.channel.name) (is_text row.channel.info.description) sound).1) state.tree.channels sound_rows));
        policies = passes_all has_policy make (lasting_rows state.tree.channels) (each_filter (λ row. has_policy (make row) ≡ true) lasting_row state.tree.channels
            (each_so (λ row. is_there state.tree.channels row.channel.id ≡ true) (λ row. has_policy (make row) ≡ true) (λ row there. policy_kept row.channel.id there) state.tree.channels rows_there));
      }
