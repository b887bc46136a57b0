-- The edits that make kept channels again fit one after the other, and make them.
use Rattle.mum_kept_laws.proofs.Common.{◌≡◌, ℕ, suc, ◌+◌, ◌^◌, ◌<◌, ◌≤◌, ◌||◌, Bool, true, false, not, cond, List, [], ◌∷◌, ◌++◌, length, map, Option, Some, is_some, refl, sym, ap, subst, ◌∙◌, arith, inl, AllPairs, false≢true, or_right, none-some, is_among, ChannelId, ROOT, Row, is_root, is_there, row_of, Pair, TreeState, is_above, AllPairs-tail, Edit, led_to, StateValue, empty_state, policy_of, Each, each_from_all, each_passes, each_so, channel_ids, tree_order, FitAfterLimits, settings_and_accounts, IsBare, less_left, KeptChannel, KeptRows, AreGoodChannels, AreGoodLinks, IsTree, JoinsTwo, has_policy, policy_in, prefix, info_edits, link_edit, make_edit, make_edits, place_edits, policy_edit, rebuild, below_root, is_top, tree_of, tree_rows, found_each, channels_rise, rows_many, HaveNumbers, first_limits, opening_edits}
use Rattle.mum_kept_laws.proofs.{Infos.IsDescribed, Infos.infos_pass, Infos.there_placeless, LinkPhase.AreFresh, LinkPhase.IsLinked, LinkPhase.fresh_from, LinkPhase.links_few, LinkPhase.links_pass, LinkPhase.none_linked, MadeNames.free_number, MadeNames.free_within, Makes.AreToMake, Makes.hidden_rows, Makes.makes_pass, Opening.first_tree, Opening.opening_pass, OrderLength.order_few, Passing.Passes, Passing.both_pass, Passing.weaker, PlacePhase.IsStage, PlacePhase.places_pass, PolicyPhase.AreSet, PolicyPhase.IsToSet, PolicyPhase.kept_sound, PolicyPhase.policies_pass, Staged.AreClosed, Staged.all_staged, Staged.is_settled, Target.above_root, Target.are_of, Target.first_stage, Target.named, Target.others_below, Target.root_top, Target.target, Target.text_each, Target.to_make, TreeOrder.all_in_order, TreeOrder.family_first, TreeOrder.family_there, TreeOrder.met, TreeOrder.met_among, Unplaced.there_unplaced}

-- the channels and the links are those of the rows, and each channel has the policy of its row
pub record IsRebuilt (rows : KeptRows) (state : StateValue) : Type 0 where
  pub linked : IsLinked rows.channels rows.links state.tree
  pub policies : Each (λ channel. policy_of state channel.id ≡ Some (policy_in channel.policy)) rows.channels

no_top : (channels : List KeptChannel) → Each (λ channel. is_top channel ≡ false) channels → below_root channels ≡ channels
no_top [] all = refl
no_top (channel ∷ channels) all =
    ap (λ (b : Bool). cond (not b) (channel ∷ below_root channels) (below_root channels)) all.0 ∙ ap (λ (rest : List KeptChannel). channel ∷ rest) (no_top channels all.1)

module _ (root : KeptChannel) (others : List KeptChannel) (links : List Pair) (good : AreGoodChannels (root ∷ others)) (joined : AreGoodLinks (tree_rows (root ∷ others)) links) (words : HaveNumbers (root ∷ others)) where
  abbrev channels : List KeptChannel
  channels = root ∷ others

  abbrev front : List ℕ
  front = prefix (free_number channels)

  abbrev order : List ChannelId
  order = tree_order (tree_of channels)

  top : is_top root ≡ true
  top = root_top root others good.rising good.root

  below : Each (λ channel. is_top channel ≡ false) others
  below = others_below root others good.rising

  risen : AllPairs (λ one later. one.id.0 < later.id.0) channels
  risen = channels_rise channels good.rising

  word_each : Each (λ channel. channel.id.0 < 2 ^ 32) channels
  word_each = each_from_all (λ channel. channel.id.0 < 2 ^ 32) channels words

  root_there : is_there (tree_rows channels) ROOT ≡ true
  root_there = ap (λ (o : Option Row). is_some o) good.root.1

  -- ---- 1

  make_edits_are : make_edits channels ≡ map (make_edit front) others
  make_edits_are =
      ap (λ (b : Bool). map (make_edit front) (cond (not b) (root ∷ below_root others) (below_root others))) top
      ∙ ap (λ (rest : List KeptChannel). map (make_edit front) rest) (no_top others below)

  made_pass : (state : StateValue) (left : ℕ) → IsBare (length others + left) state → state.tree ≡ first_tree → Passes left state (make_edits channels) (λ later. IsStage front (hidden_rows channels) [] later.tree)
  made_pass state left bare is =
      let few : length channels ≤ 2048 = good.few in
      let many : length state.tree.channels ≡ 1 = ap (λ (t : TreeState). length t.channels) is in
      let limit : state.tree.limit ≡ 2048 = ap (λ (t : TreeState). t.limit) is in
      let greatest : state.tree.greatest ≡ 0 = ap (λ (t : TreeState). t.greatest) is in
      subst (λ (edits : List Edit). Passes left state edits (λ later. IsStage front (hidden_rows channels) [] later.tree)) (sym make_edits_are)
      (makes_pass (free_number channels) (free_within channels few) others (root ∷ []) state left bare (first_stage front root others state.tree top good.root is)
      (subst (λ (g : ℕ). AreToMake g others) (sym greatest) make_others)
      (omega (arith, few, many, limit)))
    where
      make_others : AreToMake 0 others
      make_others =
          to_make 0 others (AllPairs-tail (λ one later. one.id.0 < later.id.0) root others risen)
          (each_so (λ channel. root.id.0 < channel.id.0) (λ channel. 0 < channel.id.0) (λ channel above. omega arith) others (above_root root others risen))
          word_each.1 (text_each channels good words).1

  -- ---- 2

  order_there : Each (λ id. is_there (hidden_rows channels) id ≡ true) order
  order_there =
      each_so (λ id. is_there (tree_rows channels) id ≡ true) (λ id. is_there (hidden_rows channels) id ≡ true) (λ id there. there_unplaced (tree_rows channels) id ∙ there) order
      (family_there (tree_of channels) 33 ROOT root_there)

  all_placed : Each (λ row. is_settled (met order []) row.channel.id ≡ true) (hidden_rows channels)
  all_placed =
      each_so (λ row. row_of (hidden_rows channels) row.channel.id ≡ Some row) (λ row. is_settled (met order []) row.channel.id ≡ true)
      (λ row found.
      let there : is_there (tree_rows channels) row.channel.id ≡ true = sym (there_unplaced (tree_rows channels) row.channel.id) ∙ ap (λ (o : Option Row). is_some o) found in
      or_right (is_root row.channel.id) (is_among (met order []) row.channel.id) (met_among order [] row.channel.id (all_in_order (tree_of channels) row.channel.id (good.parents row.channel.id there))))
      (hidden_rows channels) (found_each (hidden_rows channels) (target channels good words).rise)

  nothing_closed : AreClosed (hidden_rows channels) []
  nothing_closed id row among low found = absurd (false≢true among)

  placed_pass : (state : StateValue) (left : ℕ) → IsBare (length order + left) state → IsStage front (hidden_rows channels) [] state.tree → Passes left state (place_edits channels) (λ later. IsStage front (hidden_rows channels) (met order []) later.tree)
  placed_pass state left bare stage =
      places_pass front (hidden_rows channels) (tree_of channels) (target channels good words) (named channels good words) (are_of channels good words) order [] state left bare stage nothing_closed
      (family_first (tree_of channels) 33 ROOT [] (inl refl)) order_there

  -- ---- 3

  described_pass : (state : StateValue) (left : ℕ) → IsBare (suc left) state → IsStage front (hidden_rows channels) (met order []) state.tree → Passes left state (info_edits channels) (λ later. IsDescribed channels later.tree)
  described_pass state left bare stage =
      infos_pass root others state left top below (text_each channels good words).0 bare (stage.channels ∙ all_staged (met order []) front (hidden_rows channels) all_placed) stage.undescribed stage.links

  -- ---- 4

  joins : Each (JoinsTwo (tree_rows channels)) links
  joins = each_from_all (JoinsTwo (tree_rows channels)) links joined.between

  fresh : AreFresh [] links
  fresh = fresh_from [] links joined.rising (each_tt links)
    where
      each_tt : (pairs : List Pair) → Each (λ (pair : Pair). Each (λ (one : Pair). is_above one.0 one.1 pair ≡ true) []) pairs
      each_tt [] = tt
      each_tt (pair ∷ pairs) = (tt, each_tt pairs)

  linked_pass : (state : StateValue) (left : ℕ) → IsBare (length links + left) state → IsDescribed channels state.tree → Passes left state (map link_edit links) (λ later. IsLinked channels links later.tree)
  linked_pass state left bare described =
      links_pass channels links [] state left bare (none_linked channels state.tree described.rows described.links) joins fresh (λ a. omega (arith, joined.few_each a))

  -- ---- 5

  all_sound : Each (λ channel. has_policy channel ≡ true) channels
  all_sound = each_passes has_policy channels good.policies

  can_set : (tree : TreeState) → IsLinked channels links tree → Each (IsToSet tree) channels
  can_set tree linked = over channels all_sound all_there
    where
      there_of : (id : ChannelId) → is_there (tree_rows channels) id ≡ true → is_there tree.channels id ≡ true
      there_of id there = sym (there_placeless tree.channels id) ∙ ap (λ (rows : List Row). is_there rows id) linked.rows ∙ there

      all_there : Each (λ channel. is_there (tree_rows channels) channel.id ≡ true) channels
      all_there = unmapped channels (found_each (tree_rows channels) good.rising)
        where
          unmapped : (cs : List KeptChannel) → Each (λ row. row_of (tree_rows channels) row.channel.id ≡ Some row) (tree_rows cs) → Each (λ channel. is_there (tree_rows channels) channel.id ≡ true) cs
          unmapped [] all = tt
          unmapped (c ∷ cs) all = (ap (λ (o : Option Row). is_some o) all.0, unmapped cs all.1)

      over : (cs : List KeptChannel) → Each (λ channel. has_policy channel ≡ true) cs → Each (λ channel. is_there (tree_rows channels) channel.id ≡ true) cs → Each (IsToSet tree) cs
      over [] sound there = tt
      over (c ∷ cs) sound there = (record { there = there_of c.id there.0; sound = kept_sound c.id c.policy sound.0 }, over cs sound.1 there.1)

  governed_pass : (state : StateValue) (left : ℕ) → IsBare (length channels + left) state → IsLinked channels links state.tree → Passes left state (map policy_edit channels) (IsRebuilt (record { channels = channels; links = links }))
  governed_pass state left bare linked =
      weaker left state (map policy_edit channels) (AreSet channels state) (IsRebuilt (record { channels = channels; links = links }))
      (λ later bare_later set. record { linked = subst (IsLinked channels links) (sym set.tree) linked; policies = set.own })
      (policies_pass channels state left bare risen (can_set state.tree linked))

  -- ---- all

  few_links : length links ≤ 131072
  few_links =
      let few : length channels ≤ 2048 = good.few in
      omega (arith, few, rows_many channels, links_few (tree_rows channels) links (each_so (JoinsTwo (tree_rows channels)) (λ pair. is_there (tree_rows channels) pair.0 ≡ true) (λ pair two. two.0) links joins) joined.few_each)

  few_order : length order ≤ 67584
  few_order =
      let few : length channels ≤ 2048 = good.few in
      order_few (tree_of channels) good.rising (omega (arith, few, rows_many channels)) root_among
    where
      root_among : is_among (channel_ids (tree_of channels)) ROOT ≡ true
      root_among = ap (λ (b : Bool). b || is_among (channel_ids (tree_of others)) ROOT) top

  rebuilt_pass : (state : StateValue) → IsBare 1000000 state → state.tree ≡ first_tree → Passes 0 state (rebuild (record { channels = channels; links = links })) (IsRebuilt (record { channels = channels; links = links }))
  rebuilt_pass state bare is =
      let few : length channels ≤ 2048 = good.few in
      let five : ℕ = length channels + 0 in
      let four : ℕ = length links + five in
      let three : ℕ = suc four in
      let two : ℕ = length order + three in
      let one : ℕ = length others + two in
      let bare_one : IsBare one state = less_left 1000000 one state (omega (arith, few, few_links, few_order)) bare in
      both_pass 0 five state (make_edits channels ++ place_edits channels ++ info_edits channels ++ map link_edit links) (map policy_edit channels) (λ later. IsLinked channels links later.tree) (IsRebuilt (record { channels = channels; links = links }))
      (both_pass five four state (make_edits channels ++ place_edits channels ++ info_edits channels) (map link_edit links) (λ later. IsDescribed channels later.tree) (λ later. IsLinked channels links later.tree)
      (both_pass four three state (make_edits channels ++ place_edits channels) (info_edits channels) (λ later. IsStage front (hidden_rows channels) (met order []) later.tree) (λ later. IsDescribed channels later.tree)
      (both_pass three two state (make_edits channels) (place_edits channels) (λ later. IsStage front (hidden_rows channels) [] later.tree) (λ later. IsStage front (hidden_rows channels) (met order []) later.tree)
      (made_pass state two bare_one is)
      (λ bare_now stage. placed_pass (led_to state (make_edits channels)) three bare_now stage))
      (λ bare_now stage. described_pass (led_to state (make_edits channels ++ place_edits channels)) four bare_now stage))
      (λ bare_now described. linked_pass (led_to state (make_edits channels ++ place_edits channels ++ info_edits channels)) five bare_now described))
      (λ bare_now linked. governed_pass (led_to state (make_edits channels ++ place_edits channels ++ info_edits channels ++ map link_edit links)) 0 bare_now linked)

pub all_pass : (rows : KeptRows) (configuration : List Edit) → IsTree rows → HaveNumbers rows.channels → FitAfterLimits (settings_and_accounts configuration) → Passes 0 empty_state (opening_edits configuration rows) (IsRebuilt rows)
all_pass rows configuration tree words fit_after = by_channels rows.channels refl
  where
    opened : Passes 1000000 empty_state (first_limits ∷ settings_and_accounts configuration) (λ later. later.tree ≡ first_tree)
    opened = opening_pass configuration fit_after

    by_channels : (channels : List KeptChannel) → rows.channels ≡ channels → Passes 0 empty_state (opening_edits configuration rows) (IsRebuilt rows)
    by_channels [] none = absurd (none-some tree.0.root.0 (sym (ap (λ (cs : List KeptChannel). row_of (tree_rows cs) ROOT) none) ∙ tree.0.root.1))
    by_channels (root ∷ others) is =
        let whole : rows ≡ record { channels = root ∷ others; links = rows.links } = ap (λ (cs : List KeptChannel). record { channels = cs; links = rows.links }) is in
        let good : AreGoodChannels (root ∷ others) = subst AreGoodChannels is tree.0 in
        let joined : AreGoodLinks (tree_rows (root ∷ others)) rows.links = subst (λ (cs : List KeptChannel). AreGoodLinks (tree_rows cs) rows.links) is tree.1 in
        let number_each : HaveNumbers (root ∷ others) = subst HaveNumbers is words in
        subst (λ (r : KeptRows). Passes 0 empty_state (opening_edits configuration r) (IsRebuilt r)) (sym whole)
        (both_pass 0 1000000 empty_state (first_limits ∷ settings_and_accounts configuration) (rebuild (record { channels = root ∷ others; links = rows.links })) (λ later. later.tree ≡ first_tree) (IsRebuilt (record { channels = root ∷ others; links = rows.links }))
        opened
        (λ bare first. rebuilt_pass root others rows.links good joined number_each (led_to empty_state (first_limits ∷ settings_and_accounts configuration)) bare first))
