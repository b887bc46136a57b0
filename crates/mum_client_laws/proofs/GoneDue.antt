-- The channels that an edit takes away are those of which messages are sent.
use Rattle.mum_client_laws.proofs.Common.{◌≡◌, ℕ, ◌==◌, ◌&&◌, ◌||◌, Bool, true, false, not, cond, List, [], ◌∷◌, map, Option, Some, None, refl, ap, sym, ◌∙◌, subst, get_or, ◌+◌, filter, is_some, option_and_then, option_map, option_map_or, and_parts, both_ways, eq-eqb, eqb-true, eqb-false, not-false, All-contains_itself, is_among, ChannelId, SessionId, parent_of, is_below, is_root, is_temporary, is_there, level, number, row_of, TreeState, without_subtree, Row, TreeFault, RootFixed, NoChannel, some_level, level_under, level_at_root, session_of, User, Rises-filter, applied, has_member, fits, left_by, temporary_around, with_left_closed, given, IsProper, set_by, with_tree, StateValue, Edit, Kick, Leave, MakeChannel, RemoveChannel, SetUser, EditChannel, Each, each_from_all, each_map, each_so, some_found, alone, fit_parts, parent_stays, there_without_subtree, fit_proper, left_alone, removal_fits, channel_ids, is_lower, channel_gone, channels_gone, is_told_gone, all_to_each, channel_gone_frame, same_channel, applied_tree, apart_sym, OfChannelGone, AboutChannelGone, AreExactly, all_channels, due_to_all, gone_channels, is_gone, any_mapped, still_given, channel_parts}
use Rattle.mum_client_laws.proofs.{ChannelsAfter.IsNoRemoval, ChannelsAfter.gone_is, ChannelsAfter.never_there, ChannelsAfter.other_made, ChannelsAfter.tree_made, Closing.temporary_there, Exactly.exactly_to_all, Framed.channel_gone_framed, Linked.contained_any, Rising.among_kept, Rising.rising_same, Rising.rows_rise}

-- each channel of a tree is there
pub ids_there : (rows : List Row) → Each (λ id. is_there rows id ≡ true) (map (λ row. row.channel.id) rows)
ids_there rows =
    each_map (λ row. is_there rows row.channel.id ≡ true) (λ id. is_there rows id ≡ true) (λ row. row.channel.id) (λ row there. there) rows
    (each_from_all (λ row. is_there rows row.channel.id ≡ true) rows
    (λ k d within. let row : Row = get_or rows k d in
    some_found (λ (one : Row). number one == row.channel.id.0) rows
    ∙ contained_any (λ (one : Row). number one == row.channel.id.0) rows row (eq-eqb row.channel.id.0 row.channel.id.0 refl) (All-contains_itself rows k d within)))

pub filter_each : {X : Type 0} (p q : X → Bool) (xs : List X) → Each (λ x. p x ≡ q x) xs → filter p xs ≡ filter q xs
filter_each p q [] all = refl
filter_each {X} p q (x ∷ xs) all =
    (λ i. cond (all.0 i) (x ∷ filter p xs) (filter p xs)) ∙ ap (λ (rest : List X). cond (q x) (x ∷ rest) rest) (filter_each p q xs all.1)

-- ---- a channel that is removed goes with all below it

fault_by_root : (there root : Bool) → cond {A = Option TreeFault} (not there) (Some NoChannel) (cond root (Some RootFixed) None) ≡ None → root ≡ false
fault_by_root true true fault = cc
fault_by_root true false fault = refl
fault_by_root false root fault = cc

module _ (state : StateValue) (top : ChannelId) (actor : SessionId) (proper : IsProper state) (fit : fits state (RemoveChannel top actor) ≡ true) where
  abbrev tree : TreeState
  tree = state.tree

  abbrev cut : TreeState
  cut = without_subtree state.tree top

  no_root : is_root top ≡ false
  no_root = fault_by_root (is_there tree.channels top) (is_root top) (removal_fits state top actor fit)

  top_there : is_there tree.channels top ≡ true
  top_there =
      let named = and_parts _ _ (and_parts _ _ (fit_parts state (RemoveChannel top actor) fit).named).0 in
      (and_parts (is_there tree.channels top) _ named.1).0

  -- what goes and is not the top goes with its parent
  parent_goes : (id : ChannelId) → is_there tree.channels id ≡ true → (id.0 == top.0) ≡ false → is_there cut.channels id ≡ false → is_there cut.channels (parent_of tree id) ≡ false
  parent_goes id there other gone = of_row (row_of tree.channels id) refl
    where
      below : is_below tree.channels top id ≡ true
      below = not-false (is_below tree.channels top id) (ap (λ (b : Bool). b && not (is_below tree.channels top id)) (sym there) ∙ sym (there_without_subtree tree top id) ∙ gone)

      of_row : (found : Option Row) → row_of tree.channels id ≡ found → is_there cut.channels (option_map_or (λ row. row.channel.parent) found id) ≡ false
      of_row None is = gone
      of_row (Some row) is = by_root (is_root id) refl
        where
          some_more : (found : Option ℕ) → is_some (option_map (λ k. k + 1) found) ≡ is_some found
          some_more None = refl
          some_more (Some n) = refl

          by_root : (b : Bool) → is_root id ≡ b → is_there cut.channels row.channel.parent ≡ false
          by_root true root =
              let same : id.0 ≡ 0 = eqb-true id.0 0 root in
              let none : None ≡ level tree.channels top id = level_at_root tree.channels top id row is (eqb-false id.0 top.0 other) same in
              absurd (both_ways (is_below tree.channels top id) (sym (some_level tree.channels top id) ∙ sym (ap is_some none)) below)
          by_root false under =
              let parent_below : is_below tree.channels top row.channel.parent ≡ true =
              sym (some_level tree.channels top row.channel.parent) ∙ sym (some_more (level tree.channels top row.channel.parent))
              ∙ ap is_some (level_under tree.channels top id row proper.tree.lead is (eqb-false id.0 top.0 other) (eqb-false id.0 0 under))
              ∙ some_level tree.channels top id ∙ below in
              there_without_subtree tree top row.channel.parent ∙ ap (λ (b : Bool). is_there tree.channels row.channel.parent && not b) parent_below ∙ none (is_there tree.channels row.channel.parent)
            where
              none : (b : Bool) → (b && false) ≡ false
              none true = refl
              none false = refl

  by_truth : (same kind here above : Bool) → (same ≡ true → above ≡ true) → (same ≡ false → here ≡ false → above ≡ false) → ((same || kind) && not here) ≡ (not here && (kind || above))
  by_truth same kind true above first rest = none (same || kind)
    where
      none : (b : Bool) → (b && false) ≡ false
      none true = refl
      none false = refl
  by_truth true true false above first rest = refl
  by_truth true false false above first rest = sym (first refl)
  by_truth false true false above first rest = refl
  by_truth false false false above first rest = sym (rest refl refl)

  top_parent : (id : ChannelId) → (id.0 == top.0) ≡ true → is_there cut.channels (parent_of tree id) ≡ true
  top_parent id same =
      ap (λ (one : ChannelId). is_there cut.channels (parent_of tree one)) (same_channel id top (eqb-true id.0 top.0 same)) ∙ parent_stays tree top proper.tree top_there no_root

  told_is : (id : ChannelId) → is_there tree.channels id ≡ true
      → is_told_gone top tree cut id ≡ (not (is_there cut.channels id) && (is_temporary tree.channels id || is_there cut.channels (parent_of tree id)))
  told_is id there =
      by_truth (id.0 == top.0) (is_temporary tree.channels id) (is_there cut.channels id) (is_there cut.channels (parent_of tree id)) (top_parent id) (parent_goes id there)

  removed_are : channels_gone state (RemoveChannel top actor) (applied state (RemoveChannel top actor)) ≡ filter (is_gone state (applied state (RemoveChannel top actor))) (all_channels state)
  removed_are =
      subst (λ (later : TreeState). filter (is_told_gone top tree later) (channel_ids tree)
      ≡ filter (λ id. not (is_there later.channels id) && (is_temporary tree.channels id || is_there later.channels (parent_of tree id))) (all_channels state))
      (sym (applied_tree state (RemoveChannel top actor) proper fit))
      (filter_each (is_told_gone top tree cut) (λ id. not (is_there cut.channels id) && (is_temporary tree.channels id || is_there cut.channels (parent_of tree id))) (all_channels state)
      (each_so (λ id. is_there tree.channels id ≡ true)
      (λ id. is_told_gone top tree cut id ≡ (not (is_there cut.channels id) && (is_temporary tree.channels id || is_there cut.channels (parent_of tree id)))) told_is (all_channels state)
      (ids_there tree.channels)))

-- ---- another edit takes away the channel that it empties

-- the channel that an edit may empty was temporary before it
around_temporary : (state : StateValue) (session : SessionId) (top : ChannelId) → temporary_around state session ≡ Some top → is_temporary state.tree.channels top ≡ true
around_temporary state session top = of_user (session_of state.roster session)
  where
    of_user : (found : Option User)
        → option_and_then (λ user. cond {A = Option ChannelId} (is_temporary state.tree.channels user.channel) (Some user.channel) None) found ≡ Some top
        → is_temporary state.tree.channels top ≡ true
    of_user None is = cc
    of_user (Some user) is = step (is_temporary state.tree.channels user.channel) refl is
      where
        step : (b : Bool) → is_temporary state.tree.channels user.channel ≡ b → cond {A = Option ChannelId} b (Some user.channel) None ≡ Some top → is_temporary state.tree.channels top ≡ true
        step true kind same = let own : user.channel ≡ top = cc in ap (is_temporary state.tree.channels) (sym own) ∙ kind
        step false kind same = cc

left_temporary : (state : StateValue) (edit : Edit) (top : ChannelId) → left_by state edit ≡ Some top → is_temporary state.tree.channels top ≡ true
left_temporary state (Leave session) top is = around_temporary state session top is
left_temporary state (Kick session actor reason ban) top is = around_temporary state session top is
left_temporary state (MakeChannel id parent name true info (Some maker)) top is = around_temporary state maker top is
left_temporary state (MakeChannel id parent name true info None) top is = cc
left_temporary state (MakeChannel id parent name false info maker) top is = cc
left_temporary state (SetUser session actor (Some channel) mute deaf clear_suppress priority self_mute self_deaf recording comment context listen unlisten) top is =
    around_temporary state session top is
left_temporary state (SetUser session actor None mute deaf clear_suppress priority self_mute self_deaf recording comment context listen unlisten) top is = cc
left_temporary state edit top is = cc

nothing_gone : (state : StateValue) (tree : TreeState) (ids : List ChannelId) → Each (λ id. is_there tree.channels id ≡ true) ids
    → filter (λ id. not (is_there tree.channels id) && (is_temporary state.tree.channels id || is_there tree.channels (parent_of state.tree id))) ids ≡ []
nothing_gone state tree [] all = refl
nothing_gone state tree (id ∷ ids) all = rw all.0 (nothing_gone state tree ids all.1)

module _ (state set : StateValue) (tree : TreeState) (proper : IsProper state) (set_proper : IsProper set)
    (stays : (id : ChannelId) → is_there state.tree.channels id ≡ true → is_there set.tree.channels id ≡ true) where
  abbrev gone_in : TreeState → ChannelId → Bool
  gone_in later id = not (is_there later.channels id) && (is_temporary state.tree.channels id || is_there later.channels (parent_of state.tree id))

  all_stay : (later : TreeState) → later ≡ set.tree → filter (gone_in later) (all_channels state) ≡ []
  all_stay later same =
      nothing_gone state later (all_channels state)
      (each_so (λ id. is_there state.tree.channels id ≡ true) (λ id. is_there later.channels id ≡ true)
      (λ id there. ap (λ (one : TreeState). is_there one.channels id) same ∙ stays id there) (all_channels state) (ids_there state.tree.channels))

  module _ (top : ChannelId) (kind : is_temporary set.tree.channels top ≡ true) (was : is_temporary state.tree.channels top ≡ true) where
    abbrev cut_off : TreeState
    cut_off = without_subtree set.tree top

    there_still : (id : ChannelId) → is_there state.tree.channels id ≡ true → is_there cut_off.channels id ≡ not (id.0 == top.0)
    there_still id there =
        there_without_subtree set.tree top id ∙ ap (λ (b : Bool). b && not (is_below set.tree.channels top id)) (stays id there)
        ∙ ap not (alone set.tree top set_proper.tree kind id (stays id there))

    goes_alone : (id : ChannelId) → is_there state.tree.channels id ≡ true → gone_in cut_off id ≡ (id.0 == top.0)
    goes_alone id there = step (id.0 == top.0) refl
      where
        on_not : (b : Bool) → not (not b) ≡ b
        on_not true = refl
        on_not false = refl

        step : (b : Bool) → (id.0 == top.0) ≡ b → gone_in cut_off id ≡ b
        step true same =
            let own : is_temporary state.tree.channels id ≡ true = ap (is_temporary state.tree.channels) (same_channel id top (eqb-true id.0 top.0 same)) ∙ was in
            rw (there_still id there, same, own) refl
        step false other = rw (there_still id there, other) refl

    only_top : filter (λ (id : ChannelId). id.0 == top.0) (all_channels state) ≡ top ∷ []
    only_top =
        rising_same (filter (λ (id : ChannelId). id.0 == top.0) (all_channels state)) (top ∷ [])
        (Rises-filter is_lower (λ (id : ChannelId). id.0 == top.0) (all_channels state) (rows_rise state.tree.channels proper.tree.rise)) (tt, tt)
        (λ id. among_kept (λ (one : ChannelId). one.0 == top.0) (all_channels state) id ∙ same id)
      where
        listed : (id : ChannelId) → (id.0 == top.0) ≡ true → is_among (all_channels state) id ≡ true
        listed id is =
            any_mapped (λ (one : ChannelId). one.0 == id.0) (λ (row : Row). row.channel.id) state.tree.channels ∙ sym (some_found (λ (row : Row). number row == id.0) state.tree.channels)
            ∙ ap (is_there state.tree.channels) (same_channel id top (eqb-true id.0 top.0 is)) ∙ temporary_there state.tree.channels top was

        same : (id : ChannelId) → (is_among (all_channels state) id && (id.0 == top.0)) ≡ is_among (top ∷ []) id
        same id = step (id.0 == top.0) refl
          where
            none : (b : Bool) → (b && false) ≡ false
            none true = refl
            none false = refl

            step : (b : Bool) → (id.0 == top.0) ≡ b → (is_among (all_channels state) id && b) ≡ ((top.0 == id.0) || false)
            step true is =
                ap (λ (b : Bool). b && true) (listed id is) ∙ sym (ap (λ (b : Bool). b || false) (eq-eqb top.0 id.0 (sym (eqb-true id.0 top.0 is))))
            step false is = none (is_among (all_channels state) id) ∙ sym (ap (λ (b : Bool). b || false) (apart_sym id.0 top.0 is))

    top_gone : filter (λ id. not (is_there cut_off.channels id)) (top ∷ []) ≡ top ∷ []
    top_gone = rw (there_still top (temporary_there state.tree.channels top was), eq-eqb top.0 top.0 refl) refl

    top_goes : filter (λ id. not (is_there cut_off.channels id)) (top ∷ []) ≡ filter (gone_in cut_off) (all_channels state)
    top_goes =
        top_gone ∙ sym only_top
        ∙ sym (filter_each (gone_in cut_off) (λ (id : ChannelId). id.0 == top.0) (all_channels state)
        (each_so (λ id. is_there state.tree.channels id ≡ true) (λ id. gone_in cut_off id ≡ (id.0 == top.0)) goes_alone (all_channels state) (ids_there state.tree.channels)))

  emptied_are : (left : Option ChannelId) → ((top : ChannelId) → left ≡ Some top → is_temporary set.tree.channels top ≡ true)
      → ((top : ChannelId) → left ≡ Some top → is_temporary state.tree.channels top ≡ true) → tree ≡ (with_left_closed left set).tree
      → filter (λ id. not (is_there tree.channels id)) (given left) ≡ filter (gone_in tree) (all_channels state)
  emptied_are None kind was is = sym (all_stay tree is)
  emptied_are (Some top) kind was is = step (has_member set.roster.sessions top) is
    where
      step : (b : Bool) → tree ≡ (cond b set (with_tree set (without_subtree set.tree top))).tree
          → filter (λ id. not (is_there tree.channels id)) (top ∷ []) ≡ filter (gone_in tree) (all_channels state)
      step true same =
          let there : is_there tree.channels top ≡ true =
          ap (λ (one : TreeState). is_there one.channels top) same ∙ stays top (temporary_there state.tree.channels top (was top refl)) in
          ap (λ (b : Bool). cond (not b) (top ∷ []) []) there ∙ sym (all_stay tree same)
      step false cut =
          subst (λ (one : TreeState). filter (λ id. not (is_there one.channels id)) (top ∷ []) ≡ filter (gone_in one) (all_channels state)) (sym cut)
          (top_goes top (kind top refl) (was top refl))

-- no edit but a removal takes a channel away at once
set_there : (state : StateValue) (edit : Edit) (id : ChannelId) → IsProper state → fits state edit ≡ true → IsNoRemoval edit → is_there state.tree.channels id ≡ true
    → is_there (set_by state edit).tree.channels id ≡ true
set_there state (MakeChannel new parent name temporary info maker) id proper fit never there = step (id.0 == new.0) refl
  where
    step : (b : Bool) → (id.0 == new.0) ≡ b → is_there (set_by state (MakeChannel new parent name temporary info maker)).tree.channels id ≡ true
    step true same =
        absurd (both_ways (is_there state.tree.channels new) (ap is_some (never_there state new parent name temporary info maker proper fit))
        (ap (is_there state.tree.channels) (sym (same_channel id new (eqb-true id.0 new.0 same))) ∙ there))
    step false other =
        ap (λ (tree : TreeState). is_there tree.channels id) (tree_made state new parent name temporary info maker) ∙ ap is_some (other_made state new parent name temporary info id other) ∙ there
set_there state (EditChannel other actor name parent description position max_users links_add links_remove) id proper fit never there =
    still_given state.tree.channels other (channel_parts name parent description position max_users links_add links_remove) id there
set_there state (RemoveChannel top actor) id proper fit never there = absurd never
set_there state edit id proper fit never there = there

gone_are : (state : StateValue) (edit : Edit) → IsProper state → fits state edit ≡ true → channels_gone state edit (applied state edit) ≡ filter (is_gone state (applied state edit)) (all_channels state)
gone_are state (RemoveChannel top actor) proper fit = removed_are state top actor proper fit
gone_are state edit proper fit =
    gone_is state edit (applied state edit) tt
    ∙ emptied_are state (set_by state edit) (applied state edit).tree proper (fit_proper state edit proper fit).0 (λ id there. set_there state edit id proper fit tt there) (left_by state edit)
    (left_alone state edit proper).temporary (left_temporary state edit) (applied_tree state edit proper fit)

-- what is sent of channels that are gone is what is due
pub gone_due : (state : StateValue) (edit : Edit) → IsProper state → fits state edit ≡ true
    → AreExactly (all_to_each (applied state edit).roster.sessions (map (λ id. channel_gone_frame (channel_gone id)) (channels_gone state edit (applied state edit))))
    (gone_channels state (applied state edit))
gone_due state edit proper fit =
    let after : StateValue = applied state edit in
    subst (λ (ids : List ChannelId). AreExactly (all_to_each after.roster.sessions (map (λ id. channel_gone_frame (channel_gone id)) (channels_gone state edit after)))
    (due_to_all after (map (λ id. AboutChannelGone (Some id.0)) ids))) (gone_are state edit proper fit)
    (exactly_to_all after (λ id. channel_gone_frame (channel_gone id)) (λ id. OfChannelGone (channel_gone id)) (λ id. channel_gone_framed (channel_gone id)) (channels_gone state edit after))
