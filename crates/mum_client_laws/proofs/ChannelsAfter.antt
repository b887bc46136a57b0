-- Whoever knew the channels and links before an edit and got its messages on channels knows them after it.
use Rattle.mum_client_laws.proofs.Common.{◌≡◌, ◌<◌, ℕ, ℤ, ◌==◌, ◌&&◌, ◌||◌, Bool, true, false, not, cond, pos, List, [], ◌∷◌, ◌++◌, map, Option, Some, None, refl, ap, sym, ◌∙◌, subst, arith, inl, filter, flat_map, list_any, is_some, option_map, option_map_or, unwrap_or, int_eq, fun_ext, and_parts, both_ways, eq-eqb, eqb-true, ltb-true, ne_eqb, or_parts, ⊤, Decides-int_eq, is_among, ChannelId, SessionId, ROOT, ChannelState, Change, with_given, least_place, is_root, is_there, number, row_of, TreeState, are_linked, new_row, partners, with_info, with_new, without_subtree, Channel, ChannelInfo, Row, is_in, number_found, row_of-map, row_of_last, row_of_old, applied, has_member, fits, left_by, with_left_closed, given, channel_parts, IsProper, set_by, with_tree, StateValue, Edit, EditChannel, MakeChannel, RemoveChannel, SetTarget, fit_parts, fit_proper, each_any, each_passes, alone, IsLeftAlone, left_alone, there_known, channel_changes_told, channel_difference, channel_of, channel_told, edited_channels, new_channels_told, said_unless, channels_gone, same_channel, applied_tree, apart_sym, changed_number, other_channels_stand_lem, channel_heard, channels_heard, has_place, plain_channel, Channels, KnownChannel, numbered_channel, public_channel}
use Rattle.mum_client_laws.proofs.{ChannelsTold.channel_apart, ChannelsTold.channel_own, ChannelsTold.differences_at, ChannelsTold.none_told, Closing.IsKnownTree, Closing.channels_of, Closing.found_or_none, Closing.gone_channels, Closing.gone_links, Closing.known_there, Closing.left_closes, Closing.linked_there, Closing.links_of, Closing.row_without, Folded.told_channels, Folded.told_links, Linked.partner_is, LinksTold.absent_unlinked, LinksTold.all_links, LinksTold.no_links_told, Lists.any_kept, Reported.said_known, Reported.text_known}

-- ---- a channel of which all is said

temporary_known : (flag : Bool) → unwrap_or (said_unless (not flag) flag) false ≡ flag
temporary_known true = refl
temporary_known false = refl

-- of the root no parent is said
pub made_heard : (channel : Channel) → (is_root channel.id ≡ true → channel.parent.0 ≡ ROOT.0) → channel_heard (channel_told channel) plain_channel ≡ public_channel channel
made_heard channel root = λ i. record {
  parent = said_known (is_root channel.id) ROOT.0 channel.parent.0 (λ is. sym (root is)) i;
  name = channel.name;
  temporary = temporary_known channel.temporary i;
  description = text_known channel.info.description i;
  position = said_known (int_eq channel.info.position (pos 0)) (pos 0) channel.info.position (λ is. sym ((Decides-int_eq channel.info.position (pos 0)).0 is)) i;
  max_users = said_known (channel.info.max_users == 0) 0 channel.info.max_users (λ is. sym (eqb-true channel.info.max_users 0 is)) i;
}

-- it is said where its parent is known, or it is the root
pub made_at : (channel : Channel) (channels : Channels) → channels channel.id.0 ≡ None → (is_root channel.id ≡ true → channel.parent.0 ≡ ROOT.0)
    → (is_root channel.id ≡ false → is_some (channels channel.parent.0) ≡ true)
    → channels_heard (channel_told channel) channels channel.id.0 ≡ Some (public_channel channel)
made_at channel channels none root placed =
    channel_own (channel_told channel) channels channel.id.0 refl
    ∙ ap (λ (found : Option KnownChannel). option_map_or (λ was. Some (channel_heard (channel_told channel) was)) found
    (cond (has_place channels channel.id.0 (channel_told channel)) (Some (channel_heard (channel_told channel) plain_channel)) None)) none
    ∙ ap (λ (b : Bool). cond b (Some (channel_heard (channel_told channel) plain_channel)) None) (place (is_root channel.id) refl)
    ∙ ap (λ (known : KnownChannel). Some known) (made_heard channel root)
  where
    place : (b : Bool) → is_root channel.id ≡ b → (b || option_map_or (λ parent. is_some (channels parent)) (said_unless b channel.parent.0) false) ≡ true
    place true is = refl
    place false is = placed is

-- ---- an edit that makes a channel

module _ (state : StateValue) (id parent : ChannelId) (name : List ℕ) (temporary : Bool) (info : ChannelInfo) where
  abbrev grown : List Row
  grown = state.tree.channels ++ new_row (least_place state.tree.channels) id parent name temporary ∷ []

  abbrev described : Row → Row
  described row = cond (number row == id.0) (record row { channel = record row.channel { info = info } }) row

  abbrev made_tree : TreeState
  made_tree = with_info (with_new state.tree id parent name temporary) id info

  abbrev made : Channel
  made = record { id = id; parent = parent; name = name; temporary = temporary; info = info }

  row_made : (at : ChannelId) → row_of made_tree.channels at ≡ option_map described (row_of grown at)
  row_made at = row_of-map described (changed_number id (λ channel. record channel { info = info }) (λ channel. refl)) grown at

  pub other_made : (at : ChannelId) → (at.0 == id.0) ≡ false → row_of made_tree.channels at ≡ row_of state.tree.channels at
  other_made at apart = row_made at ∙ of_row (row_of state.tree.channels at) refl
    where
      of_row : (found : Option Row) → row_of state.tree.channels at ≡ found → option_map described (row_of grown at) ≡ found
      of_row None none =
          ap (option_map described) (row_of_last state.tree.channels (new_row (least_place state.tree.channels) id parent name temporary) at none
          ∙ ap (λ (b : Bool). cond {A = Option Row} b (Some (new_row (least_place state.tree.channels) id parent name temporary)) None) (apart_sym at.0 id.0 apart))
      of_row (Some row) there =
          ap (option_map described) (row_of_old state.tree.channels (new_row (least_place state.tree.channels) id parent name temporary) at row there)
          ∙ ap (λ (b : Bool). Some (cond b (record row { channel = record row.channel { info = info } }) row)) (ap (λ n. n == id.0) (number_found state.tree.channels at row there) ∙ apart)

  own_row : row_of state.tree.channels id ≡ None
      → row_of made_tree.channels id ≡ Some (record (new_row (least_place state.tree.channels) id parent name temporary) { channel = made })
  own_row none =
      row_made id
      ∙ ap (option_map described)
      (row_of_last state.tree.channels (new_row (least_place state.tree.channels) id parent name temporary) id none
      ∙ ap (λ (b : Bool). cond {A = Option Row} b (Some (new_row (least_place state.tree.channels) id parent name temporary)) None) (eq-eqb id.0 id.0 refl))
      ∙ ap (λ (b : Bool). Some (cond b (record (new_row (least_place state.tree.channels) id parent name temporary) { channel = made }) (new_row (least_place state.tree.channels) id parent name temporary)))
      (eq-eqb id.0 id.0 refl)

  pub tree_made : (maker : Option SessionId) → (set_by state (MakeChannel id parent name temporary info maker)).tree ≡ made_tree
  tree_made None = refl
  tree_made (Some maker) = either temporary _ _ refl refl
    where
      either : (b : Bool) (one other : StateValue) → one.tree ≡ made_tree → other.tree ≡ made_tree → (cond b one other).tree ≡ made_tree
      either true one other same also = same
      either false one other same also = also

-- who is in a channel is in one that is there
member_there : (state : StateValue) (top : ChannelId) → IsProper state → has_member state.roster.sessions top ≡ true → is_there state.tree.channels top ≡ true
member_there state top proper member =
    each_any (λ user. is_there state.tree.channels user.channel ≡ true) (is_there state.tree.channels top ≡ true) (is_in top)
    (λ user there is. ap (is_there state.tree.channels) (sym (same_channel user.channel top (eqb-true user.channel.0 top.0 is))) ∙ there)
    state.roster.sessions (each_passes (λ user. is_there state.tree.channels user.channel) state.roster.sessions proper.inside) member

-- a channel that was not there is none that the edit leaves empty
row_stays : (state : StateValue) (set : StateValue) (left : Option ChannelId) (tree : TreeState) (id : ChannelId) → IsProper state → IsProper set
    → IsLeftAlone state.roster.sessions set.roster.sessions set.tree.channels left → tree ≡ (with_left_closed left set).tree
    → is_there state.tree.channels id ≡ false → is_there set.tree.channels id ≡ true → row_of tree.channels id ≡ row_of set.tree.channels id
row_stays state set None tree id proper set_proper alone_in is none there = ap (λ (one : TreeState). row_of one.channels id) is
row_stays state set (Some top) tree id proper set_proper alone_in is none there = step (has_member set.roster.sessions top) is
  where
    step : (b : Bool) → tree ≡ (cond b set (with_tree set (without_subtree set.tree top))).tree → row_of tree.channels id ≡ row_of set.tree.channels id
    step true same = ap (λ (one : TreeState). row_of one.channels id) same
    step false cut =
        let was_there : is_there state.tree.channels top ≡ true = member_there state top proper (alone_in.member top refl) in
        let apart : (id.0 == top.0) ≡ false =
        ne_eqb id.0 top.0 (λ (same : id.0 ≡ top.0). absurd (both_ways (is_there state.tree.channels id) none (ap (is_there state.tree.channels) (same_channel id top same) ∙ was_there))) in
        ap (λ (one : TreeState). row_of one.channels id) cut ∙ row_without set.tree top id
        ∙ ap (λ (b : Bool). cond b None (row_of set.tree.channels id)) (alone set.tree top set_proper.tree (alone_in.temporary top refl) id there ∙ apart)

absent_new : (state : StateValue) (id : ChannelId) → IsProper state → state.tree.greatest < id.0 → is_there state.tree.channels id ≡ false
absent_new state id proper above = step (is_there state.tree.channels id) refl
  where
    step : (b : Bool) → is_there state.tree.channels id ≡ b → b ≡ false
    step true there = let known = there_known state.tree id proper.tree there in absurd (omega arith)
    step false there = refl

module _ (state : StateValue) (id parent : ChannelId) (name : List ℕ) (temporary : Bool) (info : ChannelInfo) (maker : Option SessionId)
    (proper : IsProper state) (fit : fits state (MakeChannel id parent name temporary info maker) ≡ true) where
  abbrev making : Edit
  making = MakeChannel id parent name temporary info maker

  abbrev with_it : StateValue
  with_it = set_by state (MakeChannel id parent name temporary info maker)

  abbrev new_channel : Channel
  new_channel = record { id = id; parent = parent; name = name; temporary = temporary; info = info }

  above : state.tree.greatest < id.0
  above = ltb-true state.tree.greatest id.0 (fit_parts state making fit).numbers

  pub never_there : row_of state.tree.channels id ≡ None
  never_there = found_or_none (row_of state.tree.channels id) (absent_new state id proper above)

  set_row : row_of with_it.tree.channels id ≡ Some (record (new_row (least_place state.tree.channels) id parent name temporary) { channel = new_channel })
  set_row = ap (λ (tree : TreeState). row_of tree.channels id) (tree_made state id parent name temporary info maker) ∙ own_row state id parent name temporary info never_there

  pub is_made : channel_of (applied state making).tree id ≡ Some new_channel
  is_made =
      ap (option_map (λ (row : Row). row.channel))
      (row_stays state with_it (left_by state making) (applied state making).tree id proper (fit_proper state making proper fit).0 (left_alone state making proper)
      (applied_tree state making proper fit) (absent_new state id proper above) (ap is_some set_row) ∙ set_row)

  made_told : new_channels_told (applied state making) making ++ channel_changes_told state making (applied state making) ≡ channel_told new_channel ∷ []
  made_told = ap (λ (found : Option Channel). map channel_told (given found) ++ []) is_made

  not_root : is_root id ≡ true → parent.0 ≡ ROOT.0
  not_root is = let zero : id.0 ≡ 0 = eqb-true id.0 ROOT.0 is in absurd (omega (arith, zero, above))

  parent_there : is_some (channels_of state.tree parent.0) ≡ true
  parent_there =
      let named = and_parts _ _ (and_parts _ _ (fit_parts state making fit).named).0 in
      known_there state.tree parent ∙ (and_parts (is_there state.tree.channels parent) _ named.1).0

  made_channels : (at : ℕ) → channels_heard (channel_told new_channel) (channels_of state.tree) at ≡ channels_of (made_tree state id parent name temporary info) at
  made_channels at = step (at == id.0) refl
    where
      step : (b : Bool) → (at == id.0) ≡ b → channels_heard (channel_told new_channel) (channels_of state.tree) at ≡ channels_of (made_tree state id parent name temporary info) at
      step true is =
          subst (λ n. channels_heard (channel_told new_channel) (channels_of state.tree) n ≡ channels_of (made_tree state id parent name temporary info) n) (sym (eqb-true at id.0 is))
          (made_at new_channel (channels_of state.tree) (ap (option_map (λ (row : Row). public_channel row.channel)) never_there) not_root (λ _. parent_there)
          ∙ sym (ap (option_map (λ (row : Row). public_channel row.channel)) (own_row state id parent name temporary info never_there)))
      step false is =
          channel_apart (channel_told new_channel) (channels_of state.tree) at id.0 refl is
          ∙ sym (ap (option_map (λ (row : Row). public_channel row.channel)) (other_made state id parent name temporary info (numbered_channel at) is))

  made_known : IsKnownTree with_it.tree (told_channels (new_channels_told (applied state making) making ++ channel_changes_told state making (applied state making)) (channels_of state.tree))
      (told_links (new_channels_told (applied state making) making ++ channel_changes_told state making (applied state making)) (links_of state.tree))
  made_known =
      rw (made_told, tree_made state id parent name temporary info maker)
      (record { channels_are = fun_ext made_channels; links_are = fun_ext (λ one. fun_ext (λ other. no_links_told (channel_told new_channel) (links_of state.tree) one other refl refl refl)) })

-- ---- an edit of a channel

pub any_first : {X : Type 0} (p q : X → Bool) (xs : List X) → list_any (λ x. p x || q x) xs ≡ false → list_any p xs ≡ false
any_first p q [] none = refl
any_first p q (x ∷ xs) none =
    let (here, later) = or_parts (p x || q x) (list_any (λ y. p y || q y) xs) none in
    ap (λ (b : Bool). b || list_any p xs) (or_parts (p x) (q x) here).0 ∙ any_first p q xs later

module _ (state : StateValue) (id : ChannelId) (actor : Option SessionId) (name : Option (List ℕ)) (parent : Option ChannelId) (description : Option (List ℕ))
    (position : Option ℤ) (max_users : Option ℕ) (links_add links_remove : List ChannelId)
    (proper : IsProper state) (fit : fits state (EditChannel id actor name parent description position max_users links_add links_remove) ≡ true) where
  abbrev alteration : Edit
  alteration = EditChannel id actor name parent description position max_users links_add links_remove

  abbrev change : Change
  change = channel_parts name parent description position max_users links_add links_remove

  abbrev later_tree : TreeState
  later_tree = (applied state alteration).tree

  abbrev ids : List ChannelId
  ids = edited_channels alteration

  abbrev edited : Row → Row
  edited row = cond (number row == id.0) (record row { channel = with_given change row.channel }) row

  tree_set : later_tree ≡ (set_by state alteration).tree
  tree_set = applied_tree state alteration proper fit

  row_edited : (at : ChannelId) → row_of later_tree.channels at ≡ option_map edited (row_of state.tree.channels at)
  row_edited at =
      ap (λ (tree : TreeState). row_of tree.channels at) tree_set
      ∙ row_of-map edited (changed_number id (with_given change) (λ channel. refl)) state.tree.channels at

  same_channels : (at : ChannelId) → is_some (channel_of later_tree at) ≡ is_some (channel_of state.tree at)
  same_channels at = ap (λ (found : Option Row). is_some (option_map (λ (row : Row). row.channel) found)) (row_edited at) ∙ of_row (row_of state.tree.channels at)
    where
      of_row : (found : Option Row) → is_some (option_map (λ (row : Row). row.channel) (option_map edited found)) ≡ is_some (option_map (λ (row : Row). row.channel) found)
      of_row None = refl
      of_row (Some row) = refl

  pub same_there : (at : ChannelId) → is_there later_tree.channels at ≡ is_there state.tree.channels at
  same_there at = ap is_some (row_edited at) ∙ of_row (row_of state.tree.channels at)
    where
      of_row : (found : Option Row) → is_some (option_map edited found) ≡ is_some found
      of_row None = refl
      of_row (Some row) = refl

  edited_channels_known : (at : ChannelId) → told_channels (flat_map (channel_difference state.tree later_tree) ids) (channels_of state.tree) at.0 ≡ channels_of later_tree at.0
  edited_channels_known at = of_row (row_of state.tree.channels at) refl
    where
      of_row : (found : Option Row) → row_of state.tree.channels at ≡ found
          → told_channels (flat_map (channel_difference state.tree later_tree) ids) (channels_of state.tree) at.0 ≡ channels_of later_tree at.0
      of_row None there =
          none_told state.tree later_tree at (ap (option_map (λ (row : Row). row.channel)) there) ids (channels_of state.tree) (ap (option_map (λ (row : Row). public_channel row.channel)) there)
          ∙ sym (ap (option_map (λ (row : Row). public_channel row.channel)) (row_edited at ∙ ap (option_map edited) there))
      of_row (Some row) there =
          let old : channel_of state.tree at ≡ Some row.channel = ap (option_map (λ (one : Row). one.channel)) there in
          let now : row_of later_tree.channels at ≡ Some (edited row) = row_edited at ∙ ap (option_map edited) there in
          let fresh : channel_of later_tree at ≡ Some (edited row).channel = ap (option_map (λ (one : Row). one.channel)) now in
          differences_at state.tree later_tree at row.channel (edited row).channel old fresh (lasting (number row == id.0)) ids (channels_of state.tree) (public_channel row.channel) (inl refl)
          (ap (option_map (λ (one : Row). public_channel one.channel)) there)
          ∙ by_list (is_among ids at) refl old fresh ∙ sym (ap (option_map (λ (one : Row). public_channel one.channel)) now)
        where
          lasting : (b : Bool) → row.channel.temporary ≡ (cond b (record row { channel = with_given change row.channel }) row).channel.temporary
          lasting true = refl
          lasting false = refl

          by_list : (b : Bool) → is_among ids at ≡ b → channel_of state.tree at ≡ Some row.channel → channel_of later_tree at ≡ Some (edited row).channel
              → Some (cond b (public_channel (edited row).channel) (public_channel row.channel)) ≡ Some (public_channel (edited row).channel)
          by_list true among old fresh = refl
          by_list false among old fresh =
              ap (λ (channel : Channel). Some (public_channel channel)) (other_channels_stand_lem state alteration at row.channel (edited row).channel proper fit among old fresh).0

  untouched_links : (one other : ChannelId) → is_among ids one ≡ false → are_linked state.tree one other ≡ are_linked later_tree one other
  untouched_links one other among = of_row (row_of state.tree.channels one) refl
    where
      after_proper : IsProper (applied state alteration)
      after_proper = (fit_proper state alteration proper fit).1

      stays : (b : Bool) → are_linked state.tree one other ≡ b → b ≡ (b && is_there later_tree.channels other)
      stays true is = sym (same_there other ∙ (linked_there state.tree one other proper.tree is).1)
      stays false is = refl

      of_row : (found : Option Row) → row_of state.tree.channels one ≡ found → are_linked state.tree one other ≡ are_linked later_tree one other
      of_row None there =
          absent_unlinked state.tree one other proper.tree (ap is_some there)
          ∙ sym (absent_unlinked later_tree one other after_proper.tree (same_there one ∙ ap is_some there))
      of_row (Some row) there =
          let stands = (other_channels_stand_lem state alteration one row.channel (edited row).channel proper fit among (ap (option_map (λ (own : Row). own.channel)) there)
          (ap (option_map (λ (own : Row). own.channel)) (row_edited one ∙ ap (option_map edited) there))).1 in
          stays (are_linked state.tree one other) refl
          ∙ ap (λ (b : Bool). b && is_there later_tree.channels other) (sym (partner_is state.tree one other))
          ∙ sym (any_kept (λ (id : ChannelId). id.0 == other.0) (is_there later_tree.channels) (is_there later_tree.channels other)
          (λ id is. ap (is_there later_tree.channels) (same_channel id other (eqb-true id.0 other.0 is))) (partners state.tree one))
          ∙ ap (λ (all : List ChannelId). is_among all other) (sym stands) ∙ partner_is later_tree one other

  edited_links_known : (one other : ChannelId) → told_links (flat_map (channel_difference state.tree later_tree) ids) (links_of state.tree) one.0 other.0 ≡ are_linked later_tree one other
  edited_links_known one other =
      all_links state.tree later_tree proper.tree (fit_proper state alteration proper fit).1.tree same_channels one other ids (links_of state.tree) (inl refl)
      ∙ step (list_any (λ (at : ChannelId). (at.0 == one.0) || (at.0 == other.0)) ids) refl
    where
      step : (b : Bool) → list_any (λ (at : ChannelId). (at.0 == one.0) || (at.0 == other.0)) ids ≡ b → cond b (are_linked later_tree one other) (are_linked state.tree one other) ≡ are_linked later_tree one other
      step true touched = refl
      step false touched = untouched_links one other (any_first (λ (at : ChannelId). at.0 == one.0) (λ at. at.0 == other.0) ids touched)

  edited_known : IsKnownTree (set_by state alteration).tree (told_channels (flat_map (channel_difference state.tree later_tree) ids) (channels_of state.tree))
      (told_links (flat_map (channel_difference state.tree later_tree) ids) (links_of state.tree))
  edited_known =
      subst (λ (tree : TreeState). IsKnownTree tree (told_channels (flat_map (channel_difference state.tree later_tree) ids) (channels_of state.tree)) (told_links (flat_map (channel_difference state.tree later_tree) ids) (links_of state.tree)))
      tree_set
      (record {
        channels_are = fun_ext (λ at. edited_channels_known (numbered_channel at));
        links_are = fun_ext (λ one. fun_ext (λ other. edited_links_known (numbered_channel one) (numbered_channel other)));
      })

-- ---- any edit but a removal

abbrev pub IsNoRemoval : Edit → Type 0
IsNoRemoval (RemoveChannel id actor) = ⊥
IsNoRemoval edit = ⊤

set_known : (state : StateValue) (edit : Edit) → IsProper state → fits state edit ≡ true → IsNoRemoval edit
    → IsKnownTree (set_by state edit).tree (told_channels (new_channels_told (applied state edit) edit ++ channel_changes_told state edit (applied state edit)) (channels_of state.tree))
    (told_links (new_channels_told (applied state edit) edit ++ channel_changes_told state edit (applied state edit)) (links_of state.tree))
set_known state (MakeChannel id parent name temporary info maker) proper fit never = made_known state id parent name temporary info maker proper fit
set_known state (EditChannel id actor name parent description position max_users links_add links_remove) proper fit never =
    edited_known state id actor name parent description position max_users links_add links_remove proper fit
set_known state (RemoveChannel id actor) proper fit never = absurd never
set_known state (SetTarget session id target) proper fit never = record { channels_are = refl; links_are = refl }
set_known state edit proper fit never = record { channels_are = refl; links_are = refl }

pub gone_is : (before : StateValue) (edit : Edit) (after : StateValue) → IsNoRemoval edit → channels_gone before edit after ≡ filter (λ id. not (is_there after.tree.channels id)) (given (left_by before edit))
gone_is before (RemoveChannel id actor) after never = absurd never
gone_is before edit after never = refl

pub channels_known : (state : StateValue) (edit : Edit) → IsProper state → fits state edit ≡ true → IsNoRemoval edit
    → let told : List ChannelState = new_channels_told (applied state edit) edit ++ channel_changes_told state edit (applied state edit) in
    let ids : List ChannelId = channels_gone state edit (applied state edit) in
    IsKnownTree (applied state edit).tree (gone_channels ids (told_channels told (channels_of state.tree))) (gone_links ids (told_channels told (channels_of state.tree)) (told_links told (links_of state.tree)))
channels_known state edit proper fit never =
    let known = set_known state edit proper fit never in
    rw (gone_is state edit (applied state edit) never, known.channels_are, known.links_are)
    (left_closes (set_by state edit) (left_by state edit) (applied state edit).tree (fit_proper state edit proper fit).0 (left_alone state edit proper).temporary (applied_tree state edit proper fit))
