-- What a message on channels changes of channels is permitted.
use Rattle.mum_rights_laws.proofs.Common.{◌≡◌, ◌≢◌, ℕ, ℤ, ◌==◌, ◌&&◌, ◌||◌, not, Bool, true, false, true≢false, cond, List, [], ◌∷◌, ◌++◌, length, map, Option, Some, None, refl, ap, sym, ◌∙◌, subst, inl, inr, ⊎_elim, ◌⊎◌, arith, All, Contains, filter, find, list_any, is_some, option_map, option_map_or, option_or, bytes_eq, and_from, and_parts, cases_Bool, eqb-true, ne_eqb, or_parts, nat_tests, All-contains_itself, All-head, All-tail, find-append, ChannelId, SessionId, ROOT, LINK_CHANNEL, MAKE_CHANNEL, MAKE_TEMP_CHANNEL, WRITE, ChannelState, ChannelPolicy, given_or, pairs_with_all, with_change, with_given, name_of, is_below, is_there, number, row_of, Pair, are_linked, without_subtree, Channel, ChannelInfo, Row, change_row, row_of-map, pair_is, there_after, User, applied, has_member, fits, is_empty, actor_from, IsProper, set_by, set_policy, PolicyRow, StateValue, open_policy, policy_of, policy_row, Edit, RemoveChannel, SetAcl, Each, each_any, each_both, each_filter, each_from_all, each_map, found_passes, fit_proper, Command, change_asked, channel, channel_or_root, describes, given_unless, is_other, is_to_be_temporary, linked_others, new_parent, others, parent_of_new, need, AllMet, new_number, needs, needs_to_describe, needs_to_link, needs_to_move, edit_to_change, edit_to_make, policy_asked, TreeMessage, Acl, Remove, State, AsksToLink, ChannelsStayWhatTheyAre, DescribedWherePermitted, IsRemoved, LinkedWherePermitted, MadeWherePermitted, PlacedWherePermitted, RemovedWherePermitted, RuledWherePermitted, may, IsEmptied, LinkedAsBefore, OfLasting, AsksForPolicy, AsksToChange, AsksToRemove, OfTreeCommands}
use Rattle.mum_tree.specs.State.{is_pair}
use Rattle.mum_rights_laws.proofs.{Altered.altered, Altered.altered_as, Altered.changed_number, Altered.made_comes, Altered.maker_policies, Altered.maker_tree, Altered.not_the_root, Altered.number_is, Altered.policy_none, Altered.removed_as, Kept.any_kept, Kept.found_kept, Kept.found_mapped, LinkedPairs.touches, LinkedPairs.with_all, LinkedPairs.without_all, Needed.each_had, Needed.had, Needed.met_left, Needed.met_right, Needed.met_tail, Settled.emptied, Settled.lasting, Settled.linked, Settled.ruled, Settled.same_channel, TreeKinds.IsKind, TreeKinds.changes, TreeKinds.makes, TreeKinds.removes, TreeKinds.rules, TreeKinds.tree_edit}

-- ---- what a change of a channel needs

not_empty : {X : Type 0} (x : X) (xs : List X) → is_empty (x ∷ xs) ≡ false
not_empty x xs = ne_eqb (length (x ∷ xs)) 0 (λ e. absurd (omega arith))

module _ (before : StateValue) (own : User) (id : ChannelId) (asked : ChannelState)
    (met : AllMet before (needs before.tree (actor_from before.tree own) (Command.edit id asked))) where
  who_needs : AllMet before (needs_to_describe (actor_from before.tree own) id asked ++ needs_to_move (actor_from before.tree own) id (new_parent before.tree id asked))
  who_needs =
      let who = actor_from before.tree own in
      met_left before (needs_to_describe who id asked ++ needs_to_move who id (new_parent before.tree id asked)) (needs_to_link who id (linked_others id asked)) met

  may_describe : describes asked ≡ true → may before own WRITE id ≡ true
  may_describe some =
      let who = actor_from before.tree own in
      had before own own.tokens WRITE id []
      (subst (λ (b : Bool). AllMet before (cond b (need who WRITE id ∷ []) [])) some
      (met_left before (needs_to_describe who id asked) (needs_to_move who id (new_parent before.tree id asked)) who_needs))

  may_place : (there : ChannelId) → new_parent before.tree id asked ≡ Some there → (may before own WRITE id && may before own MAKE_CHANNEL there) ≡ true
  may_place there new =
      let who = actor_from before.tree own in
      let both = subst (λ (o : Option ChannelId). AllMet before (needs_to_move who id o)) new
      (met_right before (needs_to_describe who id asked) (needs_to_move who id (new_parent before.tree id asked)) who_needs) in
      and_from (may before own WRITE id) (may before own MAKE_CHANNEL there)
      (had before own own.tokens WRITE id (need who MAKE_CHANNEL there ∷ []) both)
      (had before own own.tokens MAKE_CHANNEL there [] (met_tail before (need who WRITE id) (need who MAKE_CHANNEL there ∷ []) both))

  -- LinkChannel here and on each of these others
  may_link : (links : List ChannelId) → linked_others id asked ≡ links
      → Each (λ other. (may before own LINK_CHANNEL id ≡ true) × (may before own LINK_CHANNEL other ≡ true)) links
  may_link [] is = tt
  may_link (link ∷ links) is =
      let who = actor_from before.tree own in
      let all = each_had before own own.tokens LINK_CHANNEL (id ∷ link ∷ links)
      (subst (λ (b : Bool). AllMet before (cond b [] (map (need who LINK_CHANNEL) (id ∷ link ∷ links)))) (not_empty link links)
      (subst (λ (ls : List ChannelId). AllMet before (needs_to_link who id ls)) is
      (met_right before (needs_to_describe who id asked ++ needs_to_move who id (new_parent before.tree id asked)) (needs_to_link who id (linked_others id asked)) met))) in
      both (link ∷ links) (All-head (λ c. may before own LINK_CHANNEL c ≡ true) id (link ∷ links) all) (All-tail (λ c. may before own LINK_CHANNEL c ≡ true) id (link ∷ links) all)
    where
      both : (ls : List ChannelId) → may before own LINK_CHANNEL id ≡ true → All (λ c. may before own LINK_CHANNEL c ≡ true) ls
          → Each (λ other. (may before own LINK_CHANNEL id ≡ true) × (may before own LINK_CHANNEL other ≡ true)) ls
      both [] here all = tt
      both (l ∷ ls) here all =
          ((here, All-head (λ c. may before own LINK_CHANNEL c ≡ true) l ls all), both ls here (All-tail (λ c. may before own LINK_CHANNEL c ≡ true) l ls all))

-- ---- names, descriptions and parents

none_given : {X : Type 0} (o : Option X) → is_some o ≡ false → o ≡ None
none_given None off = refl
none_given (Some x) off = cc

abbrev info_given : Option (List ℕ) → Option ℤ → Option ℕ → ChannelInfo → ChannelInfo
info_given description position max_users was = record {
  description = given_or description was.description;
  position = given_or position was.position;
  max_users = given_or max_users was.max_users;
}

undescribed : (before : StateValue) (id : ChannelId) (asked : ChannelState) (was : Channel) → describes asked ≡ false
    → ((with_given (change_asked before.tree id asked) was).name ≡ was.name) × ((with_given (change_asked before.tree id asked) was).info ≡ was.info)
undescribed before id asked was off =
    let (three, max_users) = or_parts (is_some asked.name || is_some asked.description || is_some asked.position) (is_some asked.max_users) off in
    let (two, position) = or_parts (is_some asked.name || is_some asked.description) (is_some asked.position) three in
    let (name, description) = or_parts (is_some asked.name) (is_some asked.description) two in (
      ap (λ (o : Option (List ℕ)). given_or (given_unless (λ (one : List ℕ). bytes_eq one (name_of before.tree id)) o) was.name) (none_given asked.name name),
      ap (λ (o : Option (List ℕ)). info_given o asked.position asked.max_users was.info) (none_given asked.description description)
          ∙ ap (λ (o : Option ℤ). info_given None o asked.max_users was.info) (none_given asked.position position)
          ∙ ap (λ (o : Option ℕ). info_given None None o was.info) (none_given asked.max_users max_users),
    )

-- what a law of channels says of each edit, where the edit fits and its permissions are had
abbrev pub OfKinds : (StateValue → StateValue → User → TreeMessage → Type 0) → Type 0
OfKinds Holds =
    (before : StateValue) (actor : SessionId) (own : User) (message : TreeMessage) (edit : Edit) → IsProper before
    → IsKind before actor own message edit → fits before edit ≡ true → Holds before (applied before edit) own message

pub of_kinds : (Holds : StateValue → StateValue → User → TreeMessage → Type 0) → OfKinds Holds → OfTreeCommands Holds
of_kinds Holds each before actor message edit proper is =
    let (own, all) = tree_edit before actor message edit proper is in
    (own, all.there, each before actor own message edit proper all.kind all.fit)

-- a channel that is there before and after is as the edit makes it
pub altered_is : (before : StateValue) (actor : SessionId) (own : User) (message : TreeMessage) (edit : Edit) → IsProper before
    → IsKind before actor own message edit → fits before edit ≡ true → OfLasting before (applied before edit) (λ was now. now ≡ altered edit was)
altered_is before actor own message edit proper kind fit id was now is found =
    altered_as before actor own proper kind fit id was now is (lasting before edit (fit_proper before edit proper fit).0 id now found)

-- what holds of a channel that is not another, and of one that a ChannelState changes, holds of each
by_change : (Holds : Row → Row → Type 0) → ((row : Row) → Holds row row) → (id : ChannelId) (change : Channel → Channel) (was : Row)
    → (was.channel.id ≡ id → Holds was (record was { channel = change was.channel })) → Holds was (change_row id change was)
by_change Holds same id change was changed = step (number was == id.0) refl
  where
    step : (b : Bool) → (number was == id.0) ≡ b → Holds was (cond b (record was { channel = change was.channel }) was)
    step true is = changed (same_channel was.channel.id id is)
    step false is = same was

module _ (before : StateValue) (own : User) (message : TreeMessage) where
  abbrev Described : Row → Row → Type 0
  Described was now =
      ((now.channel.name ≡ was.channel.name) × (now.channel.info ≡ was.channel.info))
      ⊎ (((asked : ChannelState) × AsksToChange message was.channel.id asked) × (may before own WRITE was.channel.id ≡ true))

  abbrev Placed : Row → Row → Type 0
  Placed was now =
      (now.channel.parent ≡ was.channel.parent)
      ⊎ (((asked : ChannelState) × AsksToChange message was.channel.id asked)
      × ((may before own WRITE was.channel.id && may before own MAKE_CHANNEL now.channel.parent) ≡ true))

described_by : (before : StateValue) (actor : SessionId) (own : User) {message : TreeMessage} {edit : Edit} → IsKind before actor own message edit → (was : Row)
    → Described before own message was (altered edit was)
described_by before actor own (makes asked parent none named had_there) was = inl (refl, refl)
described_by before actor own (changes asked id named met) was =
    by_change (Described before own (State asked)) (λ row. inl (refl, refl)) id (with_given (change_asked before.tree id asked)) was
    (λ same. ⊎_elim
    (λ (some : describes asked ≡ true).
    inr ((asked, (refl, named ∙ ap (λ (one : ChannelId). Some one.0) (sym same))), ap (may before own WRITE) same ∙ may_describe before own id asked met some))
    (λ (none : describes asked ≡ false). inl (undescribed before id asked was.channel none))
    (cases_Bool (describes asked)))
described_by before actor own (removes asked top named had_there) was = inl (refl, refl)
described_by before actor own (rules asked id named had_there) was = inl (refl, refl)

placed_by : (before : StateValue) (actor : SessionId) (own : User) {message : TreeMessage} {edit : Edit} → IsKind before actor own message edit → (was : Row)
    → Placed before own message was (altered edit was)
placed_by before actor own (makes asked parent none named had_there) was = inl refl
placed_by before actor own (changes asked id named met) was =
    by_change (Placed before own (State asked)) (λ row. inl refl) id (with_given (change_asked before.tree id asked)) was
    (λ same. to (new_parent before.tree id asked) refl same)
  where
    to : (new : Option ChannelId) → new_parent before.tree id asked ≡ new → was.channel.id ≡ id
        → Placed before own (State asked) was (record was { channel = record (with_given (change_asked before.tree id asked) was.channel) { parent = given_or new was.channel.parent } })
    to None is same = inl refl
    to (Some there) is same =
        inr (
          (asked, (refl, named ∙ ap (λ (one : ChannelId). Some one.0) (sym same))),
          ap (λ (one : ChannelId). may before own WRITE one && may before own MAKE_CHANNEL there) same ∙ may_place before own id asked met there is,
        )
placed_by before actor own (removes asked top named had_there) was = inl refl
placed_by before actor own (rules asked id named had_there) was = inl refl

stays_what_it_is : (before : StateValue) (actor : SessionId) (own : User) {message : TreeMessage} {edit : Edit} → IsKind before actor own message edit → (was : Row)
    → ((altered edit was).place ≡ was.place) × ((altered edit was).channel.id ≡ was.channel.id) × ((altered edit was).channel.temporary ≡ was.channel.temporary)
stays_what_it_is before actor own (makes asked parent none named had_there) was = (refl, refl, refl)
stays_what_it_is before actor own (changes asked id named met) was =
    by_change (λ one other. (other.place ≡ one.place) × (other.channel.id ≡ one.channel.id) × (other.channel.temporary ≡ one.channel.temporary))
    (λ row. (refl, refl, refl)) id (with_given (change_asked before.tree id asked)) was (λ same. (refl, refl, refl))
stays_what_it_is before actor own (removes asked top named had_there) was = (refl, refl, refl)
stays_what_it_is before actor own (rules asked id named had_there) was = (refl, refl, refl)

-- what is shown of what an edit makes of each channel holds of each that is there before and after
of_lasting : (Holds : StateValue → User → TreeMessage → Row → Row → Type 0)
    → ((before : StateValue) (actor : SessionId) (own : User) (message : TreeMessage) (edit : Edit) (was : Row) → IsKind before actor own message edit
    → Holds before own message was (altered edit was))
    → OfTreeCommands (λ before after own message. OfLasting before after (Holds before own message))
of_lasting Holds each =
    of_kinds (λ before after own message. OfLasting before after (Holds before own message))
    (λ before actor own message edit proper kind fit id was now is found.
    subst (Holds before own message was) (sym (altered_is before actor own message edit proper kind fit id was now is found))
    (each before actor own message edit was kind))

pub described_where_permitted_lem : DescribedWherePermitted
described_where_permitted_lem = of_lasting Described (λ before actor own message edit was kind. described_by before actor own kind was)

pub placed_where_permitted_lem : PlacedWherePermitted
placed_where_permitted_lem = of_lasting Placed (λ before actor own message edit was kind. placed_by before actor own kind was)

pub channels_stay_what_they_are_lem : ChannelsStayWhatTheyAre
channels_stay_what_they_are_lem =
    of_lasting (λ before own message was now. (now.place ≡ was.place) × (now.channel.id ≡ was.channel.id) × (now.channel.temporary ≡ was.channel.temporary))
    (λ before actor own message edit was kind. stays_what_it_is before actor own kind was)

-- ---- links

absorbed : (l ma mb aa ab : Bool) → (aa ≡ true → ma ≡ true) → (ab ≡ true → mb ≡ true) → (((l && ma) && mb) && aa && ab) ≡ (l && aa && ab)
absorbed false ma mb aa ab one two = refl
absorbed true true true aa ab one two = refl
absorbed true false mb true ab one two = absurd (true≢false (sym (one refl)))
absorbed true false mb false ab one two = refl
absorbed true true false aa true one two = absurd (true≢false (sym (two refl)))
absorbed true true false true false one two = refl
absorbed true true false false false one two = refl

pub there_was : (before : StateValue) (edit : Edit) → IsProper (set_by before edit) → (id : ChannelId) → is_there (applied before edit).tree.channels id ≡ true
    → is_there (set_by before edit).tree.channels id ≡ true
there_was before edit proper id there = step (row_of (applied before edit).tree.channels id) refl there
  where
    step : (o : Option Row) → row_of (applied before edit).tree.channels id ≡ o → is_some o ≡ true → is_there (set_by before edit).tree.channels id ≡ true
    step None is some = cc
    step (Some row) is some = ap is_some (lasting before edit proper id row is)

-- the numbers that are listed, of channels other than this one
listed : (id : ChannelId) (numbers : List ℕ) → Each (λ one. Contains numbers one.0) (others id numbers)
listed id numbers =
    each_map (λ n. Contains numbers n) (λ (one : ChannelId). Contains numbers one.0) channel (λ n there. there) (filter (is_other id) numbers)
    (each_filter (λ n. Contains numbers n) (is_other id) numbers (each_from_all (λ n. Contains numbers n) numbers (All-contains_itself numbers)))

module _ (before : StateValue) (own : User) (id : ChannelId) (asked : ChannelState) (named : asked.channel_id ≡ Some id.0) (one other : ChannelId) where
  abbrev Permitted : Type 0
  Permitted =
      (AsksToLink (State asked) one other ⊎ AsksToLink (State asked) other one)
      × ((may before own LINK_CHANNEL one && may before own LINK_CHANNEL other) ≡ true)

  abbrev IsListed : ChannelId → Type 0
  IsListed link = (Contains asked.links_add link.0 ⊎ Contains asked.links_remove link.0)
      × ((may before own LINK_CHANNEL id ≡ true) × (may before own LINK_CHANNEL link ≡ true))

  -- a link of the channel that touches the two is one that the message names
  touched : (link : ChannelId) → IsListed link → touches id one other link ≡ true → Permitted
  touched link (asks, (here, there)) on = step ((id.0 == one.0) && (link.0 == other.0)) ((id.0 == other.0) && (link.0 == one.0)) refl refl on
    where
      step : (a b : Bool) → ((id.0 == one.0) && (link.0 == other.0)) ≡ a → ((id.0 == other.0) && (link.0 == one.0)) ≡ b → (a || b) ≡ true → Permitted
      step true b first second some =
          let (same, last) = and_parts (id.0 == one.0) (link.0 == other.0) first in
          let is_one = same_channel id one same in
          let is_other_one = same_channel link other last in (
            inl (subst (λ c. AsksToLink (State asked) c other) is_one (subst (AsksToLink (State asked) id) is_other_one (asked, (refl, named), asks))),
            and_from (may before own LINK_CHANNEL one) (may before own LINK_CHANNEL other)
                (sym (ap (may before own LINK_CHANNEL) is_one) ∙ here) (sym (ap (may before own LINK_CHANNEL) is_other_one) ∙ there),
          )
      step false true first second some =
          let (same, last) = and_parts (id.0 == other.0) (link.0 == one.0) second in
          let is_one = same_channel id other same in
          let is_other_one = same_channel link one last in (
            inr (subst (λ c. AsksToLink (State asked) c one) is_one (subst (AsksToLink (State asked) id) is_other_one (asked, (refl, named), asks))),
            and_from (may before own LINK_CHANNEL one) (may before own LINK_CHANNEL other)
                (sym (ap (may before own LINK_CHANNEL) is_other_one) ∙ there) (sym (ap (may before own LINK_CHANNEL) is_one) ∙ here),
          )
      step false false first second some = cc

  -- so the two are linked as they were, or they are named
  changed_links : AllMet before (needs before.tree (actor_from before.tree own) (Command.edit id asked))
      → (are_linked (with_change before.tree id (change_asked before.tree id asked)) one other ≡ are_linked before.tree one other) ⊎ Permitted
  changed_links met =
      let adds = others id asked.links_add in
      let drops = others id asked.links_remove in
      let rights = may_link before own id asked met (adds ++ drops) refl in
      let (at_adds, at_drops) = each_parts (λ link. (may before own LINK_CHANNEL id ≡ true) × (may before own LINK_CHANNEL link ≡ true)) adds drops rights in
      ⊎_elim
      (λ (on : list_any (touches id one other) adds ≡ true).
      inr (each_any IsListed Permitted (touches id one other) touched adds
      (each_both (λ link. Contains asked.links_add link.0) (λ link. (may before own LINK_CHANNEL id ≡ true) × (may before own LINK_CHANNEL link ≡ true)) IsListed
      (λ link there can. (inl there, can)) adds (listed id asked.links_add) at_adds) on))
      (λ (off : list_any (touches id one other) adds ≡ false). ⊎_elim
      (λ (on : list_any (touches id one other) drops ≡ true).
      inr (each_any IsListed Permitted (touches id one other) touched drops
      (each_both (λ link. Contains asked.links_remove link.0) (λ link. (may before own LINK_CHANNEL id ≡ true) × (may before own LINK_CHANNEL link ≡ true)) IsListed
      (λ link there can. (inr there, can)) drops (listed id asked.links_remove) at_drops) on))
      (λ (none : list_any (touches id one other) drops ≡ false).
      inl (without_all id one other drops none (pairs_with_all id adds before.tree.links) ∙ with_all id one other adds off before.tree.links))
      (cases_Bool (list_any (touches id one other) drops)))
      (cases_Bool (list_any (touches id one other) adds))
    where
      each_parts : (P : ChannelId → Type 0) (xs ys : List ChannelId) → Each P (xs ++ ys) → Each P xs × Each P ys
      each_parts P [] ys all = (tt, all)
      each_parts P (x ∷ xs) ys all = let (first, second) = each_parts P xs ys all.1 in ((all.0, first), second)

linked_by : (before : StateValue) (actor : SessionId) (own : User) {message : TreeMessage} {edit : Edit} → IsProper (set_by before edit) → IsKind before actor own message edit
    → (one other : ChannelId) → LinkedAsBefore before (applied before edit) one other
    ⊎ ((AsksToLink message one other ⊎ AsksToLink message other one) × ((may before own LINK_CHANNEL one && may before own LINK_CHANNEL other) ≡ true))
linked_by before actor own proper (makes asked parent none named had_there) one other =
    let edit = edit_to_make before.tree actor asked in
    inl (linked before edit one other
    ∙ ap (λ tree. are_linked tree one other && is_there (applied before edit).tree.channels one && is_there (applied before edit).tree.channels other)
    (maker_tree _ (new_number before.tree) (is_to_be_temporary asked) actor))
linked_by before actor own proper (changes asked id named met) one other =
    let edit = edit_to_change before.tree actor id asked in
    ⊎_elim
    (λ (same : are_linked (with_change before.tree id (change_asked before.tree id asked)) one other ≡ are_linked before.tree one other).
    inl (linked before edit one other
    ∙ ap (λ (b : Bool). b && is_there (applied before edit).tree.channels one && is_there (applied before edit).tree.channels other) same))
    (λ (named_so : Permitted before own id asked named one other). inr named_so)
    (changed_links before own id asked named one other met)
linked_by before actor own proper (removes asked top named had_there) one other =
    let edit = RemoveChannel top actor in
    let rows = (without_subtree before.tree top).channels in
    inl (linked before edit one other
    ∙ ap (λ (b : Bool). b && is_there (applied before edit).tree.channels one && is_there (applied before edit).tree.channels other)
    (any_kept (is_pair one other) (λ (pair : Pair). is_there rows pair.0 && is_there rows pair.1) (is_there rows one && is_there rows other)
    (λ pair is. ap (λ (p : Pair). is_there rows p.0 && is_there rows p.1) (pair_is one other pair is)) before.tree.links
    ∙ and_last (are_linked before.tree one other) (is_there rows one) (is_there rows other))
    ∙ absorbed (are_linked before.tree one other) (is_there rows one) (is_there rows other) (is_there (applied before edit).tree.channels one)
    (is_there (applied before edit).tree.channels other) (there_was before edit proper one) (there_was before edit proper other))
  where
    and_last : (a b c : Bool) → (a && (b && c)) ≡ ((a && b) && c)
    and_last true b c = refl
    and_last false b c = refl
linked_by before actor own proper (rules asked id named had_there) one other = inl (linked before (SetAcl id (Some actor) (policy_asked asked)) one other)

pub linked_where_permitted_lem : LinkedWherePermitted
linked_where_permitted_lem =
    of_kinds (λ before after own message. (one other : ChannelId) → LinkedAsBefore before after one other
    ⊎ ((AsksToLink message one other ⊎ AsksToLink message other one) × ((may before own LINK_CHANNEL one && may before own LINK_CHANNEL other) ≡ true)))
    (λ before actor own message edit proper kind fit. linked_by before actor own (fit_proper before edit proper fit).0 kind)

-- ---- policies

apart_sym : (a b : ℕ) → (a == b) ≡ false → (b == a) ≡ false
apart_sym a b off = grind (arith, nat_tests)

abbrev find_policy : ChannelId → List PolicyRow → Option ChannelPolicy
find_policy id rows = option_map (λ (row : PolicyRow). row.policy) (find (λ (row : PolicyRow). row.channel.0 == id.0) rows)

ruled_by : (before : StateValue) (actor : SessionId) (own : User) {message : TreeMessage} {edit : Edit} → IsProper before → IsKind before actor own message edit
    → (id : ChannelId) (was : Row) → row_of before.tree.channels id ≡ Some was → is_there (set_by before edit).tree.channels id ≡ true
    → (policy_of (set_by before edit) id ≡ policy_of before id)
    ⊎ (AsksForPolicy message id × ((may before own WRITE id || may before own WRITE was.channel.parent) ≡ true))
ruled_by before actor own proper (makes asked parent none named had_there) id was is there =
    inl (ap (find_policy id) (maker_policies _ (new_number before.tree) (is_to_be_temporary asked) actor)
    ∙ ap (option_map (λ (row : PolicyRow). row.policy)) (find-append (λ (row : PolicyRow). row.channel.0 == id.0) before.policies (policy_row (new_number before.tree) ∷ [])
    ∙ first (find (λ (row : PolicyRow). row.channel.0 == id.0) before.policies) _ (policy_none before id proper ∙ ap is_some is)))
  where
    first : (a b : Option PolicyRow) → is_some a ≡ true → option_or a b ≡ a
    first None b some = cc
    first (Some row) b some = refl
ruled_by before actor own proper (changes asked other named met) id was is there = inl refl
ruled_by before actor own proper (removes asked top named had_there) id was is there =
    inl (ap (option_map (λ (row : PolicyRow). row.policy))
    (found_kept (λ (row : PolicyRow). row.channel.0 == id.0) (λ row. is_there (without_subtree before.tree top).channels row.channel)
    (λ row same. ap (is_there (without_subtree before.tree top).channels) (same_channel row.channel id same) ∙ there) before.policies))
ruled_by before actor own proper (rules asked other named had_there) id was is there = step (other.0 == id.0) refl
  where
    policy : ChannelPolicy
    policy = policy_asked asked

    at_other : (row : PolicyRow) → ((set_policy other policy row).channel.0 == id.0) ≡ (row.channel.0 == id.0)
    at_other row = cases (row.channel.0 == other.0)
      where
        cases : (b : Bool) → ((cond b (record row { policy = policy }) row).channel.0 == id.0) ≡ (row.channel.0 == id.0)
        cases true = refl
        cases false = refl

    same_policy : (o : Option PolicyRow) → find (λ (row : PolicyRow). row.channel.0 == id.0) before.policies ≡ o → (other.0 == id.0) ≡ false
        → option_map (λ (row : PolicyRow). row.policy) (option_map (set_policy other policy) o) ≡ option_map (λ (row : PolicyRow). row.policy) o
    same_policy None found apart = refl
    same_policy (Some row) found apart =
        let at = eqb-true row.channel.0 id.0 (found_passes (λ (one : PolicyRow). one.channel.0 == id.0) before.policies row found) in
        let off : (row.channel.0 == other.0) ≡ false = ap (λ n. n == other.0) at ∙ apart_sym other.0 id.0 apart in
        ap (λ (b : Bool). Some (cond b (record row { policy = policy }) row).policy) off

    step : (b : Bool) → (other.0 == id.0) ≡ b
        → (policy_of (set_by before (SetAcl other (Some actor) (policy_asked asked))) id ≡ policy_of before id)
        ⊎ (AsksForPolicy (Acl asked) id × ((may before own WRITE id || may before own WRITE was.channel.parent) ≡ true))
    step true same =
        let is_it = same_channel other id same in
        inr (
          (asked, refl, named ∙ ap (λ (one : ChannelId). Some one.0) is_it),
          subst (λ (one : ChannelId). (may before own WRITE one || may before own WRITE was.channel.parent) ≡ true) is_it
              (ap (λ (one : ChannelId). may before own WRITE other || may before own WRITE one)
              (ap (λ (o : Option Row). option_map_or (λ (row : Row). row.channel.parent) o other) (sym is ∙ ap (row_of before.tree.channels) (sym is_it))) ∙ had_there),
        )
    step false apart =
        inl (ap (option_map (λ (row : PolicyRow). row.policy)) (found_mapped (λ (row : PolicyRow). row.channel.0 == id.0) (set_policy other policy) at_other before.policies)
        ∙ same_policy (find (λ (row : PolicyRow). row.channel.0 == id.0) before.policies) refl apart)

pub ruled_where_permitted_lem : RuledWherePermitted
ruled_where_permitted_lem =
    of_kinds (λ before after own message. OfLasting before after (λ was now.
    (policy_of after was.channel.id ≡ policy_of before was.channel.id)
    ⊎ (AsksForPolicy message was.channel.id × ((may before own WRITE was.channel.id || may before own WRITE was.channel.parent) ≡ true))))
    (λ before actor own message edit proper kind fit id was now is found.
    let set = (fit_proper before edit proper fit).0 in
    let same : policy_of (applied before edit) id ≡ policy_of (set_by before edit) id = ruled before edit id (ap is_some found) in
    subst (λ (one : ChannelId). (policy_of (applied before edit) one ≡ policy_of before one)
    ⊎ (AsksForPolicy message one × ((may before own WRITE one || may before own WRITE was.channel.parent) ≡ true))) (sym (number_is before.tree.channels id was is))
    (⊎_elim (λ (kept : policy_of (set_by before edit) id ≡ policy_of before id). inl (same ∙ kept))
    (λ (set_anew : AsksForPolicy message id × ((may before own WRITE id || may before own WRITE was.channel.parent) ≡ true)). inr set_anew)
    (ruled_by before actor own proper kind id was is (ap is_some (lasting before edit set id now found)))))

-- ---- channels that go and come

removed_by : (before : StateValue) (actor : SessionId) (own : User) {message : TreeMessage} {edit : Edit} → IsKind before actor own message edit → fits before edit ≡ true
    → (top : ChannelId) → edit ≡ RemoveChannel top actor → AsksToRemove message top × (may before own WRITE top ≡ true) × (top.0 ≢ ROOT.0)
removed_by before actor own (makes asked parent none named had_there) fit top is = cc
removed_by before actor own (changes asked id named met) fit top is = cc
removed_by before actor own (removes asked other named had_there) fit top is =
    let same : other ≡ top = cc in
    subst (λ (one : ChannelId). AsksToRemove (Remove asked) one × (may before own WRITE one ≡ true) × (one.0 ≢ ROOT.0)) same
    ((asked, refl, named), had_there, not_the_root before other actor fit)
removed_by before actor own (rules asked id named had_there) fit top is = cc

pub removed_where_permitted_lem : RemovedWherePermitted
removed_where_permitted_lem =
    of_kinds (λ before after own message. (id : ChannelId) (was : Row) → row_of before.tree.channels id ≡ Some was → row_of after.tree.channels id ≡ None
    → IsRemoved before own message was ⊎ IsEmptied before after was)
    (λ before actor own message edit proper kind fit id was is gone. by_set before actor own message edit proper kind fit id was is gone (row_of (set_by before edit).tree.channels id) refl)
  where
    by_set : (before : StateValue) (actor : SessionId) (own : User) (message : TreeMessage) (edit : Edit) → IsProper before → IsKind before actor own message edit
        → fits before edit ≡ true → (id : ChannelId) (was : Row) → row_of before.tree.channels id ≡ Some was → row_of (applied before edit).tree.channels id ≡ None
        → (set : Option Row) → row_of (set_by before edit).tree.channels id ≡ set → IsRemoved before own message was ⊎ IsEmptied before (applied before edit) was
    by_set before actor own message edit proper kind fit id was is gone None none =
        let (top, same, below) = removed_as before actor own proper kind fit id was is none in
        let (asks, can, apart) = removed_by before actor own kind fit top same in
        inl (top, asks, can, apart, below)
    by_set before actor own message edit proper kind fit id was is gone (Some row) some =
        let left = emptied before edit id row some gone in
        let same = altered_as before actor own proper kind fit id was row is some in
        let what = stays_what_it_is before actor own kind was in
        let number : row.channel.id ≡ was.channel.id = ap (λ (one : Row). one.channel.id) same ∙ what.1 in
        let kind_is : row.channel.temporary ≡ was.channel.temporary = ap (λ (one : Row). one.channel.temporary) same ∙ what.2 in
        inr (record {
          temporary = sym kind_is ∙ left.temporary;
          left = ap (has_member before.roster.sessions) (sym number) ∙ left.left;
          empty = ap (has_member (applied before edit).roster.sessions) (sym number) ∙ left.empty;
        })

abbrev Made : StateValue → StateValue → User → TreeMessage → ChannelId → Row → Type 0
Made before after own message id now =
    ((asked : ChannelState) × (message ≡ State asked) × (asked.channel_id ≡ None) × (asked.parent ≡ Some now.channel.parent.0))
    × (may before own (cond now.channel.temporary MAKE_TEMP_CHANNEL MAKE_CHANNEL) now.channel.parent ≡ true)
    × (policy_of after id ≡ Some open_policy)

made_by : (before : StateValue) (actor : SessionId) (own : User) {message : TreeMessage} {edit : Edit} → IsProper before → IsKind before actor own message edit
    → (after : StateValue) → (id : ChannelId) (now : Row) → policy_of after id ≡ policy_of (set_by before edit) id
    → row_of before.tree.channels id ≡ None → row_of (set_by before edit).tree.channels id ≡ Some now → Made before after own message id now
made_by before actor own proper (makes asked parent none named had_there) after id now ruled_so gone found =
    let (under, temporary, number) = made_comes before actor asked id now gone found in
    let at : parent_of_new asked ≡ channel parent = ap channel_or_root named in
    let place : now.channel.parent ≡ channel parent = under ∙ at in (
      (asked, refl, none, named ∙ ap (λ (one : ChannelId). Some one.0) (sym place)),
      ap (λ (t : Bool). may before own (cond t MAKE_TEMP_CHANNEL MAKE_CHANNEL) now.channel.parent) temporary
          ∙ ap (may before own (cond (is_to_be_temporary asked) MAKE_TEMP_CHANNEL MAKE_CHANNEL)) place ∙ had_there,
      ruled_so ∙ ap (find_policy id) (maker_policies _ (new_number before.tree) (is_to_be_temporary asked) actor)
          ∙ ap (option_map (λ (row : PolicyRow). row.policy)) (find-append (λ (row : PolicyRow). row.channel.0 == id.0) before.policies (policy_row (new_number before.tree) ∷ [])
          ∙ second (find (λ (row : PolicyRow). row.channel.0 == id.0) before.policies) _ (policy_none before id proper ∙ ap is_some gone))
          ∙ ap (λ (b : Bool). option_map (λ (row : PolicyRow). row.policy) (cond b (Some (policy_row (new_number before.tree))) None)) number,
    )
  where
    second : (a b : Option PolicyRow) → is_some a ≡ false → option_or a b ≡ b
    second None b some = refl
    second (Some row) b some = cc
made_by before actor own proper (changes asked other named met) after id now ruled_so gone found =
    let change = change_asked before.tree other asked in
    let no : None ≡ Some now = sym (ap (option_map (change_row other (with_given change))) gone)
    ∙ sym (row_of-map (change_row other (with_given change)) (changed_number other (with_given change) (λ one. refl)) before.tree.channels id) ∙ found in cc
made_by before actor own proper (removes asked top named had_there) after id now ruled_so gone found =
    let (row, there, kept) = there_after (λ row. not (is_below before.tree.channels top row.channel.id)) before.tree.channels id proper.tree.rise (ap is_some found) in
    let no : None ≡ Some row = sym gone ∙ there in cc
made_by before actor own proper (rules asked other named had_there) after id now ruled_so gone found = let no : None ≡ Some now = sym gone ∙ found in cc

pub made_where_permitted_lem : MadeWherePermitted
made_where_permitted_lem =
    of_kinds (λ before after own message. (id : ChannelId) (now : Row) → row_of before.tree.channels id ≡ None → row_of after.tree.channels id ≡ Some now
    → Made before after own message id now)
    (λ before actor own message edit proper kind fit id now gone found.
    made_by before actor own proper kind (applied before edit) id now (ruled before edit id (ap is_some found)) gone
    (lasting before edit (fit_proper before edit proper fit).0 id now found))
