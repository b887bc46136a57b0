-- The channels that an edit of one changes are those of which messages are sent.
use Rattle.mum_client_laws.proofs.Common.{◌≡◌, ℕ, ℤ, ◌==◌, ◌&&◌, ◌||◌, Bool, true, false, not, cond, List, [], ◌∷◌, ◌++◌, map, Option, Some, None, refl, ap, sym, ◌∙◌, subst, fold, nat_lt, filter, flat_map, list_all, list_any, option_map, option_map_or, int_eq, bytes_eq, and_parts, eq-eqb, eqb-true, or_parts, is_among, ChannelId, SessionId, ChannelState, is_there, number, row_of, TreeState, are_linked, partners, Channel, Row, Rises-filter, applied, fits, is_empty, IsProper, StateValue, Edit, EditChannel, Each, each_filter, each_so, none_passes, some_found, any_alike, each_any, each_passes, each_self, fit_parts, fit_proper, any_mapped, channel_change_told, channel_changes_told, channel_difference, edited_channels, if_it_tells, is_lower, numbers, partners_only_in, tells_of_channel, with_channel, all_to_each, channel_frame, same_channel, other_channels_stand_lem, OfChannel, has_any, AboutChannel, AreExactly, Subject, all_channels, changed_channels, due_to_all, is_changed_channel, is_other_channel, is_relinked, subject_of, AboutLinks, Decides-int_eq, number_found, given}
use Rattle.mum_client_laws.proofs.{ChannelsAfter.same_there, Closing.linked_there, Exactly.every, Exactly.exactly_to_all, Exactly.kept_within, Exactly.pieces_kept, Framed.channel_framed, Linked.partner_is, Rising.among_kept, Rising.ordered_rise, Rising.rising_same, Rising.rows_rise, SessionsDue.given_unless, SessionsDue.or_grouped, SessionsDue.same_text, SessionsDue.some_kept}

-- ---- a message reports something exactly where the channel has changed, or linked otherwise

-- partners are linked
partners_linked : (tree : TreeState) (id : ChannelId) → Each (λ other. are_linked tree id other ≡ true) (partners tree id)
partners_linked tree id =
    each_so (λ other. list_any (λ (one : ChannelId). one.0 == other.0) (partners tree id) ≡ true) (λ other. are_linked tree id other ≡ true)
    (λ other among. sym (partner_is tree id other) ∙ among) (partners tree id)
    (each_self (λ (other one : ChannelId). one.0 == other.0) (λ other. eq-eqb other.0 other.0 refl) (partners tree id))

any_each : {X : Type 0} (p q : X → Bool) (xs : List X) → Each (λ x. p x ≡ q x) xs → list_any p xs ≡ list_any q xs
any_each p q [] all = refl
any_each p q (x ∷ xs) all = λ i. all.0 i || any_each p q xs all.1 i

-- channels linked in the one tree alone, where all that it links are still there
only_in : (tree other : TreeState) (id : ChannelId) → not (is_empty (numbers (partners_only_in tree other id))) ≡ list_any (λ one. not (are_linked other id one)) (partners tree id)
only_in tree other id =
    some_kept (λ (one : ChannelId). one.0) (λ one. not (is_among (partners other id) one)) (partners tree id)
    ∙ any_alike (λ one. not (is_among (partners other id) one)) (λ one. not (are_linked other id one)) (λ one. ap not (partner_is other id one)) (partners tree id)

tells : (before after : TreeState) (was now : Channel) → Each (λ other. is_there after.channels other ≡ true) (partners before now.id)
    → tells_of_channel (channel_change_told before after was now) ≡ (is_other_channel was now || is_relinked before after now.id)
tells before after was now stay =
    (λ i.
    given_unless (was.parent.0 == now.parent.0) now.parent.0 i || given_unless (bytes_eq was.name now.name) now.name i
    || given_unless (bytes_eq was.info.description now.info.description) now.info.description i || given_unless (int_eq was.info.position now.info.position) now.info.position i
    || given_unless (was.info.max_users == now.info.max_users) now.info.max_users i || only_in after before now.id i || only_in before after now.id i)
    ∙ or_grouped (is_other_channel was now) (list_any (λ one. not (are_linked before now.id one)) (partners after now.id)) (list_any (λ one. not (are_linked after now.id one)) (partners before now.id))
    ∙ ap (λ (b : Bool). is_other_channel was now || (list_any (λ one. not (are_linked before now.id one)) (partners after now.id) || b))
    (any_each (λ one. not (are_linked after now.id one)) (λ one. is_there after.channels one && not (are_linked after now.id one)) (partners before now.id)
    (each_so (λ one. is_there after.channels one ≡ true) (λ one. not (are_linked after now.id one) ≡ (is_there after.channels one && not (are_linked after now.id one)))
    (λ one there. sym (ap (λ (b : Bool). b && not (are_linked after now.id one)) there)) (partners before now.id) stay))

-- ---- a channel that is not edited is the same

same_info : (channel : Channel) → is_other_channel channel channel ≡ false
same_info channel = λ i.
    not (eq-eqb channel.parent.0 channel.parent.0 refl i) || not (same_text channel.name i) || not (same_text channel.info.description i)
    || not (same_number channel.info.position i) || not (eq-eqb channel.info.max_users channel.info.max_users refl i)
  where
    same_number : (n : ℤ) → int_eq n n ≡ true
    same_number n = (Decides-int_eq n n).1 refl

same_links : (before after : TreeState) (id : ChannelId) → partners after id ≡ filter (is_there after.channels) (partners before id) → is_relinked before after id ≡ false
same_links before after id same =
    λ i. none_new i || none_gone i
  where
    none_new : list_any (λ other. not (are_linked before id other)) (partners after id) ≡ false
    none_new =
        ap (list_any (λ other. not (are_linked before id other))) same
        ∙ none_passes (λ other. not (are_linked before id other)) (filter (is_there after.channels) (partners before id))
        (each_so (λ other. are_linked before id other ≡ true) (λ other. not (are_linked before id other) ≡ false) (λ other linked. ap not linked) (filter (is_there after.channels) (partners before id))
        (each_filter (λ other. are_linked before id other ≡ true) (is_there after.channels) (partners before id) (partners_linked before id)))

    still : (other : ChannelId) → are_linked before id other ≡ true → (b : Bool) → is_there after.channels other ≡ b → (b && not (are_linked after id other)) ≡ false
    still other linked true there =
        ap not (sym (partner_is after id other) ∙ ap (λ (ids : List ChannelId). is_among ids other) same ∙ among_kept (is_there after.channels) (partners before id) other
        ∙ ap (λ (b : Bool). b && is_there after.channels other) (partner_is before id other ∙ linked) ∙ there)
    still other linked false gone = refl

    none_gone : list_any (λ other. is_there after.channels other && not (are_linked after id other)) (partners before id) ≡ false
    none_gone =
        none_passes (λ other. is_there after.channels other && not (are_linked after id other)) (partners before id)
        (each_so (λ other. are_linked before id other ≡ true) (λ other. (is_there after.channels other && not (are_linked after id other)) ≡ false)
        (λ other linked. still other linked (is_there after.channels other) refl) (partners before id) (partners_linked before id))

-- ---- who is named is there

not_put : (new : ChannelId) (old : List ChannelId) (id : ChannelId) → (new.0 == id.0) ≡ false → is_among old id ≡ false → is_among (with_channel new old) id ≡ false
not_put new [] id other none = ap (λ (b : Bool). b || false) other
not_put new (x ∷ xs) id other none =
    let (first, rest) = or_parts (x.0 == id.0) (is_among xs id) none in
    step (nat_lt x.0 new.0) (x.0 == new.0) first (not_put new xs id other rest)
  where
    step : (lower same : Bool) → (x.0 == id.0) ≡ false → is_among (with_channel new xs) id ≡ false
        → is_among (cond lower (x ∷ with_channel new xs) (cond same (x ∷ xs) (new ∷ x ∷ xs))) id ≡ false
    step true same first later = λ i. first i || later i
    step false true first later = none
    step false false first later = λ i. other i || none i

named_once : (ids sorted : List ChannelId) (id : ChannelId) → is_among (fold (λ ordered one. with_channel one ordered) sorted ids) id ≡ true → (is_among sorted id || is_among ids id) ≡ true
named_once [] sorted id among = ap (λ (b : Bool). b || false) among
named_once (one ∷ ids) sorted id among = step (is_among sorted id) (one.0 == id.0) refl refl (named_once ids (with_channel one sorted) id among)
  where
    step : (s o : Bool) → is_among sorted id ≡ s → (one.0 == id.0) ≡ o → (is_among (with_channel one sorted) id || is_among ids id) ≡ true → (s || (o || is_among ids id)) ≡ true
    step true o is same on = refl
    step false true is same on = refl
    step false false is same on = sym (ap (λ (b : Bool). b || is_among ids id) (not_put one sorted id same is)) ∙ on

module _ (state : StateValue) (id : ChannelId) (actor : Option SessionId) (name : Option (List ℕ)) (parent : Option ChannelId) (description : Option (List ℕ))
    (position : Option ℤ) (max_users : Option ℕ) (links_add links_remove : List ChannelId)
    (proper : IsProper state) (fit : fits state (EditChannel id actor name parent description position max_users links_add links_remove) ≡ true) where
  abbrev alteration : Edit
  alteration = EditChannel id actor name parent description position max_users links_add links_remove

  abbrev after : StateValue
  after = applied state alteration

  abbrev edited : List ChannelId
  edited = edited_channels alteration

  abbrev differences : ChannelId → List ChannelState
  differences = channel_difference state.tree after.tree

  abbrev about : ChannelState → Subject
  about message = subject_of (OfChannel message)

  abbrev about_channel : ChannelId → Subject
  about_channel at = AboutChannel (Some at.0)

  still_there : (at : ChannelId) → is_there after.tree.channels at ≡ is_there state.tree.channels at
  still_there = same_there state id actor name parent description position max_users links_add links_remove proper fit

  partners_stay : (at : ChannelId) → Each (λ other. is_there after.tree.channels other ≡ true) (partners state.tree at)
  partners_stay at =
      each_so (λ other. are_linked state.tree at other ≡ true) (λ other. is_there after.tree.channels other ≡ true)
      (λ other linked. still_there other ∙ (linked_there state.tree at other proper.tree linked).1) (partners state.tree at) (partners_linked state.tree at)

  said_where_told : (told : Bool) (message : ChannelState) → message.links ≡ [] → map about (cond {A = List ChannelState} told (message ∷ []) []) ≡ cond told (AboutChannel message.channel_id ∷ []) []
  said_where_told true message none = ap (λ (links : List ℕ). cond (has_any links) (AboutLinks message.channel_id) (AboutChannel message.channel_id) ∷ []) none
  said_where_told false message none = refl

  said : (at : ChannelId) → map about (differences at) ≡ cond (is_changed_channel state after at) (about_channel at ∷ []) []
  said at = step (row_of state.tree.channels at) (row_of after.tree.channels at) refl refl
    where
      told : ChannelState → List ChannelState
      told message = if_it_tells tells_of_channel message

      step : (old new : Option Row) → row_of state.tree.channels at ≡ old → row_of after.tree.channels at ≡ new
          → map about (option_map_or (λ was. option_map_or (λ now. if_it_tells tells_of_channel (channel_change_told state.tree after.tree was now)) (option_map (λ (row : Row). row.channel) new) [])
          (option_map (λ (row : Row). row.channel) old) [])
          ≡ cond (option_map_or (λ was. option_map_or (λ now. is_other_channel was.channel now.channel || is_relinked state.tree after.tree at) new false) old false) (about_channel at ∷ []) []
      step None new is now = refl
      step (Some was) None is now = refl
      step (Some was) (Some row) is now =
          let same : row.channel.id ≡ at = same_channel row.channel.id at (number_found after.tree.channels at row now) in
          said_where_told (tells_of_channel (channel_change_told state.tree after.tree was.channel row.channel)) (channel_change_told state.tree after.tree was.channel row.channel) refl
          ∙ (λ i. cond {A = List Subject} (tells state.tree after.tree was.channel row.channel (partners_stay row.channel.id) i) (about_channel row.channel.id ∷ []) [])
          ∙ ap (λ (one : ChannelId). cond {A = List Subject} (is_other_channel was.channel row.channel || is_relinked state.tree after.tree one) (about_channel one ∷ []) []) same

  unedited : (at : ChannelId) → is_among edited at ≡ false → is_changed_channel state after at ≡ false
  unedited at never = step (row_of state.tree.channels at) (row_of after.tree.channels at) refl refl
    where
      step : (old new : Option Row) → row_of state.tree.channels at ≡ old → row_of after.tree.channels at ≡ new
          → option_map_or (λ was. option_map_or (λ now. is_other_channel was.channel now.channel || is_relinked state.tree after.tree at) new false) old false ≡ false
      step None new is now = refl
      step (Some was) None is now = refl
      step (Some was) (Some row) is now =
          let (same, links) = other_channels_stand_lem state alteration at was.channel row.channel proper fit never (ap (option_map (λ (one : Row). one.channel)) is) (ap (option_map (λ (one : Row). one.channel)) now) in
          (λ i. is_other_channel was.channel (sym same i) || same_links state.tree after.tree at links i) ∙ (λ i. same_info was.channel i || false)

  listed : (at : ChannelId) → is_there after.tree.channels at ≡ true → is_among (all_channels after) at ≡ true
  listed at there =
      any_mapped (λ (one : ChannelId). one.0 == at.0) (λ (row : Row). row.channel.id) after.tree.channels ∙ sym (some_found (λ (row : Row). number row == at.0) after.tree.channels) ∙ there

  all_named : list_all (is_there state.tree.channels) (id ∷ (given parent ++ links_add ++ links_remove)) ≡ true
  all_named = (and_parts _ _ (and_parts _ _ (fit_parts state alteration fit).named).0).1

  edited_there : (at : ChannelId) → is_among edited at ≡ true → is_among (all_channels after) at ≡ true
  edited_there at among =
      listed at (still_there at ∙
      each_any (λ one. is_there state.tree.channels one ≡ true) (is_there state.tree.channels at ≡ true) (λ (one : ChannelId). one.0 == at.0)
      (λ one there is. ap (is_there state.tree.channels) (sym (same_channel one at (eqb-true one.0 at.0 is))) ∙ there) (id ∷ links_add ++ links_remove) named
      (named_once (id ∷ links_add ++ links_remove) [] at among))
    where
      named : Each (λ one. is_there state.tree.channels one ≡ true) (id ∷ links_add ++ links_remove)
      named =
          let all = each_passes (is_there state.tree.channels) (id ∷ (given parent ++ links_add ++ links_remove)) all_named in
          (all.0, behind parent all.1)
        where
          behind : (parent : Option ChannelId) → Each (λ one. is_there state.tree.channels one ≡ true) (given parent ++ links_add ++ links_remove)
              → Each (λ one. is_there state.tree.channels one ≡ true) (links_add ++ links_remove)
          behind None all = all
          behind (Some under) all = all.1

  -- the edited channels are those of all that are edited
  edited_are : edited ≡ filter (is_among edited) (all_channels after)
  edited_are =
      rising_same edited (filter (is_among edited) (all_channels after)) (ordered_rise (id ∷ links_add ++ links_remove) [] tt)
      (Rises-filter is_lower (is_among edited) (all_channels after) (rows_rise after.tree.channels (fit_proper state alteration proper fit).1.tree.rise))
      (λ at. both at (is_among edited at) refl ∙ sym (among_kept (is_among edited) (all_channels after) at))
    where
      both : (at : ChannelId) (b : Bool) → is_among edited at ≡ b → is_among edited at ≡ (is_among (all_channels after) at && is_among edited at)
      both at true is = (λ i. is i) ∙ sym (λ i. edited_there at is i && is i)
      both at false is = (λ i. is i) ∙ sym (ap (λ (b : Bool). is_among (all_channels after) at && b) is ∙ none (is_among (all_channels after) at))
        where
          none : (b : Bool) → (b && false) ≡ false
          none true = refl
          none false = refl

  all_said : map about (channel_changes_told state alteration after) ≡ map about_channel (filter (is_changed_channel state after) (all_channels after))
  all_said =
      ap (λ (ids : List ChannelId). map about (flat_map differences ids)) edited_are
      ∙ pieces_kept about differences about_channel (is_changed_channel state after) (filter (is_among edited) (all_channels after))
      (every (λ at. map about (differences at) ≡ cond (is_changed_channel state after at) (about_channel at ∷ []) []) said (filter (is_among edited) (all_channels after)))
      ∙ ap (map about_channel) (kept_within (is_changed_channel state after) (is_among edited) (all_channels after) (every (λ at. is_among edited at ≡ false → is_changed_channel state after at ≡ false) unedited (all_channels after)))

  -- what is sent of changed channels is what is due
  pub channels_due : AreExactly (all_to_each after.roster.sessions (map channel_frame (channel_changes_told state alteration after))) (changed_channels state after)
  channels_due =
      subst (λ (subjects : List Subject). AreExactly (all_to_each after.roster.sessions (map channel_frame (channel_changes_told state alteration after))) (due_to_all after subjects)) all_said
      (exactly_to_all after channel_frame OfChannel channel_framed (channel_changes_told state alteration after))
