-- Rosters worked out by hand: sessions in their slots, their flags, who listens to what, voice targets.
use Rattle.mum_users.proofs.Common.{◌≡◌, ℕ, ◌+◌, ◌-◌, ◌^◌, Bool, true, false, List, [], ◌∷◌, ◌++◌, codes, filter, map, replicate, Option, Some, None, refl, UserFault, Full, ListenerLimit, NameInUse, NoSession, SessionsUsedUp, TargetId, TargetSize, UserListenerLimit, Silence, Target, TargetItem, User, UserEdit, edit_fault, flagged, silence_after, listen_fault, pairs_of, MaskRow, deaf_is_mute, has_listener_at, has_member_at, mask_at, masks_of, without_slot, absent_fault, join_fault, joined, next_join, session_of, RosterState, are_tokens, empty_roster, is_context, is_of_channel, target_fault, target_of}
use Rattle.mum_users.proofs.Scenes.{Step, all_listen, channel, channels, close, edit, item_channel, item_sessions, join, joins, leave, listen, listens_to, numbers_from, place, roster, row, same_flags, session, set_flags, set_target, set_texts, set_tokens, slot, suppress, target, to_channel, to_listen, unchanged, unlisten, with_children, with_group, with_links}

abbrev ann : List ℕ
ann = codes "ann"

abbrev bob : List ℕ
bob = codes "bob"

-- ---- what is asked of a roster

abbrev row_in : List Step → ℕ → Option User
row_in steps number = session_of (roster steps) (session number)

-- each session with its slot
abbrev slots_in : List Step → List (ℕ × ℕ)
slots_in steps = map (λ user. (user.session.0, user.slot.0)) (roster steps).sessions

-- the channels to which a session listens, and the sessions that listen to a channel
abbrev listened_in : List Step → ℕ → List ℕ
listened_in steps number = map (λ pair. pair.channel.0) (pairs_of (roster steps) (session number))

abbrev listeners_in : List Step → ℕ → List ℕ
listeners_in steps id = map (λ pair. pair.session.0) (filter (is_of_channel (channel id)) (roster steps).listeners)

abbrev target_in : List Step → ℕ → ℕ → Option Target
target_in steps number id = target_of (roster steps) (session number) id

-- ---- sessions come and go

abbrev joining : List Step → List ℕ → Option UserFault
joining steps name = join_fault (roster steps) name

pub record SessionsComeAndGo : Type 0 where
  pub a_session_joins : roster (join ann ∷ []) ≡ record empty_roster { sessions = row 1 0 ann ∷ []; last = 1 }
  pub the_next_after_it : next_join (roster (join ann ∷ [])) ≡ Some (session 2, slot 1)
  pub a_name_is_in_use : (joining (join ann ∷ []) ann ≡ Some NameInUse) × (joining (join ann ∷ []) bob ≡ None)
  pub all_slots_are_taken : (joining (joins 127) ann ≡ None) × (joining (joins 128) ann ≡ Some Full) × (next_join (roster (joins 128)) ≡ None)
  pub a_name_in_use_comes_first : joining (joins 128) (codes "uuuuuuuuu") ≡ Some NameInUse
  pub no_number_is_left : join_fault (record empty_roster { last = 2 ^ 32 - 1 }) ann ≡ Some SessionsUsedUp
  pub a_slot_is_given_again_and_a_number_is_not : next_join (roster (joins 128 ++ leave 5 ∷ [])) ≡ Some (session 129, slot 4)
  pub the_least_slot_comes_first :
      slots_in (joins 5 ++ leave 4 ∷ leave 2 ∷ join ann ∷ join bob ∷ []) ≡ (1, 0) ∷ (6, 1) ∷ (3, 2) ∷ (7, 3) ∷ (5, 4) ∷ []
  pub who_is_not_there : (row_in (join ann ∷ leave 1 ∷ []) 1 ≡ None) × (absent_fault (roster (join ann ∷ [])) (session 2) ≡ Some NoSession)

pub sessions_come_and_go : SessionsComeAndGo
sessions_come_and_go = record {
  a_session_joins = refl;
  the_next_after_it = refl;
  a_name_is_in_use = (refl, refl);
  all_slots_are_taken = (refl, refl, refl);
  a_name_in_use_comes_first = refl;
  no_number_is_left = refl;
  a_slot_is_given_again_and_a_number_is_not = refl;
  the_least_slot_comes_first = refl;
  who_is_not_there = (refl, refl);
}

pub record SessionsChange : Type 0 where
  pub a_place_changes_one_session : map (λ user. user.channel.0) (roster (joins 3 ++ place 2 9 ∷ [])).sessions ≡ 0 ∷ 9 ∷ 0 ∷ []
  pub tokens_are_set_as_a_whole :
      row_in (join ann ∷ set_tokens 1 (codes "key" ∷ []) ∷ set_tokens 1 (codes "one" ∷ codes "two" ∷ []) ∷ []) 1
      ≡ Some (record (row 1 0 ann) { tokens = codes "one" ∷ codes "two" ∷ [] })
  pub a_text_that_is_not_given_is_kept :
      row_in (join ann ∷ set_texts 1 (Some (codes "hello")) (Some (codes "game")) ∷ set_texts 1 (Some (codes "bye")) None ∷ []) 1
      ≡ Some (record (row 1 0 ann) { comment = codes "bye"; context = codes "game" })
  pub suppression_alone :
      row_in (join ann ∷ set_flags 1 (record same_flags { mute = Some true }) ∷ suppress 1 true ∷ []) 1
      ≡ Some (record (row 1 0 ann) { mute = true; suppress = true })

pub sessions_change : SessionsChange
sessions_change = search

-- ---- flags: who is deaf is mute too, and a change of mute comes before one of deaf

abbrev silence : Bool → Bool → Silence
silence mute deaf = record { mute = mute; deaf = deaf }

abbrev neither : Silence
neither = silence false false

abbrev muted : Silence
muted = silence true false

abbrev deafened : Silence
deafened = silence true true

-- after nothing, `deaf` false and `deaf` true; the same with `mute` false; the same with `mute` true
abbrev after_each : Silence → List Silence
after_each was =
    silence_after None None was ∷ silence_after None (Some false) was ∷ silence_after None (Some true) was
    ∷ silence_after (Some false) None was ∷ silence_after (Some false) (Some false) was ∷ silence_after (Some false) (Some true) was
    ∷ silence_after (Some true) None was ∷ silence_after (Some true) (Some false) was ∷ silence_after (Some true) (Some true) was ∷ []

pub record FlagsChange : Type 0 where
  pub neither_before :
      after_each neither ≡ neither ∷ neither ∷ deafened ∷ neither ∷ neither ∷ deafened ∷ muted ∷ muted ∷ deafened ∷ []
  pub mute_before :
      after_each muted ≡ muted ∷ muted ∷ deafened ∷ neither ∷ neither ∷ deafened ∷ muted ∷ muted ∷ deafened ∷ []
  pub mute_and_deaf_before :
      after_each deafened ≡ deafened ∷ muted ∷ deafened ∷ neither ∷ neither ∷ deafened ∷ deafened ∷ muted ∷ deafened ∷ []
  pub ones_own_do_the_same :
      flagged (row 1 0 ann) (record same_flags { self_deaf = Some true }) ≡ record (row 1 0 ann) { self_mute = true; self_deaf = true }
  pub ones_own_and_those_by_others_are_apart :
      flagged (record (row 1 0 ann) { self_mute = true; self_deaf = true }) (record same_flags { deaf = Some true; self_mute = Some false })
      ≡ record (row 1 0 ann) { mute = true; deaf = true }
  pub the_others_change_alone :
      flagged (row 1 0 ann) (record same_flags { suppress = Some true; priority = Some true; recording = Some true })
      ≡ record (row 1 0 ann) { suppress = true; priority = true; recording = true }

pub flags_change : FlagsChange
flags_change = search

-- ---- who listens to what

abbrev listening_fault : List Step → ℕ → ℕ → Option UserFault
listening_fault steps number to = listen_fault (roster steps) (session number) (channel to)

-- 64 sessions listen to channel 9, and session 65 to 32 others
abbrev a_crowd : List Step
a_crowd = joins 65 ++ all_listen 64 9 ++ listens_to 65 (numbers_from 100 32)

pub record SessionsListen : Type 0 where
  pub by_channels_and_by_sessions :
      let made = joins 3 ++ listen 1 5 ∷ listen 3 5 ∷ listen 2 4 ∷ listen 1 9 ∷ listen 1 2 ∷ [] in
      (listened_in made 1 ≡ 2 ∷ 5 ∷ 9 ∷ []) × (listened_in made 2 ≡ 4 ∷ []) × (listeners_in made 5 ≡ 1 ∷ 3 ∷ []) × (listeners_in made 7 ≡ [])
  pub twice_changes_nothing : listened_in (join ann ∷ listen 1 4 ∷ listen 1 4 ∷ []) 1 ≡ 4 ∷ []
  pub no_longer : listened_in (join ann ∷ listen 1 4 ∷ listen 1 5 ∷ unlisten 1 4 ∷ []) 1 ≡ 5 ∷ []
  pub a_channel_has_64_listeners : (listening_fault a_crowd 65 9 ≡ Some ListenerLimit) × (listening_fault (joins 65 ++ all_listen 63 9) 65 9 ≡ None)
  pub a_session_listens_to_32_channels :
      (listening_fault a_crowd 65 8 ≡ Some UserListenerLimit) × (listening_fault (joins 1 ++ listens_to 1 (numbers_from 100 31)) 1 8 ≡ None)
  pub what_it_listens_to_already_has_no_limit : (listening_fault a_crowd 1 9 ≡ None) × (listening_fault a_crowd 65 100 ≡ None)
  pub a_session_comes_before_the_limits : listening_fault a_crowd 66 9 ≡ Some NoSession
  pub it_goes_with_a_session :
      let made = joins 2 ++ listen 1 4 ∷ listen 2 4 ∷ leave 1 ∷ join ann ∷ [] in (listeners_in made 4 ≡ 2 ∷ []) × (listened_in made 3 ≡ [])
  pub it_goes_with_a_channel :
      let made = joins 2 ++ listen 1 4 ∷ listen 1 5 ∷ listen 2 5 ∷ close 5 ∷ [] in (listened_in made 1 ≡ 4 ∷ []) × (listened_in made 2 ≡ [])

pub sessions_listen : SessionsListen
sessions_listen = record {
  by_channels_and_by_sessions = (refl, refl, refl, refl);
  twice_changes_nothing = refl;
  no_longer = refl;
  a_channel_has_64_listeners = (refl, refl);
  a_session_listens_to_32_channels = (refl, refl);
  what_it_listens_to_already_has_no_limit = (refl, refl);
  a_session_comes_before_the_limits = refl;
  it_goes_with_a_session = (refl, refl);
  it_goes_with_a_channel = (refl, refl);
}

-- ---- several parts at once: the limits are those of the roster after the change

abbrev everything : UserEdit
everything = record {
  channel = Some (channel 3);
  flags = record same_flags { deaf = Some true; priority = Some true };
  comment = Some (codes "hello");
  context = Some (codes "game");
  listen = channels (4 ∷ 5 ∷ []);
  unlisten = channels (6 ∷ []);
}

abbrev editing : List Step → ℕ → UserEdit → Option UserFault
editing steps number change = edit_fault (roster steps) (session number) change

pub record ChangesOfParts : Type 0 where
  pub all_parts :
      row_in (join ann ∷ edit 1 everything ∷ []) 1
      ≡ Some (record (row 1 0 ann) { channel = channel 3; mute = true; deaf = true; priority = true; comment = codes "hello"; context = codes "game" })
  pub listening_among_them : listened_in (join ann ∷ listen 1 6 ∷ edit 1 everything ∷ []) 1 ≡ 4 ∷ 5 ∷ []
  pub what_is_not_given_is_kept :
      roster (join ann ∷ edit 1 everything ∷ edit 1 unchanged ∷ []) ≡ roster (join ann ∷ edit 1 everything ∷ [])
  pub a_channel_in_both_lists_is_left :
      listened_in (join ann ∷ listen 1 5 ∷ edit 1 (to_listen (4 ∷ 5 ∷ 7 ∷ []) (4 ∷ 5 ∷ 6 ∷ [])) ∷ []) 1 ≡ 7 ∷ []
  pub one_for_another_at_32 :
      (editing a_crowd 65 (to_listen (8 ∷ []) (100 ∷ [])) ≡ None) × (editing a_crowd 65 (to_listen (8 ∷ []) []) ≡ Some UserListenerLimit)
  pub no_more_than_32_at_once :
      (editing (joins 1) 1 (to_listen (numbers_from 100 32) []) ≡ None) × (editing (joins 1) 1 (to_listen (numbers_from 100 33) []) ≡ Some UserListenerLimit)
  pub a_channel_counts_once : editing (joins 1 ++ listens_to 1 (numbers_from 100 31)) 1 (to_listen (7 ∷ 7 ∷ 100 ∷ 7 ∷ []) []) ≡ None
  pub the_limit_of_the_channel_comes_first : editing a_crowd 65 (to_listen (8 ∷ 9 ∷ []) []) ≡ Some ListenerLimit
  pub what_is_left_by_the_same_change_is_not_counted : editing (joins 65 ++ all_listen 64 9) 65 (to_listen (9 ∷ []) (9 ∷ [])) ≡ None
  pub a_session_that_is_not_there : editing a_crowd 66 (to_channel 1) ≡ Some NoSession

pub changes_of_parts : ChangesOfParts
changes_of_parts = record {
  all_parts = refl;
  listening_among_them = refl;
  what_is_not_given_is_kept = refl;
  a_channel_in_both_lists_is_left = refl;
  one_for_another_at_32 = (refl, refl);
  no_more_than_32_at_once = (refl, refl);
  a_channel_counts_once = refl;
  the_limit_of_the_channel_comes_first = refl;
  what_is_left_by_the_same_change_is_not_counted = refl;
  a_session_that_is_not_there = refl;
}

-- ---- voice targets: numbers 1 to 30, 16 items, 128 sessions over all of them, groups of 128 bytes

abbrev setting : ℕ → ℕ → List TargetItem → Option UserFault
setting number id items = target_fault (roster (join ann ∷ [])) (session number) id (target items)

-- items with this number of sessions, and with a group of this number of bytes
abbrev naming : ℕ → TargetItem
naming count = item_sessions (replicate count 1)

abbrev in_group_of : ℕ → TargetItem
in_group_of bytes = with_group (replicate bytes 103) (item_channel 1)

abbrev first_two : List TargetItem
first_two = with_links (with_children (item_channel 3)) ∷ item_sessions (1 ∷ 4 ∷ []) ∷ []

pub record TargetsAreSet : Type 0 where
  pub it_is_read_back : target_in (join ann ∷ set_target 1 7 (target first_two) ∷ []) 1 7 ≡ Some (target first_two)
  pub under_another_number_there_is_none : target_in (join ann ∷ set_target 1 7 (target first_two) ∷ []) 1 8 ≡ None
  pub it_is_replaced :
      target_in (join ann ∷ set_target 1 7 (target first_two) ∷ set_target 1 7 (target (item_channel 4 ∷ [])) ∷ []) 1 7
      ≡ Some (target (item_channel 4 ∷ []))
  pub without_items_it_is_none :
      let made = join ann ∷ set_target 1 30 (target first_two) ∷ set_target 1 1 (target first_two) ∷ set_target 1 30 (target []) ∷ [] in
      (target_in made 1 30 ≡ None) × (target_in made 1 1 ≡ Some (target first_two))
  pub it_goes_with_its_session_and_others_keep_the_number :
      let made = joins 2 ++ set_target 1 7 (target first_two) ∷ set_target 2 7 (target first_two) ∷ leave 1 ∷ [] in
      (target_in made 1 7 ≡ None) × (target_in made 2 7 ≡ Some (target first_two))
  pub the_numbers :
      map (λ id. setting 1 id []) (0 ∷ 1 ∷ 30 ∷ 31 ∷ []) ≡ Some TargetId ∷ None ∷ None ∷ Some TargetId ∷ []
  pub a_session_comes_first : setting 2 0 [] ≡ Some NoSession
  pub the_items : (setting 1 1 (replicate 16 (naming 8)) ≡ None) × (setting 1 1 (replicate 17 (naming 0)) ≡ Some TargetSize)
  pub the_sessions :
      (setting 1 1 (naming 128 ∷ []) ≡ None) × (setting 1 1 (naming 129 ∷ []) ≡ Some TargetSize)
      × (setting 1 1 (replicate 16 (naming 9)) ≡ Some TargetSize)
  pub the_bytes_of_a_group : (setting 1 1 (in_group_of 128 ∷ []) ≡ None) × (setting 1 1 (in_group_of 129 ∷ []) ≡ Some TargetSize)

pub targets_are_set : TargetsAreSet
targets_are_set = search

-- ---- the limit of sessions

-- the roster with this limit
abbrev limited : ℕ → RosterState → RosterState
limited sessions state = record state { limit = sessions }

pub record LimitsRise : Type 0 where
  pub it_is_128_at_first : empty_roster.limit ≡ 128
  pub one_more_session : join_fault (limited 129 (roster (joins 128))) ann ≡ None
  pub its_slot : next_join (limited 129 (roster (joins 128))) ≡ Some (session 129, slot 128)
  pub no_more : join_fault (limited 129 (joined (limited 129 (roster (joins 128))) ann None [])) bob ≡ Some Full

pub limits_rise : LimitsRise
limits_rise = record { it_is_128_at_first = refl; one_more_session = refl; its_slot = refl; no_more = refl }

-- ---- who is deaf is mute

pub record DeafAreMute : Type 0 where
  pub a_session_that_joined : deaf_is_mute (row 1 0 ann) ≡ true
  pub deaf_alone : deaf_is_mute (record (row 1 0 ann) { deaf = true }) ≡ false
  pub deaf_and_mute : deaf_is_mute (record (row 1 0 ann) { mute = true; deaf = true }) ≡ true
  pub deaf_by_itself_alone : deaf_is_mute (record (row 1 0 ann) { mute = true; self_deaf = true }) ≡ false
  pub both_by_itself : deaf_is_mute (record (row 1 0 ann) { self_mute = true; self_deaf = true }) ≡ true

pub deaf_are_mute : DeafAreMute
deaf_are_mute = record { a_session_that_joined = refl; deaf_alone = refl; deaf_and_mute = refl; deaf_by_itself_alone = refl; both_by_itself = refl }

-- ---- masks: the first and the last slot of a word, and the last of all

-- a session in a slot and a channel
abbrev placed_at : ℕ → ℕ → ℕ → User
placed_at number placement where_to = record (row number placement ann) { channel = channel where_to }

-- sessions in slots 0, 127 and 128 of channel 5, and in slot 511 of channel 9, which that in slot 128 hears
abbrev spread : RosterState
spread = record empty_roster {
  sessions = placed_at 1 0 5 ∷ placed_at 2 127 5 ∷ placed_at 3 128 5 ∷ placed_at 4 511 9 ∷ [];
  listeners = record { session = session 3; channel = channel 9 } ∷ [];
}

abbrev mask_row : ℕ → ℕ → ℕ → MaskRow
mask_row where_to word mask = record { channel = channel where_to; word = word; mask = mask }

abbrev edges : List ℕ
edges = 0 ∷ 1 ∷ 127 ∷ 128 ∷ 511 ∷ []

pub record MasksOfSlots : Type 0 where
  pub members_of_a_channel : map (has_member_at spread (channel 5)) edges ≡ true ∷ false ∷ true ∷ true ∷ false ∷ []
  pub listeners_of_a_channel : map (has_listener_at spread (channel 9)) edges ≡ false ∷ false ∷ false ∷ true ∷ false ∷ []
  pub a_bit_for_each_slot : masks_of spread.sessions ≡ mask_row 5 0 (1 + 2 ^ 127) ∷ mask_row 5 1 1 ∷ mask_row 9 3 (2 ^ 127) ∷ []
  pub no_row_is_empty : without_slot (channel 9) 511 (masks_of spread.sessions) ≡ mask_row 5 0 (1 + 2 ^ 127) ∷ mask_row 5 1 1 ∷ []
  pub no_row_where_nobody_is : mask_at (channel 5) 3 (masks_of spread.sessions) ≡ 0

pub masks_of_slots : MasksOfSlots
masks_of_slots = record { members_of_a_channel = refl; listeners_of_a_channel = refl; a_bit_for_each_slot = refl; no_row_is_empty = refl; no_row_where_nobody_is = refl }

-- ---- the limits of tokens and of a context

abbrev tokens_of : ℕ → ℕ → List (List ℕ)
tokens_of count bytes = replicate count (replicate bytes 116)

pub limits_of_tokens :
    (are_tokens (tokens_of 64 128) ≡ true) × (are_tokens (tokens_of 65 1) ≡ false) × (are_tokens (tokens_of 64 129) ≡ false)
limits_of_tokens = (refl, refl, refl)

pub limit_of_a_context : (is_context (replicate 1024 99) ≡ true) × (is_context (replicate 1025 99) ≡ false)
limit_of_a_context = (refl, refl)
