-- Who hears a packet, worked out on small states.
use Rattle.mum_route.proofs.Common.{◌≡◌, ℕ, true, List, [], ◌∷◌, ◌++◌, codes, map, Some, Perm, LISTEN, SPEAK, WHISPER, defines, denies, everybody, group, one, only_here, is_reached, FlagChange, TargetItem, item_channel, item_sessions, same_flags, session, unchanged, with_children, with_group, with_links, Edit, add_account, clear, enter, join, join_as, leave, link, listen, make, move, remove, set_policy, set_target, set_user, state, route}

-- those who hear what a session says to a target, each with its context
pub heard : List Edit → ℕ → ℕ → List (ℕ × ℕ)
unfolding state is_reached
heard edits speaker target = map (λ member. (member.0.0, member.1)) (route (state edits) (session speaker) target)

abbrev pub talk : ℕ
talk = 0

abbrev pub loopback : ℕ
loopback = 31

-- ---- small states

-- sessions 1, 2 and 3, or 1 to 5, in the root
abbrev pub three : List Edit
three = join 1 0 (codes "ann") ∷ join 2 1 (codes "bob") ∷ join 3 2 (codes "cat") ∷ []

abbrev pub five : List Edit
five = three ++ join 4 3 (codes "dan") ∷ join 5 4 (codes "eve") ∷ []

-- channels 1, 2 and 3 below the root, 1 linked to 2 and 2 to 3
abbrev pub linked : List Edit
linked = make 1 0 (codes "A") ∷ make 2 0 (codes "B") ∷ make 3 0 (codes "C") ∷ link 1 2 ∷ link 2 3 ∷ []

-- sessions 1, 2 and 3, each in the channel of its number
abbrev pub each_in_its_own : List Edit
each_in_its_own = three ++ linked ++ enter 1 1 ∷ enter 2 2 ∷ enter 3 3 ∷ []

-- channels 1 and 3 below the root, linked, and 2 below 1
abbrev pub with_a_child : List Edit
with_a_child = make 1 0 (codes "A") ∷ make 2 1 (codes "B") ∷ make 3 0 (codes "C") ∷ link 1 3 ∷ []

-- all of a channel denied to everybody there
abbrev pub without : ℕ → Perm → Edit
without id perm = set_policy id (one (only_here (denies everybody perm)))

abbrev pub flags : ℕ → FlagChange → Edit
flags number change = set_user number (record unchanged { flags = change })

-- ---- talk: the channel, and all that links lead to, where the speaker may speak

pub record TalkIsHeard : Type 0 where
  pub by_all_others_in_the_channel : heard (three ++ make 1 0 (codes "A") ∷ enter 1 1 ∷ enter 3 1 ∷ []) 1 talk ≡ (3, 0) ∷ []
  pub in_the_order_of_slots : heard (three ++ leave 1 ∷ join 4 0 (codes "dan") ∷ []) 2 talk ≡ (4, 0) ∷ (3, 0) ∷ []
  pub not_above_or_below : heard (three ++ make 1 0 (codes "A") ∷ make 2 1 (codes "B") ∷ enter 1 1 ∷ enter 2 2 ∷ []) 1 talk ≡ []
  pub through_links : heard each_in_its_own 1 talk ≡ (2, 0) ∷ (3, 0) ∷ []
  pub not_in_the_middle_without_speak_there : heard (each_in_its_own ++ without 2 SPEAK ∷ []) 1 talk ≡ (3, 0) ∷ []
  pub without_speak_where_the_speaker_is_only_once_it_is_cleared :
      (heard (each_in_its_own ++ without 1 SPEAK ∷ []) 1 talk ≡ []) × (heard (each_in_its_own ++ without 1 SPEAK ∷ clear 1 ∷ []) 1 talk ≡ (2, 0) ∷ (3, 0) ∷ [])
  pub whisper_is_not_asked : heard (each_in_its_own ++ without 2 WHISPER ∷ []) 1 talk ≡ (2, 0) ∷ (3, 0) ∷ []
  pub not_below_a_linked_channel : heard (three ++ with_a_child ++ enter 1 3 ∷ enter 2 1 ∷ enter 3 2 ∷ []) 1 talk ≡ (2, 0) ∷ []
  pub by_one_that_listens : heard (three ++ linked ++ enter 1 1 ∷ listen 2 1 ∷ []) 1 talk ≡ (2, 3) ∷ []
  pub by_one_that_listens_to_a_linked_channel : heard (three ++ linked ++ enter 1 1 ∷ listen 2 3 ∷ []) 1 talk ≡ (2, 3) ∷ []
  pub first_by_one_that_is_there : heard (each_in_its_own ++ listen 2 1 ∷ []) 1 talk ≡ (2, 0) ∷ (3, 0) ∷ []
  pub by_one_that_listens_where_it_is_without_speak : heard (each_in_its_own ++ without 2 SPEAK ∷ listen 2 1 ∷ []) 1 talk ≡ (2, 3) ∷ (3, 0) ∷ []
  pub not_without_listen : heard (three ++ linked ++ without 1 LISTEN ∷ enter 1 1 ∷ listen 2 1 ∷ []) 1 talk ≡ []
  pub not_listening_where_the_speaker_may_not_speak : heard (three ++ linked ++ without 2 SPEAK ∷ enter 1 1 ∷ listen 2 2 ∷ []) 1 talk ≡ []
  pub not_by_a_deaf_one : heard (three ++ flags 2 (record same_flags { self_deaf = Some true }) ∷ []) 1 talk ≡ (3, 0) ∷ []
  pub by_a_muted_one : heard (three ++ flags 2 (record same_flags { mute = Some true }) ∷ []) 1 talk ≡ (2, 0) ∷ (3, 0) ∷ []
  pub not_from_a_muted_one : heard (three ++ flags 1 (record same_flags { self_mute = Some true }) ∷ []) 1 talk ≡ []
  pub not_from_a_suppressed_one : heard (three ++ without 0 SPEAK ∷ []) 1 talk ≡ []
  pub once_it_is_cleared_where_it_may_speak :
      let made = three ++ linked ++ set_policy 1 (one (denies everybody SPEAK)) ∷ move 2 1 ∷ enter 1 2 ∷ enter 2 2 ∷ move 2 0 ∷ [] in
      (heard made 1 talk ≡ []) × (heard (made ++ clear 1 ∷ []) 1 talk ≡ (2, 0) ∷ [])

pub talk_is_heard : TalkIsHeard
unfolding heard
talk_is_heard = search

-- ---- voice targets: 1 to those in a channel, 2 to those named, 3 to those who listen

-- session 1 whispers to these items, as its target 1
abbrev pub whispered : List Edit → List TargetItem → List (ℕ × ℕ)
whispered edits items = heard (edits ++ set_target 1 1 items ∷ []) 1 1

-- session 2 is in channel 1, 3 in 2, and 4 listens to 3
abbrev pub spread_out : List Edit
spread_out = five ++ with_a_child ++ enter 2 1 ∷ enter 3 2 ∷ listen 4 3 ∷ []

-- channel 1 with its links and those below it
abbrev pub wide : TargetItem
wide = with_children (with_links (item_channel 1))

pub record WhispersAreHeard : Type 0 where
  pub by_channel_by_link_below_by_name_and_by_listening :
      whispered spread_out (wide ∷ item_sessions (2 ∷ 5 ∷ []) ∷ []) ≡ (2, 1) ∷ (3, 1) ∷ (4, 3) ∷ (5, 2) ∷ []
  pub by_those_named_alone_where_nobody_is_in_the_group :
      whispered spread_out (with_group (codes "auth") wide ∷ item_sessions (2 ∷ 5 ∷ []) ∷ []) ≡ (2, 2) ∷ (5, 2) ∷ []
  pub in_one_channel : whispered spread_out (item_channel 1 ∷ []) ≡ (2, 1) ∷ []
  pub below_it : whispered spread_out (with_children (item_channel 1) ∷ []) ≡ (2, 1) ∷ (3, 1) ∷ []
  pub not_below_what_is_linked : whispered spread_out (with_children (with_links (item_channel 3)) ∷ []) ≡ (2, 1) ∷ (4, 3) ∷ []
  pub by_nobody_where_none_is_set : heard spread_out 1 1 ≡ []
  pub not_where_the_speaker_may_not_whisper : whispered (spread_out ++ without 1 WHISPER ∷ []) (wide ∷ []) ≡ (3, 1) ∷ (4, 3) ∷ []
  pub not_by_name_where_the_speaker_may_not_whisper : whispered (spread_out ++ without 1 WHISPER ∷ []) (item_sessions (2 ∷ 3 ∷ []) ∷ []) ≡ (3, 2) ∷ []
  pub speak_is_not_asked : whispered (spread_out ++ without 1 SPEAK ∷ []) (item_channel 1 ∷ []) ≡ (2, 1) ∷ []
  pub first_in_the_channel_then_by_name_then_by_listening :
      let made = three ++ linked ++ listen 2 1 ∷ listen 2 0 ∷ [] in
      (whispered made (item_sessions (2 ∷ []) ∷ item_channel 0 ∷ []) ≡ (2, 1) ∷ (3, 1) ∷ [])
      × (whispered made (item_channel 1 ∷ item_sessions (2 ∷ []) ∷ []) ≡ (2, 2) ∷ [])
      × (whispered made (item_channel 1 ∷ []) ≡ (2, 3) ∷ [])
  pub to_a_session_and_not_to_the_next_in_its_slot :
      whispered (three ++ leave 2 ∷ join 4 1 (codes "dan") ∷ []) (item_sessions (2 ∷ 3 ∷ []) ∷ []) ≡ (3, 2) ∷ []
  pub by_others_than_the_speaker_each_once : whispered three (item_sessions (3 ∷ 1 ∷ 3 ∷ 2 ∷ []) ∷ item_sessions (2 ∷ []) ∷ []) ≡ (2, 2) ∷ (3, 2) ∷ []
  pub not_in_a_channel_that_is_gone : whispered (spread_out ++ remove 1 1 ∷ []) (wide ∷ []) ≡ []

pub whispers_are_heard : WhispersAreHeard
unfolding heard
whispers_are_heard = search

-- ---- a group is asked in each covered channel for an entry of that channel

-- sessions 2 and 3 have account 7, 4 and 5 account 8; 2 and 4 are in channel 1, 3 and 5 in channel 2 below it
abbrev pub accounts_apart : List Edit
accounts_apart =
    add_account 7 (codes "zoe") ∷ add_account 8 (codes "yan") ∷ join 1 0 (codes "ann") ∷ join_as 2 1 (codes "bob") (Some 7) []
    ∷ join_as 3 2 (codes "cat") (Some 7) [] ∷ join_as 4 3 (codes "dan") (Some 8) [] ∷ join_as 5 4 (codes "eve") (Some 8) []
    ∷ (with_a_child ++ enter 2 1 ∷ enter 4 1 ∷ enter 3 2 ∷ enter 5 2 ∷ [])

abbrev pub to_staff : List TargetItem
to_staff = with_group (codes "staff") (with_children (item_channel 1)) ∷ []

abbrev pub staff : ℕ → List ℕ → List ℕ → Edit
staff id adds removes = set_policy id (defines (group (codes "staff") adds removes))

pub record GroupsHear : Type 0 where
  pub a_group_from_above : whispered (accounts_apart ++ staff 0 (7 ∷ []) [] ∷ []) to_staff ≡ (2, 1) ∷ (3, 1) ∷ []
  pub others_in_each_channel : whispered (accounts_apart ++ staff 1 (7 ∷ []) [] ∷ staff 2 (8 ∷ []) (7 ∷ []) ∷ []) to_staff ≡ (2, 1) ∷ (5, 1) ∷ []
  pub a_group_from_below_is_none_above : whispered (accounts_apart ++ staff 2 (7 ∷ []) [] ∷ []) to_staff ≡ (3, 1) ∷ []
  pub those_inside : whispered accounts_apart (with_group (codes "in") (with_children (item_channel 1)) ∷ []) ≡ (2, 1) ∷ (3, 1) ∷ (4, 1) ∷ (5, 1) ∷ []
  pub a_listener_that_is_in_it_where_it_listens :
      (whispered (accounts_apart ++ staff 2 (8 ∷ []) [] ∷ enter 5 0 ∷ listen 5 1 ∷ []) to_staff ≡ [])
      × (whispered (accounts_apart ++ staff 2 (8 ∷ []) [] ∷ enter 5 0 ∷ listen 5 2 ∷ []) to_staff ≡ (5, 3) ∷ [])

pub groups_hear : GroupsHear
unfolding heard
groups_hear = search

-- ---- loopback comes back to the speaker alone, if it may be heard

pub record LoopbackIsHeard : Type 0 where
  pub by_the_speaker_alone : heard (each_in_its_own ++ listen 2 1 ∷ []) 1 loopback ≡ (1, 0) ∷ []
  pub without_speak_or_whisper :
      heard (each_in_its_own ++ set_policy 2 (one (denies everybody SPEAK)) ∷ without 1 WHISPER ∷ move 1 2 ∷ []) 1 loopback ≡ (1, 0) ∷ []
  pub not_from_a_muted_one : heard (three ++ flags 1 (record same_flags { mute = Some true }) ∷ []) 1 loopback ≡ []
  pub not_from_a_suppressed_one : heard (three ++ without 0 SPEAK ∷ []) 1 loopback ≡ []
  pub not_from_one_that_left : heard (three ++ leave 1 ∷ []) 1 loopback ≡ []

pub loopback_is_heard : LoopbackIsHeard
unfolding heard
loopback_is_heard = search
