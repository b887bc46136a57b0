-- What each edit sets, what it leaves as it was, and what it counts, worked out on small states.
use Rattle.mum_state.proofs.Common.{◌≡◌, ℕ, true, false, List, [], ◌∷◌, ◌++◌, codes, map, replicate, Option, Some, None, refl, option_map, MOVE, SPEAK, ENTER, denies, everybody, grants, one, plain, to_links, to_name, to_parent, same_channel, root_alone, FlagChange, target_of, account, channel, item_channel, item_sessions, row, same_flags, session, target, to_listen, unchanged, UserEdit, empty_roster, Account, Edit, SetServer, Text, StateValue, account_named, empty_state, no_counts}
use Rattle.mum_state.proofs.Scenes.{add_account, channels_in, counts_in, digest, edit, edit_by, enter, join, join_as, kick, leave, link, listen, listened_in, make, make_by, make_temporary, move, places_in, policy_in, remove, row_in, sessions_in, set_limits, set_policy, set_policy_by, set_target, set_tokens, set_user, set_user_by, slots_in, state, suppressed_in}

abbrev ann : List ℕ
ann = codes "ann"

abbrev bob : List ℕ
bob = codes "bob"

abbrev cat : List ℕ
cat = codes "cat"

abbrev a : List ℕ
a = codes "A"

abbrev b : List ℕ
b = codes "B"

abbrev c : List ℕ
c = codes "C"

-- the same state, at this revision
abbrev with_revision : ℕ → StateValue → StateValue
with_revision revision state = record state { counts = record state.counts { revision = revision } }

-- ---- the configuration's own: nothing is counted

abbrev account_of : ℕ → List ℕ → Account
account_of number name = record { account = account number; name = name; digest = digest }

abbrev names_by : List Edit → List ℕ → Option ℕ
names_by edits name = option_map (λ found. found.account.0) (account_named (state edits) name)

pub record ConfigurationsSet : Type 0 where
  pub the_settings_as_a_whole :
      state (SetServer (codes "hello") 9000 (Some digest) ∷ SetServer (codes "hi") 8000 None ∷ [])
      ≡ record empty_state { server = record { welcome = codes "hi"; bandwidth = 8000; password = None } }
  pub an_account : state (add_account 7 (codes "zoe") ∷ []) ≡ record empty_state { accounts = account_of 7 (codes "zoe") ∷ [] }
  pub accounts_are_found_by_their_names :
      map (names_by (add_account 7 (codes "zoe") ∷ add_account 0 (codes "amy") ∷ add_account 3 (codes "moe") ∷ []))
      (codes "amy" ∷ codes "moe" ∷ codes "zoe" ∷ codes "zo" ∷ codes "zoey" ∷ []) ≡ Some 0 ∷ Some 3 ∷ Some 7 ∷ None ∷ None ∷ []

pub configurations_set : ConfigurationsSet
unfolding state
configurations_set = search

-- ---- limits: the routing count

pub record LimitsRise : Type 0 where
  pub both_and_the_routing_count :
      state (set_limits 512 2048 ∷ [])
      ≡ record empty_state {
        tree = record root_alone { limit = 2048 };
        roster = record empty_roster { limit = 512 };
        counts = record no_counts { routing = 1 };
      }

pub limits_rise : LimitsRise
unfolding state
limits_rise = record { both_and_the_routing_count = refl }

-- ---- sessions come and go: the revision, the routing count, and the count of the slot of one that joins

abbrev two_joined : List Edit
two_joined = join 1 0 ann ∷ join 2 1 bob ∷ []

abbrev first_listens_and_aims : List Edit
first_listens_and_aims = two_joined ++ make 1 0 a ∷ listen 1 1 ∷ set_target 1 2 (item_channel 1 ∷ []) ∷ []

pub record SessionsComeAndGo : Type 0 where
  pub a_session_joins :
      state (join 1 0 ann ∷ [])
      ≡ record empty_state {
        roster = record empty_roster { sessions = row 1 0 ann ∷ []; last = 1 };
        counts = record { revision = 1; policy = 0; routing = 1; slots = 1 ∷ replicate 511 0 };
      }
  pub with_an_account_and_tokens :
      row_in (add_account 7 (codes "zoe") ∷ join_as 1 0 (codes "zoe") (Some 7) (codes "key" ∷ codes "word" ∷ []) ∷ []) 1
      ≡ Some (record (row 1 0 (codes "zoe")) { account = Some (account 7); tokens = codes "key" ∷ codes "word" ∷ [] })
  pub a_second_joins : (counts_in two_joined ≡ (2, 0, 2)) × (slots_in two_joined 3 ≡ 1 ∷ 1 ∷ 0 ∷ [])
  pub a_session_leaves_with_its_listening_and_its_targets :
      let after = first_listens_and_aims ++ leave 1 ∷ [] in
      (sessions_in after ≡ 2 ∷ []) × (listened_in after 1 ≡ []) × (target_of (state after).roster (session 1) 2 ≡ None)
      × (counts_in after ≡ (5, 1, 6)) × (slots_in after 2 ≡ 1 ∷ 1 ∷ [])
  pub a_kick_leaves_the_same : state (first_listens_and_aims ++ kick 1 2 ∷ []) ≡ state (first_listens_and_aims ++ leave 1 ∷ [])
  pub to_what_others_listen_and_aim_is_kept :
      let after = two_joined ++ listen 2 0 ∷ set_target 2 1 (item_sessions (1 ∷ []) ∷ []) ∷ leave 1 ∷ [] in
      (listened_in after 2 ≡ 0 ∷ []) × (target_of (state after).roster (session 2) 1 ≡ Some (target (item_sessions (1 ∷ []) ∷ [])))
  pub a_slot_that_is_given_again_goes_on_counting : slots_in (two_joined ++ leave 1 ∷ join 3 0 cat ∷ []) 2 ≡ 2 ∷ 1 ∷ []

pub sessions_come_and_go : SessionsComeAndGo
unfolding state
sessions_come_and_go = search

-- ---- channels: the policy count where paths may be others, the routing count where links may be

pub record ChannelsAreCounted : Type 0 where
  pub one_of_a_configuration : (counts_in (make 1 0 a ∷ []) ≡ (0, 1, 1)) × (policy_in (make 1 0 a ∷ []) 1 ≡ Some plain)
  pub one_that_a_session_makes :
      let after = join 1 0 ann ∷ make_by (Some 1) 1 0 a ∷ [] in (counts_in after ≡ (2, 1, 2)) × (slots_in after 1 ≡ 1 ∷ [])
  pub the_maker_of_a_temporary_one_enters_it :
      let after = two_joined ++ make_temporary (Some 1) 1 0 a ∷ [] in
      (places_in after ≡ 1 ∷ 0 ∷ []) × (counts_in after ≡ (3, 1, 3)) × (slots_in after 2 ≡ 2 ∷ 1 ∷ [])
  pub a_name_is_read_by_no_path_and_no_route : counts_in (make 1 0 a ∷ edit 1 (to_name b) ∷ []) ≡ (0, 1, 1)
  pub with_an_actor_it_counts_in_the_revision : counts_in (join 1 0 ann ∷ make 1 0 a ∷ edit_by (Some 1) 1 (to_name b) ∷ []) ≡ (2, 1, 2)
  pub a_parent_counts_also_where_it_is_the_same : counts_in (make 1 0 a ∷ move 1 0 ∷ []) ≡ (0, 2, 2)
  pub links_count_in_the_routes_also_where_they_change_nothing :
      (counts_in (make 1 0 a ∷ link 1 1 ∷ []) ≡ (0, 1, 2)) × (counts_in (make 1 0 a ∷ edit 1 (to_links [] (0 ∷ [])) ∷ []) ≡ (0, 1, 2))
  pub nothing_given : state (join 1 0 ann ∷ make 1 0 a ∷ edit_by (Some 1) 1 same_channel ∷ []) ≡ with_revision 2 (state (join 1 0 ann ∷ make 1 0 a ∷ []))

pub channels_are_counted : ChannelsAreCounted
unfolding state
channels_are_counted = search

-- A (1) with B (2) and C (3) below it, made by session 1, which is in C and listens to B; session 2 is in A
abbrev a_subtree : List Edit
a_subtree =
    two_joined ++ make_by (Some 1) 1 0 a ∷ make_by (Some 1) 2 1 b ∷ make_by (Some 1) 3 2 c
    ∷ set_user 1 (record (to_listen (2 ∷ []) []) { channel = Some (channel 3) }) ∷ enter 2 1 ∷ set_policy_by (Some 1) 3 (one (denies everybody SPEAK)) ∷ []

pub record ChannelsGo : Type 0 where
  pub before_it_goes :
      (places_in a_subtree ≡ 3 ∷ 1 ∷ []) × (suppressed_in a_subtree ≡ 1 ∷ []) × (counts_in a_subtree ≡ (8, 4, 8)) × (slots_in a_subtree 2 ≡ 2 ∷ 2 ∷ [])
  pub who_was_below_enters_its_parent :
      let after = a_subtree ++ remove 2 2 ∷ [] in
      (channels_in after ≡ 0 ∷ 1 ∷ []) × (places_in after ≡ 1 ∷ 1 ∷ []) × (suppressed_in after ≡ []) × (listened_in after 1 ≡ [])
      × (counts_in after ≡ (9, 5, 9)) × (slots_in after 2 ≡ 3 ∷ 2 ∷ [])
  pub its_policy_is_not_that_of_the_next_at_its_place :
      let after = join 1 0 ann ∷ make 1 0 a ∷ set_policy 1 (one (denies everybody ENTER)) ∷ remove 1 1 ∷ make 2 0 b ∷ [] in
      (policy_in after 1 ≡ None) × (policy_in after 2 ≡ Some plain)

pub channels_go : ChannelsGo
unfolding state
channels_go = search

-- ---- a session's own: what it is in and may hear counts in the routes, what it is asked by in its slot

abbrev everything : UserEdit
everything = record {
  channel = Some (channel 1);
  flags = record same_flags { deaf = Some true; priority = Some true; recording = Some true };
  comment = Some (codes "hello");
  context = Some (codes "game");
  listen = channel 1 ∷ channel 0 ∷ [];
  unlisten = channel 2 ∷ [];
}

-- of session 1, alone and by itself
abbrev alone : UserEdit → ℕ × ℕ × ℕ
alone change = counts_in (join 1 0 ann ∷ set_user 1 change ∷ [])

abbrev with_flags : (FlagChange → FlagChange) → UserEdit
with_flags flags = record unchanged { flags = flags same_flags }

pub record SessionsAreCounted : Type 0 where
  pub all_parts :
      let after = join 1 0 ann ∷ make 1 0 a ∷ make 2 0 b ∷ listen 1 2 ∷ set_user 1 everything ∷ [] in
      (row_in after 1 ≡ Some (record (row 1 0 ann) {
        channel = channel 1;
        mute = true;
        deaf = true;
        priority = true;
        recording = true;
        comment = codes "hello";
        context = codes "game";
      }))
      × (listened_in after 1 ≡ 0 ∷ 1 ∷ []) × (counts_in after ≡ (3, 2, 5)) × (slots_in after 1 ≡ 2 ∷ [])
  pub another_sets_them :
      let after = two_joined ++ set_user_by 1 2 false (with_flags (λ flags. record flags { mute = Some true })) ∷ [] in
      (row_in after 1 ≡ Some (record (row 1 0 ann) { mute = true })) × (counts_in after ≡ (3, 0, 3)) × (slots_in after 2 ≡ 1 ∷ 1 ∷ [])
  pub what_no_route_reads_counts_in_the_revision_alone :
      alone (record (with_flags (λ flags. record flags { priority = Some true; recording = Some true })) { comment = Some ann; context = Some bob }) ≡ (2, 0, 1)
  pub nothing_given : alone unchanged ≡ (2, 0, 1)
  pub each_of_the_others_counts_in_the_routes_also_where_it_changes_nothing :
      map alone (
      record unchanged { channel = Some (channel 0) }
      ∷ with_flags (λ flags. record flags { mute = Some false })
      ∷ with_flags (λ flags. record flags { deaf = Some false })
      ∷ with_flags (λ flags. record flags { self_mute = Some false })
      ∷ with_flags (λ flags. record flags { self_deaf = Some false })
      ∷ to_listen (0 ∷ []) []
      ∷ to_listen [] (0 ∷ [])
      ∷ []
      ) ≡ replicate 7 (2, 0, 2)
  pub a_clearing_too : counts_in (join 1 0 ann ∷ set_user_by 1 1 true unchanged ∷ []) ≡ (2, 0, 2)
  pub tokens_count_in_the_slot_also_where_they_are_the_same :
      let after = join_as 1 0 ann None (codes "key" ∷ []) ∷ set_tokens 1 (codes "key" ∷ []) ∷ [] in
      (counts_in after ≡ (2, 0, 2)) × (slots_in after 1 ≡ 2 ∷ [])
  pub a_voice_target_counts_in_the_routes :
      (counts_in (join 1 0 ann ∷ set_target 1 7 (item_channel 3 ∷ []) ∷ []) ≡ (2, 0, 2)) × (counts_in (join 1 0 ann ∷ set_target 1 7 [] ∷ []) ≡ (2, 0, 2))

pub sessions_are_counted : SessionsAreCounted
unfolding state
sessions_are_counted = search

-- ---- policies, and a text

pub record PoliciesAndTexts : Type 0 where
  pub a_policy_that_a_session_sets :
      let after = join 1 0 ann ∷ make 1 0 a ∷ set_policy_by (Some 1) 1 (one (grants everybody MOVE)) ∷ [] in
      (policy_in after 1 ≡ Some (one (grants everybody MOVE))) × (policy_in after 0 ≡ Some plain) × (counts_in after ≡ (2, 2, 3)) × (slots_in after 1 ≡ 1 ∷ [])
  pub one_of_a_configuration : counts_in (set_policy 0 (one (denies everybody SPEAK)) ∷ []) ≡ (0, 1, 1)
  pub it_is_in_place_of_the_one_before :
      policy_in (set_policy 0 (one (denies everybody SPEAK)) ∷ set_policy 0 (one (denies everybody ENTER)) ∷ []) 0 ≡ Some (one (denies everybody ENTER))
  pub a_text_changes_nothing_and_counts_in_the_revision :
      state (join 1 0 ann ∷ Text (session 1) (session 1 ∷ []) (channel 0 ∷ []) (channel 9 ∷ []) (codes "hi") ∷ [])
      ≡ with_revision 2 (state (join 1 0 ann ∷ []))

pub policies_and_texts : PoliciesAndTexts
unfolding state
policies_and_texts = search

-- ---- the revision counts what sessions do

pub record RevisionsCount : Type 0 where
  pub those_of_a_configuration_are_not_counted :
      counts_in (make 1 0 a ∷ make 2 0 b ∷ move 1 2 ∷ link 1 2 ∷ set_policy 1 (one (denies everybody SPEAK)) ∷ []) ≡ (0, 4, 5)
  pub those_of_a_session_are :
      counts_in (
      join 1 0 ann ∷ make_by (Some 1) 1 0 a ∷ make_by (Some 1) 2 0 b ∷ edit_by (Some 1) 1 (to_parent 2) ∷ edit_by (Some 1) 1 (to_links (2 ∷ []) [])
      ∷ set_policy_by (Some 1) 1 (one (denies everybody SPEAK)) ∷ []
      ) ≡ (6, 4, 6)

pub revisions_count : RevisionsCount
unfolding state
revisions_count = search
