-- What follows from an edit: who may speak where it is, and which temporary channel goes, worked out on small states.
use Rattle.mum_state.proofs.Common.{◌≡◌, ℕ, ◌-◌, true, List, [], ◌∷◌, ◌++◌, codes, map, Some, None, SPEAK, START, denies, everybody, grants, one, only_here, plain, the_account, those_in, two, to_parent, partners, channel, same_flags, session, to_channel, to_listen, unchanged, Edit, Text}
use Rattle.mum_state.proofs.Scenes.{add_account, channels_in, clear, counts_in, edit_by, enter, join, join_as, kick, leave, link, listen, listened_in, make, make_temporary, places_in, policy_in, remove, rights_in, set_policy, set_tokens, set_user, set_user_by, slots_in, state, suppressed_in}

abbrev ann : List ℕ
ann = codes "ann"

abbrev bob : List ℕ
bob = codes "bob"

abbrev cat : List ℕ
cat = codes "cat"

abbrev a : List ℕ
a = codes "A"

abbrev b : List ℕ
b = codes "B"

-- two sessions in the root
abbrev two_joined : List Edit
two_joined = join 1 0 ann ∷ join 2 1 bob ∷ []

-- nobody may speak anywhere
abbrev silence : Edit
silence = set_policy 0 (one (denies everybody SPEAK))

-- session 1 alone may, though no policy lets it
abbrev one_cleared : List Edit
one_cleared = two_joined ++ silence ∷ clear 1 ∷ []

-- nobody may speak, but those with the token
abbrev with_key : Edit
with_key = set_policy 0 (two (denies everybody SPEAK) (grants (those_in (codes "#key")) SPEAK))

-- ---- who may speak is set again for all where a policy is set

pub record PoliciesSuppress : Type 0 where
  pub all_by_a_policy :
      let after = two_joined ++ silence ∷ [] in
      (suppressed_in after ≡ 1 ∷ 2 ∷ []) × (counts_in after ≡ (2, 1, 3)) × (slots_in after 2 ≡ 1 ∷ 1 ∷ [])
  pub where_it_applies : suppressed_in (two_joined ++ make 1 0 a ∷ enter 2 1 ∷ set_policy 1 (one (denies everybody SPEAK)) ∷ []) ≡ 2 ∷ []
  pub by_the_policy_of_another_channel_too : suppressed_in (one_cleared ++ make 1 0 a ∷ set_policy 1 plain ∷ []) ≡ 1 ∷ 2 ∷ []
  pub unless_it_is_cleared :
      (suppressed_in one_cleared ≡ 2 ∷ []) × (counts_in one_cleared ≡ (3, 1, 4)) × (slots_in one_cleared 2 ≡ 1 ∷ 1 ∷ [])
  pub no_longer : suppressed_in (two_joined ++ silence ∷ set_policy 0 plain ∷ []) ≡ []

pub policies_suppress : PoliciesSuppress
unfolding state
policies_suppress = search

-- ---- and for a session that joins, that enters a channel, or whose tokens are set

pub record SessionsAreSetAgain : Type 0 where
  pub by_a_join : suppressed_in (two_joined ++ silence ∷ join 3 2 cat ∷ []) ≡ 1 ∷ 2 ∷ 3 ∷ []
  pub not_by_the_coming_and_going_of_another : suppressed_in (one_cleared ++ join 3 2 cat ∷ leave 2 ∷ []) ≡ 3 ∷ []
  pub by_a_move :
      let after = one_cleared ++ make 1 0 a ∷ enter 1 1 ∷ [] in
      (suppressed_in after ≡ 1 ∷ 2 ∷ []) × (counts_in after ≡ (4, 2, 6)) × (slots_in after 2 ≡ 2 ∷ 1 ∷ [])
  pub a_clearing_of_the_same_move_comes_after :
      suppressed_in (one_cleared ++ make 1 0 a ∷ set_user_by 1 1 true (to_channel 1) ∷ []) ≡ 2 ∷ []
  pub not_by_a_move_to_where_it_is :
      let after = one_cleared ++ enter 1 0 ∷ [] in
      (suppressed_in after ≡ 2 ∷ []) × (counts_in after ≡ (4, 1, 5)) × (slots_in after 2 ≡ 1 ∷ 1 ∷ [])
  pub by_tokens_also_where_there_are_none :
      let after = one_cleared ++ set_tokens 1 [] ∷ [] in (suppressed_in after ≡ 1 ∷ 2 ∷ []) × (slots_in after 2 ≡ 2 ∷ 1 ∷ [])
  pub not_by_the_tokens_of_another : suppressed_in (one_cleared ++ set_tokens 2 [] ∷ []) ≡ 2 ∷ []
  pub not_by_a_flag : suppressed_in (one_cleared ++ set_user 1 (record unchanged { flags = record same_flags { mute = Some true } }) ∷ []) ≡ 2 ∷ []
  pub not_by_a_text : suppressed_in (one_cleared ++ Text (session 1) [] [] [] (codes "hi") ∷ []) ≡ 2 ∷ []

pub sessions_are_set_again : SessionsAreSetAgain
unfolding state
sessions_are_set_again = search

-- ---- by what it may do then, in the channel in which it then is

pub record BySpeak : Type 0 where
  pub a_token_that_is_set : suppressed_in (two_joined ++ with_key ∷ set_tokens 2 (codes "KEY" ∷ []) ∷ []) ≡ 1 ∷ []
  pub a_token_of_the_login : suppressed_in (with_key ∷ join_as 1 0 ann None (codes "key" ∷ []) ∷ join 2 1 bob ∷ []) ≡ 2 ∷ []
  pub an_account :
      let policy = set_policy 0 (two (denies everybody SPEAK) (grants (the_account 7) SPEAK)) in
      suppressed_in (add_account 7 ann ∷ policy ∷ join_as 1 0 ann (Some 7) [] ∷ join 2 1 bob ∷ []) ≡ 2 ∷ []
  pub superuser_may_not_speak_unless_cleared :
      let joined = add_account 0 ann ∷ join_as 1 0 ann (Some 0) [] ∷ [] in (suppressed_in joined ≡ 1 ∷ []) × (suppressed_in (joined ++ clear 1 ∷ []) ≡ [])
  pub the_channel_that_is_entered :
      let in_a = join 1 0 ann ∷ make 1 0 a ∷ make 2 0 b ∷ set_policy 1 (one (denies everybody SPEAK)) ∷ enter 1 1 ∷ [] in
      (suppressed_in in_a ≡ 1 ∷ []) × (suppressed_in (in_a ++ enter 1 2 ∷ []) ≡ [])
  pub a_group_that_asks_where_the_session_is :
      let outside = join 1 0 ann ∷ make 1 0 a ∷ set_policy 1 (one (only_here (denies (those_in (codes "in")) SPEAK))) ∷ [] in
      (rights_in outside 1 1 ≡ Some START.0) × (rights_in (outside ++ enter 1 1 ∷ []) 1 1 ≡ Some (START.0 - SPEAK.0))
      × (suppressed_in (outside ++ enter 1 1 ∷ []) ≡ 1 ∷ [])
  pub a_channel_that_is_moved_under_a_session_is_not_entered :
      let after = two_joined ++ make 1 0 a ∷ make 2 0 b ∷ set_policy 2 (one (denies everybody SPEAK)) ∷ enter 1 1 ∷ edit_by (Some 2) 1 (to_parent 2) ∷ [] in
      (suppressed_in after ≡ []) × (rights_in after 1 1 ≡ Some (START.0 - SPEAK.0)) × (counts_in after ≡ (4, 4, 7)) × (slots_in after 2 ≡ 2 ∷ 1 ∷ [])
  pub the_maker_of_a_temporary_channel_enters_it :
      suppressed_in (join 1 0 ann ∷ set_policy 0 (one (only_here (denies everybody SPEAK))) ∷ make_temporary (Some 1) 1 0 a ∷ []) ≡ []
  pub who_was_in_a_removed_channel_enters_its_parent :
      suppressed_in (join 1 0 ann ∷ make 1 0 a ∷ set_policy 1 (one (denies everybody SPEAK)) ∷ enter 1 1 ∷ remove 1 1 ∷ []) ≡ []
  pub and_may_not_speak_there :
      let made = join 1 0 ann ∷ make 1 0 a ∷ make 2 1 b ∷ enter 1 2 ∷ set_policy 1 (one (only_here (denies everybody SPEAK))) ∷ [] in
      (suppressed_in made ≡ []) × (places_in (made ++ remove 2 1 ∷ []) ≡ 1 ∷ []) × (suppressed_in (made ++ remove 2 1 ∷ []) ≡ 1 ∷ [])
  pub who_was_above_or_beside_it_does_not_enter :
      suppressed_in (two_joined ++ make 1 0 a ∷ make 2 1 b ∷ make 3 0 b ∷ enter 1 1 ∷ enter 2 3 ∷ silence ∷ clear 1 ∷ clear 2 ∷ remove 2 1 ∷ []) ≡ []

pub by_speak : BySpeak
unfolding state
by_speak = search

-- ---- a temporary channel goes by the edit by which its last member leaves it, with all that is its own

-- session 1 made a temporary channel, and is in it
abbrev in_its_own : List Edit
in_its_own = two_joined ++ make_temporary (Some 1) 1 0 a ∷ []

pub record TemporaryChannelsGo : Type 0 where
  pub by_a_move_with_a_listener_that_the_same_edit_adds :
      let after = in_its_own ++ set_user 1 (record (to_listen (1 ∷ []) []) { channel = Some (channel 0) }) ∷ [] in
      (channels_in after ≡ 0 ∷ []) × (places_in after ≡ 0 ∷ 0 ∷ []) × (listened_in after 1 ≡ []) × (counts_in after ≡ (4, 2, 4)) × (slots_in after 2 ≡ 3 ∷ 1 ∷ [])
  pub by_a_leave :
      let after = in_its_own ++ leave 1 ∷ [] in (channels_in after ≡ 0 ∷ []) × (counts_in after ≡ (4, 2, 4)) × (slots_in after 2 ≡ 2 ∷ 1 ∷ [])
  pub by_a_kick : state (in_its_own ++ kick 1 2 ∷ []) ≡ state (in_its_own ++ leave 1 ∷ [])
  pub by_the_making_of_another :
      let after = in_its_own ++ make_temporary (Some 1) 5 0 b ∷ [] in
      (channels_in after ≡ 0 ∷ 5 ∷ []) × (places_in after ≡ 5 ∷ 0 ∷ []) × (counts_in after ≡ (4, 2, 4)) × (slots_in after 2 ≡ 3 ∷ 1 ∷ [])
  pub its_place_is_free_after_that_edit :
      let after = in_its_own ++ make_temporary (Some 1) 5 0 b ∷ make 6 0 a ∷ [] in
      (channels_in after ≡ 0 ∷ 5 ∷ 6 ∷ []) × (map (λ row. row.place) (state after).tree.channels ≡ 0 ∷ 2 ∷ 1 ∷ [])
  pub by_a_move_into_another : channels_in (in_its_own ++ make_temporary (Some 2) 2 0 b ∷ enter 1 2 ∷ []) ≡ 0 ∷ 2 ∷ []
  pub by_its_removal :
      let after = in_its_own ++ remove 1 1 ∷ [] in (channels_in after ≡ 0 ∷ []) × (places_in after ≡ 0 ∷ 0 ∷ []) × (counts_in after ≡ (4, 2, 4))
  pub by_a_removal_below_one_that_is_kept :
      let after = join 1 0 ann ∷ make 1 0 a ∷ make_temporary (Some 1) 2 1 b ∷ remove 2 1 ∷ [] in (channels_in after ≡ 0 ∷ 1 ∷ []) × (places_in after ≡ 1 ∷ [])
  pub not_while_a_session_is_in_it :
      (channels_in (in_its_own ++ enter 2 1 ∷ leave 1 ∷ []) ≡ 0 ∷ 1 ∷ []) × (counts_in (in_its_own ++ enter 2 1 ∷ leave 1 ∷ []) ≡ (5, 1, 5))
      × (channels_in (in_its_own ++ enter 2 1 ∷ leave 1 ∷ leave 2 ∷ []) ≡ 0 ∷ []) × (counts_in (in_its_own ++ enter 2 1 ∷ leave 1 ∷ leave 2 ∷ []) ≡ (6, 2, 6))
  pub not_by_a_move_to_where_it_is : (channels_in (in_its_own ++ enter 1 1 ∷ []) ≡ 0 ∷ 1 ∷ []) × (counts_in (in_its_own ++ enter 1 1 ∷ []) ≡ (4, 1, 4))
  pub not_where_no_session_was_in_it : channels_in (two_joined ++ make_temporary None 1 0 a ∷ leave 1 ∷ []) ≡ 0 ∷ 1 ∷ []
  pub not_one_that_is_not_temporary : channels_in (two_joined ++ make 1 0 a ∷ enter 1 1 ∷ enter 1 0 ∷ []) ≡ 0 ∷ 1 ∷ []
  pub its_links_go : partners (state (in_its_own ++ make 2 0 b ∷ link 1 2 ∷ leave 1 ∷ [])).tree (channel 2) ≡ []
  pub its_listeners_go : listened_in (in_its_own ++ listen 2 1 ∷ listen 2 0 ∷ leave 1 ∷ []) 2 ≡ 0 ∷ []
  pub its_policy_goes : policy_in (in_its_own ++ set_policy 1 (one (denies everybody SPEAK)) ∷ leave 1 ∷ []) 1 ≡ None
  pub the_next_session_in_the_slot_is_in_the_root : places_in (in_its_own ++ leave 1 ∷ join 3 0 cat ∷ []) ≡ 0 ∷ 0 ∷ []

pub temporary_channels_go : TemporaryChannelsGo
unfolding state
temporary_channels_go = search
