-- Which edits fit a state, worked out on small states.
use Rattle.mum_state.proofs.Common.{◌≡◌, ℕ, zero, suc, ◌-◌, ◌^◌, Bool, true, false, List, [], ◌∷◌, ◌++◌, codes, map, replicate, Some, None, refl, ALL, SPEAK, defines, denies, entry, everybody, grants, group, one, plain, policy, the_account, TreeState, plain_info, beside, linked_to, nested, to_links, to_name, to_parent, to_placement, tree, two_letters, same_channel, account, all_listen, channel, item_channel, item_sessions, joins, listens_to, numbers_from, roster, session, to_listen, unchanged, with_group, Account, Edit, Kick, MakeChannel, SetServer, Text, fits, with_limits, StateValue, empty_state}
use Rattle.mum_state.proofs.Scenes.{add_account, digest, edit, edit_by, enter, join, join_as, kick, leave, make, make_by, make_temporary, move, remove, set_limits, set_policy, set_policy_by, set_target, set_tokens, set_user, set_user_by, state}

abbrev ann : List ℕ
ann = codes "ann"

abbrev bob : List ℕ
bob = codes "bob"

abbrev a : List ℕ
a = codes "A"

abbrev b : List ℕ
b = codes "B"

-- a text of this length
abbrev letters : ℕ → List ℕ
letters count = replicate count 120

-- which of the edits fit the state to which the first ones lead
abbrev fit_after : List Edit → List Edit → List Bool
fit_after made edits = map (fits (state made)) edits

abbrev fits_after : List Edit → Edit → Bool
fits_after made edit = fits (state made) edit

-- ---- whom and what an edit names is there

-- the edits in which a session acts or is acted on, by session 1 where there are two
abbrev edits_of : ℕ → List Edit
edits_of number =
    leave number ∷ kick number 1 ∷ kick 1 number ∷ make_by (Some number) 2 0 b ∷ edit_by (Some number) 1 same_channel ∷ remove 1 number
    ∷ set_user_by number 1 false unchanged ∷ set_user_by 1 number false unchanged ∷ set_tokens number [] ∷ set_target number 1 []
    ∷ set_policy_by (Some number) 1 plain ∷ Text (session number) [] [] [] [] ∷ []

-- the edits in which a channel is named
abbrev edits_at : ℕ → List Edit
edits_at id =
    make 5 id b ∷ edit id same_channel ∷ edit 2 (to_parent id) ∷ edit 2 (to_links (id ∷ []) []) ∷ edit 2 (to_links [] (id ∷ [])) ∷ remove id 1
    ∷ enter 1 id ∷ set_user 1 (to_listen (id ∷ []) []) ∷ set_user 1 (to_listen [] (id ∷ [])) ∷ set_policy id plain ∷ []

abbrev with_two_channels : List Edit
with_two_channels = join 1 0 ann ∷ make 1 0 a ∷ make 2 0 b ∷ []

pub record NamedIsThere : Type 0 where
  pub a_session_that_is_there : fit_after (join 1 0 ann ∷ make 1 0 a ∷ []) (edits_of 1) ≡ replicate 12 true
  pub one_that_is_not : fit_after (join 1 0 ann ∷ make 1 0 a ∷ []) (edits_of 9) ≡ replicate 12 false
  pub one_that_left : fit_after (join 1 0 ann ∷ make 1 0 a ∷ join 2 1 bob ∷ leave 2 ∷ []) (edits_of 2) ≡ replicate 12 false
  pub a_channel_that_is_there : fit_after with_two_channels (edits_at 1) ≡ replicate 10 true
  pub one_that_is_not_there : fit_after with_two_channels (edits_at 9) ≡ replicate 10 false
  pub one_that_is_gone : fit_after (with_two_channels ++ make_temporary (Some 1) 3 0 (codes "T") ∷ enter 1 0 ∷ []) (edits_at 3) ≡ replicate 10 false
  pub an_account : fit_after (add_account 7 (codes "zoe") ∷ []) (join_as 1 0 ann (Some 7) [] ∷ join_as 1 0 ann (Some 8) [] ∷ []) ≡ true ∷ false ∷ []
  pub not_those_of_a_text_a_target_and_a_policy :
      fit_after (join 1 0 ann ∷ []) (
      Text (session 1) (session 9 ∷ []) (channel 9 ∷ []) (channel 9 ∷ []) [] ∷ set_target 1 1 (item_sessions (9 ∷ []) ∷ item_channel 9 ∷ [])
      ∷ set_policy 0 (one (grants (the_account 9) SPEAK)) ∷ []
      ) ≡ replicate 3 true

pub named_is_there : NamedIsThere
unfolding state
named_is_there = search

-- ---- the numbers that it gives are right

pub record NumbersAreRight : Type 0 where
  pub the_next_session_in_the_least_free_slot :
      fit_after (join 1 0 ann ∷ join 2 1 bob ∷ leave 1 ∷ []) (join 3 0 ann ∷ join 4 0 ann ∷ join 1 0 ann ∷ join 3 2 ann ∷ [])
      ≡ true ∷ false ∷ false ∷ false ∷ []
  pub a_number_above_all_that_channels_had :
      map (λ id. fits_after (join 1 0 ann ∷ make 5 0 a ∷ remove 5 1 ∷ []) (make id 0 b)) (0 ∷ 4 ∷ 5 ∷ 6 ∷ 4294967295 ∷ [])
      ≡ false ∷ false ∷ false ∷ true ∷ true ∷ []
  pub voice_targets_1_to_30 :
      map (λ id. fits_after (join 1 0 ann ∷ []) (set_target 1 id (item_channel 1 ∷ []))) (0 ∷ 1 ∷ 30 ∷ 31 ∷ []) ≡ false ∷ true ∷ true ∷ false ∷ []
  pub without_items_too : fit_after (join 1 0 ann ∷ []) (set_target 1 30 [] ∷ set_target 1 31 [] ∷ []) ≡ true ∷ false ∷ []

pub numbers_are_right : NumbersAreRight
unfolding state
numbers_are_right = search

-- ---- names

pub record NamesFit : Type 0 where
  pub the_name_of_a_sibling :
      fit_after (make 1 0 a ∷ make 2 0 b ∷ []) (make 3 0 a ∷ make 3 1 a ∷ edit 2 (to_name a) ∷ edit 2 (to_placement a 1) ∷ edit 1 (to_name a) ∷ [])
      ≡ false ∷ true ∷ false ∷ true ∷ true ∷ []
  pub the_name_of_a_channel :
      map (λ name. fits_after [] (make 1 0 name)) (letters 128 ∷ letters 129 ∷ [] ∷ codes " x" ∷ codes "x " ∷ (120 ∷ 31 ∷ 120 ∷ []) ∷ [])
      ≡ true ∷ false ∷ false ∷ false ∷ false ∷ false ∷ []
  pub a_new_name_of_a_channel :
      map (λ name. fits_after (make 1 0 a ∷ []) (edit 1 (to_name name))) (letters 128 ∷ letters 129 ∷ [] ∷ codes " x" ∷ []) ≡ true ∷ false ∷ false ∷ false ∷ []
  pub the_root_keeps_its_name_and_its_parent :
      map (λ change. fits_after (make 1 0 a ∷ []) (edit 0 change)) (to_name a ∷ to_parent 1 ∷ to_placement (codes "Root") 0 ∷ to_links (1 ∷ []) [] ∷ [])
      ≡ false ∷ false ∷ true ∷ true ∷ []
  pub the_name_of_a_session : fit_after (join 1 0 ann ∷ []) (join 2 1 ann ∷ join 2 1 (letters 128) ∷ join 2 1 (letters 129) ∷ []) ≡ false ∷ true ∷ false ∷ []
  pub the_name_and_the_number_of_an_account :
      fit_after (add_account 7 ann ∷ [])
      (add_account 7 bob ∷ add_account 8 ann ∷ add_account 8 bob ∷ add_account 8 (letters 128) ∷ add_account 8 (letters 129) ∷ [])
      ≡ false ∷ false ∷ true ∷ true ∷ false ∷ []
  pub a_session_may_have_the_name_of_an_account : fits_after (add_account 7 ann ∷ []) (join 1 0 ann) ≡ true
  pub the_name_of_a_group :
      map (λ name. fits_after [] (set_policy 0 (defines (group name [] [])))) (letters 128 ∷ letters 129 ∷ []) ≡ true ∷ false ∷ []
  pub one_that_the_same_edit_empties_still_has_its_name :
      fits_after (join 1 0 ann ∷ make_temporary (Some 1) 1 0 a ∷ []) (make_temporary (Some 1) 2 0 a) ≡ false

pub names_fit : NamesFit
unfolding state
names_fit = search

-- ---- where a channel may be

-- without policies, which no fit asks for
abbrev with_tree : TreeState → StateValue
with_tree made = record empty_state { tree = made }

pub record ChannelsFit : Type 0 where
  pub not_under_itself :
      fit_after (make 1 0 a ∷ make 2 1 b ∷ []) (move 1 1 ∷ move 1 2 ∷ move 2 0 ∷ []) ≡ false ∷ false ∷ true ∷ []
  pub not_under_a_temporary_one :
      fit_after (make_temporary None 1 0 (codes "T") ∷ make 2 0 a ∷ []) (make 3 1 b ∷ move 2 1 ∷ make 3 2 b ∷ []) ≡ false ∷ false ∷ true ∷ []
  pub at_most_32_below_the_root :
      map (fits (with_tree (tree (nested 32)))) (make 33 32 a ∷ make 33 31 a ∷ []) ≡ false ∷ true ∷ []
  pub the_root_is_not_removed : fit_after (join 1 0 ann ∷ make 1 0 a ∷ []) (remove 0 1 ∷ remove 1 1 ∷ []) ≡ false ∷ true ∷ []
  pub with_64_links_at_most :
      map (λ change. fits (with_tree (tree (beside 1 66 ++ linked_to 1 2 64))) (edit 1 change))
      (to_links (66 ∷ []) [] ∷ to_links (66 ∷ []) (2 ∷ []) ∷ to_links (65 ∷ []) [] ∷ []) ≡ false ∷ true ∷ true ∷ []

pub channels_fit : ChannelsFit
unfolding state tree
channels_fit = record {
  not_under_itself = refl;
  not_under_a_temporary_one = refl;
  at_most_32_below_the_root = refl;
  the_root_is_not_removed = refl;
  with_64_links_at_most = refl;
}

-- ---- how many there may be

abbrev with_sessions : ℕ → StateValue
with_sessions count = record empty_state { roster = roster (joins count) }

-- accounts 1 to n, each with a name of its own
abbrev accounts_to : ℕ → List Account
accounts_to zero = []
accounts_to (suc n) = record { account = account (suc n); name = two_letters n; digest = digest } ∷ accounts_to n

abbrev with_accounts : ℕ → StateValue
with_accounts count = record empty_state { accounts = accounts_to count }

-- session 65 listens to 32 channels, and all others to channel 1
abbrev with_a_crowd : StateValue
with_a_crowd = record (with_tree (tree (beside 1 40))) { roster = roster (joins 65 ++ all_listen 64 1 ++ listens_to 65 (numbers_from 2 32)) }

-- session 65 also listens to these, and no longer to those
abbrev listening_more : List ℕ → List ℕ → Bool
listening_more to away = fits with_a_crowd (set_user 65 (to_listen to away))

-- channels 1 to n below the root
abbrev made_to : ℕ → List Edit
made_to zero = []
made_to (suc n) = made_to n ++ make (suc n) 0 (two_letters (suc n)) ∷ []

-- session 1 leaves the temporary channel 33, which then goes, and listens to this number of channels
abbrev leaving_for : ℕ → ℕ → Edit
leaving_for first count = set_user 1 (record (to_listen (numbers_from first count) []) { channel = Some (channel 0) })

abbrev tokens_of : ℕ → ℕ → List (List ℕ)
tokens_of count bytes = replicate count (letters bytes)

pub record ThereIsRoom : Type 0 where
  pub for_128_sessions : (fits (with_sessions 127) (join 128 127 ann) ≡ true) × (fits (with_sessions 128) (join 129 128 ann) ≡ false)
  pub for_1024_channels :
      (fits (with_tree (tree (beside 1 1022))) (make 1023 0 a) ≡ true) × (fits (with_tree (tree (beside 1 1023))) (make 1024 0 a) ≡ false)
  pub for_1024_accounts : (fits (with_accounts 1023) (add_account 9999 ann) ≡ true) × (fits (with_accounts 1024) (add_account 9999 ann) ≡ false)
  pub for_64_listeners_of_a_channel :
      (listening_more (1 ∷ []) [] ≡ false) × (listening_more (1 ∷ []) (1 ∷ []) ≡ true) × (fits with_a_crowd (set_user 2 (to_listen (1 ∷ []) [])) ≡ true)
  pub for_32_channels_of_a_listener :
      (listening_more (34 ∷ []) [] ≡ false) × (listening_more (34 ∷ []) (2 ∷ []) ≡ true) × (listening_more (2 ∷ 3 ∷ []) [] ≡ true)
  pub for_no_more_where_one_goes_by_the_same_edit :
      fit_after (join 1 0 ann ∷ (made_to 32 ++ make_temporary (Some 1) 33 0 a ∷ [])) (leaving_for 1 33 ∷ leaving_for 2 32 ∷ []) ≡ false ∷ true ∷ []
  pub for_64_tokens_of_128_bytes :
      map (λ tokens. fits_after (join 1 0 ann ∷ []) (set_tokens 1 tokens)) (tokens_of 64 128 ∷ tokens_of 65 1 ∷ tokens_of 1 129 ∷ [])
      ≡ true ∷ false ∷ false ∷ []
  pub for_as_many_of_one_that_joins :
      map (λ tokens. fits_after [] (join_as 1 0 ann None tokens)) (tokens_of 64 128 ∷ tokens_of 65 1 ∷ tokens_of 1 129 ∷ []) ≡ true ∷ false ∷ false ∷ []
  pub for_two_to_the_62_edits :
      let counted : ℕ → StateValue = λ revision. let made = state (join 1 0 ann ∷ []) in record made { counts = record made.counts { revision = revision } } in
      (fits (counted (2 ^ 62 - 1)) (leave 1) ≡ true) × (fits (counted (2 ^ 62)) (leave 1) ≡ false)

pub there_is_room : ThereIsRoom
unfolding state tree
there_is_room = record {
  for_128_sessions = (refl, refl);
  for_1024_channels = (refl, refl);
  for_1024_accounts = (refl, refl);
  for_64_listeners_of_a_channel = (refl, refl, refl);
  for_32_channels_of_a_listener = (refl, refl, refl);
  for_no_more_where_one_goes_by_the_same_edit = refl;
  for_64_tokens_of_128_bytes = refl;
  for_as_many_of_one_that_joins = refl;
  for_two_to_the_62_edits = (refl, refl);
}

-- ---- limits

-- this number of sessions, under these limits
abbrev limited_with : ℕ → ℕ → ℕ → StateValue
limited_with count sessions channels = with_limits (with_sessions count) sessions channels

-- this number of channels below the root, under a limit of 1,025
abbrev with_channels : ℕ → StateValue
with_channels count = with_limits (with_tree (tree (beside 1 count))) 128 1025

pub record LimitsFit : Type 0 where
  pub up_to_512_sessions_and_2048_channels :
      fit_after [] (set_limits 128 1024 ∷ set_limits 512 2048 ∷ set_limits 513 2048 ∷ set_limits 512 2049 ∷ []) ≡ true ∷ true ∷ false ∷ false ∷ []
  pub none_that_falls :
      fit_after (set_limits 200 1500 ∷ []) (set_limits 199 1500 ∷ set_limits 200 1499 ∷ set_limits 200 1500 ∷ []) ≡ false ∷ false ∷ true ∷ []
  pub as_many_sessions_as_they_say :
      (fits (limited_with 128 129 1024) (join 129 128 ann) ≡ true) × (fits (limited_with 129 129 1024) (join 130 129 ann) ≡ false)
  pub as_many_channels_as_they_say : (fits (with_channels 1023) (make 1024 0 a) ≡ true) × (fits (with_channels 1024) (make 1025 0 a) ≡ false)

pub limits_fit : LimitsFit
unfolding state tree
limits_fit = record {
  up_to_512_sessions_and_2048_channels = refl;
  none_that_falls = refl;
  as_many_sessions_as_they_say = (refl, refl);
  as_many_channels_as_they_say = (refl, refl);
}

-- ---- how long texts may be, and how large policies and targets

-- the edits that set a text of this length
abbrev edits_of_length : ℕ → List Edit
edits_of_length count =
    SetServer (letters count) 9000 None ∷ MakeChannel (channel 1) (channel 0) a false (record plain_info { description = letters count }) None
    ∷ edit 0 (record same_channel { description = Some (letters count) }) ∷ set_user 1 (record unchanged { comment = Some (letters count) }) ∷ []

pub record SizesFit : Type 0 where
  pub texts_of_20_000_bytes :
      (fit_after (join 1 0 ann ∷ []) (edits_of_length 20000) ≡ replicate 4 true) × (fit_after (join 1 0 ann ∷ []) (edits_of_length 20001) ≡ replicate 4 false)
  pub a_message_and_a_reason_have_no_limit_here :
      fit_after (join 1 0 ann ∷ []) (Text (session 1) [] [] [] (letters 20001) ∷ Kick (session 1) (session 1) (letters 20001) false ∷ []) ≡ replicate 2 true
  pub a_context_of_1024_bytes :
      map (λ count. fits_after (join 1 0 ann ∷ []) (set_user 1 (record unchanged { context = Some (letters count) }))) (1024 ∷ 1025 ∷ []) ≡ true ∷ false ∷ []
  pub a_policy_within_its_limits :
      map (λ given. fits_after [] (set_policy 0 given)) (policy (replicate 64 (group a [] [])) [] ∷ policy (replicate 65 (group a [] [])) [] ∷ [])
      ≡ true ∷ false ∷ []
  pub only_permissions_that_there_are :
      map (λ given. fits_after [] (set_policy 0 (one given))) (
      entry everybody ALL ALL ∷ grants everybody (record { 0 = 0x1000 }) ∷ denies everybody (record { 0 = 0x1000 }) ∷ []
      ) ≡ true ∷ false ∷ false ∷ []
  pub a_target_within_its_limits :
      map (λ items. fits_after (join 1 0 ann ∷ []) (set_target 1 1 items)) (
      replicate 16 (item_channel 1) ∷ replicate 17 (item_channel 1) ∷ (item_sessions (replicate 128 1) ∷ []) ∷ (item_sessions (replicate 129 1) ∷ [])
      ∷ (with_group (letters 128) (item_channel 1) ∷ []) ∷ (with_group (letters 129) (item_channel 1) ∷ []) ∷ []
      ) ≡ true ∷ false ∷ true ∷ false ∷ true ∷ false ∷ []

pub sizes_fit : SizesFit
unfolding state
sizes_fit = record {
  texts_of_20_000_bytes = (refl, refl);
  a_message_and_a_reason_have_no_limit_here = refl;
  a_context_of_1024_bytes = refl;
  a_policy_within_its_limits = refl;
  only_permissions_that_there_are = refl;
  a_target_within_its_limits = refl;
}
