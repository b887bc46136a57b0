-- What a session may do in a channel of a state, worked out on small states.
use Rattle.mum_state.proofs.Common.{◌≡◌, ℕ, zero, suc, ◌+◌, ◌-◌, List, [], ◌∷◌, ◌++◌, codes, map, Option, Some, None, refl, option_map, ALL, ENTER, MAKE_CHANNEL, MOVE, SPEAK, START, TRAVERSE, WHISPER, ChannelPolicy, Actor, afresh, defines, denies, everybody, grants, group, one, plain, the_account, those_in, two, path, row_of, two_letters, account, channel, Edit, granted_where_there}
use Rattle.mum_state.proofs.Scenes.{add_account, enter, join, join_as, make, move, remove, rights_in, set_policy, state}

abbrev ann : List ℕ
ann = codes "ann"

abbrev bob : List ℕ
bob = codes "bob"

abbrev a : List ℕ
a = codes "A"

abbrev b : List ℕ
b = codes "B"

abbrev c : List ℕ
c = codes "C"

abbrev start : ℕ
start = START.0

-- ---- what a session may do

-- what session 1 may do in each of these channels
abbrev each_in : List Edit → List ℕ → List (Option ℕ)
each_in edits channels = map (rights_in edits 1) channels

-- channels 1 to n, each under the one before, each with an entry that grants Move
abbrev nested_policies : ℕ → List Edit
nested_policies zero = []
nested_policies (suc n) = nested_policies n ++ make (suc n) n (two_letters n) ∷ set_policy (suc n) (one (grants everybody MOVE)) ∷ []

pub record SessionsMay : Type 0 where
  pub where_no_policy_applies : each_in (join 1 0 ann ∷ make 1 0 a ∷ []) (0 ∷ 1 ∷ []) ≡ Some start ∷ Some start ∷ []
  pub who_or_what_is_not_there : (rights_in (join 1 0 ann ∷ []) 9 0 ≡ None) × (rights_in (join 1 0 ann ∷ []) 1 9 ≡ None)
  pub by_entries_above_and_in_the_channel :
      each_in (
      join 1 0 ann ∷ make 1 0 a ∷ make 2 1 b ∷ set_policy 0 (one (denies everybody ENTER)) ∷ set_policy 1 (one (grants everybody MOVE))
      ∷ set_policy 2 (one (grants everybody ENTER)) ∷ []
      ) (0 ∷ 1 ∷ 2 ∷ []) ≡ Some (start - ENTER.0) ∷ Some (start - ENTER.0 + MOVE.0) ∷ Some (start + MOVE.0) ∷ []
  pub by_where_it_is :
      let outside = join 1 0 ann ∷ make 1 0 a ∷ set_policy 1 (one (grants (those_in (codes "in")) MOVE)) ∷ [] in
      (rights_in outside 1 1 ≡ Some start) × (rights_in (outside ++ enter 1 1 ∷ []) 1 1 ≡ Some (start + MOVE.0))
  pub by_its_account_and_its_tokens :
      let made = add_account 7 ann ∷ join_as 1 0 ann (Some 7) (codes "key" ∷ []) ∷ join 2 1 bob
      ∷ set_policy 0 (two (grants (the_account 7) MOVE) (denies (those_in (codes "#KEY")) WHISPER)) ∷ [] in
      (rights_in made 1 0 ≡ Some (start + MOVE.0 - WHISPER.0)) × (rights_in made 2 0 ≡ Some start)
  pub by_a_group_of_a_channel_above :
      let made = add_account 7 ann ∷ join_as 1 0 ann (Some 7) [] ∷ join 2 1 bob ∷ make 1 0 a
      ∷ set_policy 0 (defines (group (codes "staff") (7 ∷ []) [])) ∷ set_policy 1 (one (grants (those_in (codes "staff")) MAKE_CHANNEL)) ∷ [] in
      (rights_in made 1 1 ≡ Some (start + MAKE_CHANNEL.0)) × (rights_in made 2 1 ≡ Some start) × (rights_in made 1 0 ≡ Some start)
  pub as_superuser :
      each_in (add_account 0 ann ∷ join_as 1 0 ann (Some 0) [] ∷ make 1 0 a ∷ set_policy 0 (one (denies everybody ALL)) ∷ []) (0 ∷ 1 ∷ [])
      ≡ Some 0x1F0EF7 ∷ Some 0xEF7 ∷ []
  pub along_a_path_of_33 :
      let made = join 1 0 ann ∷ (nested_policies 32 ++ set_policy 16 (one (denies everybody ENTER)) ∷ []) in
      (each_in made (15 ∷ 32 ∷ []) ≡ Some (start + MOVE.0) ∷ Some (start - ENTER.0 + MOVE.0) ∷ [])
      × (rights_in (made ++ set_policy 32 (afresh plain) ∷ []) 1 32 ≡ Some start)
      × (rights_in (made ++ set_policy 3 (one (denies everybody TRAVERSE)) ∷ []) 1 32 ≡ Some 0)
  pub where_numbers_and_places_are_not_the_same :
      let made = join 1 0 ann ∷ make 1 0 a ∷ make 2 0 b ∷ make 3 0 c ∷ set_policy 3 (one (denies everybody ENTER)) ∷ remove 1 1 ∷ make 4 0 a
      ∷ set_policy 4 (one (denies everybody WHISPER)) ∷ [] in
      (map (λ id. option_map (λ row. row.place) (row_of (state made).tree.channels (channel id))) (2 ∷ 3 ∷ 4 ∷ []) ≡ Some 2 ∷ Some 3 ∷ Some 1 ∷ [])
      × (each_in made (2 ∷ 3 ∷ 4 ∷ []) ≡ Some start ∷ Some (start - ENTER.0) ∷ Some (start - WHISPER.0) ∷ [])
  pub a_channel_takes_its_policy_along :
      let made = join 1 0 ann ∷ make 1 0 a ∷ make 2 0 b ∷ make 3 1 c ∷ set_policy 1 (one (denies everybody ENTER)) ∷ [] in
      (rights_in made 1 3 ≡ Some (start - ENTER.0)) × (rights_in (made ++ move 3 2 ∷ []) 1 3 ≡ Some start)
      × (rights_in (made ++ move 3 2 ∷ move 2 1 ∷ []) 1 3 ≡ Some (start - ENTER.0))
  pub below_a_channel_that_it_enters :
      let made = join 1 0 ann ∷ make 1 0 a ∷ make 2 1 b ∷ set_policy 1 (one (grants (those_in (codes "sub")) MOVE)) ∷ [] in
      (rights_in made 1 1 ≡ Some start) × (rights_in (made ++ enter 1 1 ∷ []) 1 1 ≡ Some start)
      × (rights_in (made ++ enter 1 2 ∷ []) 1 1 ≡ Some (start + MOVE.0))
  pub below_a_channel_under_which_its_own_is_moved :
      let made = join 1 0 ann ∷ make 1 0 a ∷ make 2 1 b ∷ make 4 0 c ∷ enter 1 4 ∷ set_policy 2 (one (denies (those_in (codes "sub,-1")) SPEAK)) ∷ [] in
      (rights_in made 1 2 ≡ Some 0xB0E) × (rights_in (made ++ move 4 1 ∷ []) 1 2 ≡ Some 0xB06)

pub sessions_may : SessionsMay
unfolding state
sessions_may = record {
  where_no_policy_applies = refl;
  who_or_what_is_not_there = (refl, refl);
  by_entries_above_and_in_the_channel = refl;
  by_where_it_is = (refl, refl);
  by_its_account_and_its_tokens = (refl, refl);
  by_a_group_of_a_channel_above = (refl, refl, refl);
  as_superuser = refl;
  along_a_path_of_33 = (refl, refl, refl);
  where_numbers_and_places_are_not_the_same = (refl, refl);
  a_channel_takes_its_policy_along = (refl, refl, refl);
  below_a_channel_that_it_enters = (refl, refl, refl);
  below_a_channel_under_which_its_own_is_moved = (refl, refl);
}

-- ---- the same of any actor: with these tokens, by this account or none, from this channel

abbrev actor_from : Option ℕ → ℕ → List (List ℕ) → Actor
actor_from owner where_from tokens =
    record { account = option_map account owner; channel = channel where_from; tokens = tokens; home = path (state (make 1 0 a ∷ [])).tree.channels (channel where_from) }

abbrev guest : Actor
guest = actor_from None 0 []

-- in channel 1 below the root, which has this policy
abbrev granted_by : ChannelPolicy → Actor → Option ℕ
granted_by policy who = granted_where_there (state (make 1 0 a ∷ set_policy 1 policy ∷ [])) who (channel 1)

pub record ActorsMay : Type 0 where
  pub by_an_account_or_none :
      let policy = two (grants (those_in (codes "auth")) MOVE) (denies (those_in (codes "!auth")) ENTER) in
      (granted_by policy guest ≡ Some (start - ENTER.0)) × (granted_by policy (actor_from (Some 5) 0 []) ≡ Some (start + MOVE.0))
  pub by_tokens :
      let policy = one (grants (those_in (codes "#key")) MOVE) in
      (granted_by policy guest ≡ Some start) × (granted_by policy (actor_from None 0 (codes "other" ∷ codes "KEY" ∷ [])) ≡ Some (start + MOVE.0))
  pub by_where_they_are :
      let policy = one (grants (those_in (codes "in")) MOVE) in
      (granted_by policy guest ≡ Some start) × (granted_by policy (actor_from None 1 []) ≡ Some (start + MOVE.0))
  pub in_no_channel_that_is_not_there : granted_where_there (state []) guest (channel 9) ≡ None

pub actors_may : ActorsMay
unfolding state
actors_may = search
