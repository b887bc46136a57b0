-- Why sessions are not heard, worked out on small states.
use Rattle.mum_why.proofs.Common.{◌≡◌, ℕ, true, refl, List, [], ◌∷◌, ◌++◌, codes, Option, Some, None, Perm, ENTER, KICK, LISTEN, MUTE_DEAFEN, SPEAK, TRAVERSE, WHISPER, WRITE, matching, afresh, denies, everybody, grants, one, only_below, only_here, plain, the_account, two, is_reached, TargetItem, channel, item_sessions, same_flags, session, with_group, Edit, enter, join, join_as, listen, make, move, set_policy, set_target, state, ChannelWhisper, DirectWhisper, Listener, Talk, each_in_its_own, flags, linked, loopback, spread_out, three, wide, without, Cut, Closed, Denied, NeverGiven, RootOnly, SuperUser, Reason, Deaf, DeafenedItself, Heard, ItIsItself, ListenerLacks, ListenerOutsideGroup, Muted, MutedItself, NoHearer, NoSpeaker, OnlyLoopback, OutsideGroup, SpeakerLacks, SpeakerLacksAtListener, Suppressed, Uncovered, Unset, closed_below, cut_of, last_along, last_place, reason, way_from}
use Rattle.mum_route.proofs.Public.{talk}

-- what takes a permission away from a session in a channel
pub taken : List Edit → ℕ → ℕ → Perm → Option Cut
unfolding state matching last_place last_along closed_below
taken edits number where_to permission = cut_of (state edits) (session number) (channel where_to) permission

-- why a session does not hear what another says to a target, or how it does
pub said : List Edit → ℕ → ℕ → ℕ → Reason
unfolding state is_reached matching last_place last_along closed_below way_from
said edits speaker hearer target = reason (state edits) (session speaker) (session hearer) target

-- ---- cuts

-- session 1 in the root, channel 1 below the root and 2 below it
abbrev pub deep : List Edit
deep = three ++ make 1 0 (codes "A") ∷ make 2 1 (codes "B") ∷ []

pub record CutsAreTaken : Type 0 where
  pub none_where_it_is_held : taken three 1 0 SPEAK ≡ None
  pub none_where_the_session_is_not_there : taken three 9 0 KICK ≡ None
  pub none_where_the_channel_is_not_there : taken three 1 9 KICK ≡ None
  pub never_given : taken three 1 0 KICK ≡ Some NeverGiven
  pub root_only : taken deep 1 2 KICK ≡ Some RootOnly
  pub by_an_entry_of_the_channel : taken (deep ++ set_policy 2 (two (grants everybody SPEAK) (denies everybody SPEAK)) ∷ []) 1 2 SPEAK ≡ Some (Denied (channel 2) 1)
  pub by_an_entry_above : taken (deep ++ set_policy 1 (one (only_below (denies everybody SPEAK))) ∷ []) 1 2 SPEAK ≡ Some (Denied (channel 1) 0)
  pub by_the_last_of_several : taken (deep ++ set_policy 0 (one (denies everybody SPEAK)) ∷ set_policy 2 (one (denies everybody SPEAK)) ∷ []) 1 2 SPEAK ≡ Some (Denied (channel 2) 0)
  pub not_by_one_that_names_another : taken (deep ++ set_policy 1 (one (denies everybody SPEAK)) ∷ set_policy 2 (one (denies (the_account 7) SPEAK)) ∷ []) 1 2 SPEAK ≡ Some (Denied (channel 1) 0)
  pub not_by_one_that_applies_below : taken (deep ++ set_policy 2 (two (denies everybody SPEAK) (only_below (denies everybody SPEAK))) ∷ []) 1 2 SPEAK ≡ Some (Denied (channel 2) 0)
  pub none_where_a_later_one_grants : taken (deep ++ set_policy 1 (one (denies everybody SPEAK)) ∷ set_policy 2 (one (grants everybody SPEAK)) ∷ []) 1 2 SPEAK ≡ None
  pub never_given_where_nothing_is_inherited : taken (deep ++ set_policy 0 (one (grants everybody MUTE_DEAFEN)) ∷ set_policy 2 (afresh plain) ∷ []) 1 2 MUTE_DEAFEN ≡ Some NeverGiven
  pub closed_on_the_way : taken (deep ++ set_policy 1 (one (only_here (denies everybody TRAVERSE))) ∷ []) 1 2 SPEAK ≡ Some (Closed (channel 1))
  pub closed_before_denied :
      taken (deep ++ set_policy 1 (one (only_here (denies everybody TRAVERSE))) ∷ set_policy 2 (one (denies everybody SPEAK)) ∷ []) 1 2 SPEAK ≡ Some (Closed (channel 1))
  pub open_with_write : taken (deep ++ set_policy 1 (two (denies everybody TRAVERSE) (grants everybody WRITE)) ∷ []) 1 2 ENTER ≡ None
  pub super_user : taken (join_as 1 0 (codes "sup") (Some 0) [] ∷ []) 1 0 SPEAK ≡ Some SuperUser

pub cuts_are_taken : CutsAreTaken
unfolding taken
cuts_are_taken = record {
  none_where_it_is_held = refl;
  none_where_the_session_is_not_there = refl;
  none_where_the_channel_is_not_there = refl;
  never_given = refl;
  root_only = refl;
  by_an_entry_of_the_channel = refl;
  by_an_entry_above = refl;
  by_the_last_of_several = refl;
  not_by_one_that_names_another = refl;
  not_by_one_that_applies_below = refl;
  none_where_a_later_one_grants = refl;
  never_given_where_nothing_is_inherited = refl;
  closed_on_the_way = refl;
  closed_before_denied = refl;
  open_with_write = refl;
  super_user = refl;
}

-- ---- reasons

-- session 1 whispers to these items, as its target 1
abbrev pub whispers : List Edit → List TargetItem → List Edit
whispers edits items = edits ++ set_target 1 1 items ∷ []

pub record ReasonsAreGiven : Type 0 where
  pub heard_in_the_channel : said each_in_its_own 1 2 talk ≡ Heard Talk
  pub heard_by_listening : said (three ++ linked ++ enter 1 1 ∷ listen 2 1 ∷ []) 1 2 talk ≡ Heard Listener
  pub heard_in_a_channel_of_the_target : said (whispers spread_out (wide ∷ [])) 1 2 1 ≡ Heard ChannelWhisper
  pub heard_by_name : said (whispers spread_out (item_sessions (5 ∷ []) ∷ [])) 1 5 1 ≡ Heard DirectWhisper
  pub heard_by_loopback : said three 1 1 loopback ≡ Heard Talk
  pub no_speaker : said three 9 1 talk ≡ NoSpeaker
  pub no_hearer : said three 1 9 talk ≡ NoHearer
  pub muted : said (three ++ flags 1 (record same_flags { mute = Some true }) ∷ []) 1 2 talk ≡ Muted
  pub muted_itself : said (three ++ flags 1 (record same_flags { self_mute = Some true }) ∷ []) 1 2 talk ≡ MutedItself
  pub suppressed : said (three ++ without 0 SPEAK ∷ []) 1 2 talk ≡ Suppressed (Some (Denied (channel 0) 0))
  pub suppressed_and_not_asked_again :
      said (three ++ linked ++ set_policy 1 (one (denies everybody SPEAK)) ∷ move 2 1 ∷ enter 1 2 ∷ enter 2 2 ∷ move 2 0 ∷ []) 1 2 talk ≡ Suppressed None
  pub super_user_is_suppressed : said (join_as 1 0 (codes "sup") (Some 0) [] ∷ join 2 1 (codes "bob") ∷ []) 1 2 talk ≡ Suppressed (Some SuperUser)
  pub only_loopback : said three 1 2 loopback ≡ OnlyLoopback
  pub it_is_itself : said three 1 1 talk ≡ ItIsItself
  pub deaf : said (three ++ flags 2 (record same_flags { deaf = Some true }) ∷ []) 1 2 talk ≡ Deaf
  pub deafened_itself : said (three ++ flags 2 (record same_flags { self_deaf = Some true }) ∷ []) 1 2 talk ≡ DeafenedItself
  pub unset : said three 1 2 5 ≡ Unset
  pub lacks_speak : said (each_in_its_own ++ without 2 SPEAK ∷ []) 1 2 talk ≡ SpeakerLacks (channel 2) (Denied (channel 2) 0)
  pub lacks_speak_behind_a_closed_channel :
      said (each_in_its_own ++ set_policy 2 (one (only_here (denies everybody TRAVERSE))) ∷ []) 1 2 talk ≡ SpeakerLacks (channel 2) (Closed (channel 2))
  pub heard_where_it_listens_though_not_where_it_is : said (each_in_its_own ++ without 2 SPEAK ∷ listen 2 1 ∷ []) 1 2 talk ≡ Heard Listener
  pub lacks_whisper_to_one_named : said (whispers (spread_out ++ without 1 WHISPER ∷ []) (item_sessions (2 ∷ []) ∷ [])) 1 2 1 ≡ SpeakerLacks (channel 1) (Denied (channel 1) 0)
  pub outside_of_the_group : said (whispers spread_out (item_sessions (5 ∷ []) ∷ with_group (codes "auth") wide ∷ [])) 1 2 1 ≡ OutsideGroup 1 (channel 1)
  pub lacks_listen : said (three ++ linked ++ without 1 LISTEN ∷ enter 1 1 ∷ listen 2 1 ∷ []) 1 2 talk ≡ ListenerLacks (channel 1) (Denied (channel 1) 0)
  pub listener_outside_of_the_group : said (whispers spread_out (with_group (codes "auth") wide ∷ [])) 1 4 1 ≡ ListenerOutsideGroup 0 (channel 3)
  pub speaker_lacks_speak_where_it_listens : said (three ++ linked ++ without 2 SPEAK ∷ enter 1 1 ∷ listen 2 2 ∷ []) 1 2 talk ≡ SpeakerLacksAtListener (channel 2) (Denied (channel 2) 0)
  pub the_furthest_way_counts :
      said (three ++ linked ++ without 1 LISTEN ∷ without 3 SPEAK ∷ enter 1 2 ∷ listen 2 1 ∷ listen 2 3 ∷ []) 1 2 talk ≡ ListenerLacks (channel 1) (Denied (channel 1) 0)
  pub uncovered : said (three ++ make 1 0 (codes "A") ∷ enter 1 1 ∷ []) 1 2 talk ≡ Uncovered
  pub muted_before_deaf :
      said (three ++ flags 1 (record same_flags { mute = Some true }) ∷ flags 2 (record same_flags { self_deaf = Some true }) ∷ []) 1 2 talk ≡ Muted

pub reasons_are_given : ReasonsAreGiven
unfolding said
reasons_are_given = record {
  heard_in_the_channel = refl;
  heard_by_listening = refl;
  heard_in_a_channel_of_the_target = refl;
  heard_by_name = refl;
  heard_by_loopback = refl;
  no_speaker = refl;
  no_hearer = refl;
  muted = refl;
  muted_itself = refl;
  suppressed = refl;
  suppressed_and_not_asked_again = refl;
  super_user_is_suppressed = refl;
  only_loopback = refl;
  it_is_itself = refl;
  deaf = refl;
  deafened_itself = refl;
  unset = refl;
  lacks_speak = refl;
  lacks_speak_behind_a_closed_channel = refl;
  heard_where_it_listens_though_not_where_it_is = refl;
  lacks_whisper_to_one_named = refl;
  outside_of_the_group = refl;
  lacks_listen = refl;
  listener_outside_of_the_group = refl;
  speaker_lacks_speak_where_it_listens = refl;
  the_furthest_way_counts = refl;
  uncovered = refl;
  muted_before_deaf = refl;
}
