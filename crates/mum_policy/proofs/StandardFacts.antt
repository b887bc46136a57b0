-- What the Murmur manual says of access control lists and groups, worked out on a chain of channels.
use Rattle.mum_policy.proofs.Common.{◌≡◌, ℕ, ◌+◌, ◌-◌, ◌==◌, Bool, true, false, List, [], ◌∷◌, ◌++◌, codes, filter, map, replicate, take, Some, None, refl, if◌then◌else◌, slice_split, ChannelId, Perm, ALL, BAN, ENTER, KICK, MAKE_CHANNEL, MOVE, MUTE_DEAFEN, ROOT_ONLY, SPEAK, START, TEXT_MESSAGE, TRAVERSE, WHISPER, WRITE, ChannelPolicy, Group, Whom, is_large_policy, Actor, PolicyMap, definition, definitions_from, has_token, is_in, is_listed, meets, member, members, asked_by, is_built_in_without_members, meaning, understood_after, is_below, offset_of, span_of, after_channel, after_entries, after_match, along, is_root, matches, perm}
use Rattle.mum_policy.proofs.Scenes.{account, afresh, channel, defines, defines_and, denies, entry, everybody, grants, group, not_inheritable, not_inheriting, nowhere, one, only_below, only_here, plain, policy, the_account, those_in, two}

-- ---- the channels: the root, A below it, B below A, and C below B

-- the path to the channel of this number
abbrev path_to : ℕ → List ChannelId
path_to number = take (number + 1) (map channel (0 ∷ 1 ∷ 2 ∷ 3 ∷ []))

abbrev at_root : List ChannelId
at_root = path_to 0

abbrev at_a : List ChannelId
at_a = path_to 1

abbrev at_b : List ChannelId
at_b = path_to 2

-- the policies of the first three, from the root down
abbrev policies : ChannelPolicy → ChannelPolicy → ChannelPolicy → PolicyMap
policies root a b id =
    if id.0 == 0 then Some root
    else if id.0 == 1 then Some a
    else if id.0 == 2 then Some b
    else None

-- ---- sessions: in the root, without an account or with this one

abbrev pub guest : Actor
guest = record { account = None; channel = channel 0; home = at_root; tokens = [] }

abbrev pub holder : ℕ → Actor
holder number = record guest { account = Some (account number) }

abbrev pub placed_in : ℕ → Actor → Actor
placed_in number who = record who { channel = channel number; home = path_to number }

abbrev pub with_tokens : List (List ℕ) → Actor → Actor
with_tokens tokens who = record who { tokens = tokens }

-- ---- what they may do

-- in the root, in A and in B
pub rights : ChannelPolicy → ChannelPolicy → ChannelPolicy → Actor → ℕ × ℕ × ℕ
unfolding perm is_root along after_channel after_entries after_match matches member meets is_in has_token is_listed members definition definitions_from understood_after asked_by meaning is_built_in_without_members
rights root a b who = let at = policies root a b in (perm at at_root who, perm at at_a who, perm at at_b who)

abbrev pub start : ℕ
start = START.0

abbrev pub all : ℕ
all = ALL.0

abbrev pub all_but_root : ℕ
all_but_root = ALL.0 - ROOT_ONLY.0

abbrev pub perms : ℕ → Perm
perms bits = record { 0 = bits }

pub numbers : (start ≡ 0xB0E) × (all ≡ 0x1F0FFF) × (all_but_root ≡ 0xFFF)
numbers = (refl, refl, refl)

-- ---- the walk goes on while Traverse or Write holds

pub record WalksGoOn : Type 0 where
  pub no_entry_applies : rights plain plain plain guest ≡ (start, start, start)
  pub traverse_denied_in_the_middle : rights plain (one (denies everybody TRAVERSE)) (one (grants everybody SPEAK)) guest ≡ (start, 0, 0)
  pub one_who_may_write_passes :
      rights (one (grants (the_account 7) WRITE)) (one (denies everybody TRAVERSE)) (one (grants everybody SPEAK)) (holder 7)
      ≡ (all, all_but_root, all_but_root)
  pub others_do_not :
      rights (one (grants (the_account 7) WRITE)) (one (denies everybody TRAVERSE)) (one (grants everybody SPEAK)) guest ≡ (start, 0, 0)
  pub superuser_needs_no_walk : rights plain (one (denies everybody TRAVERSE)) plain (holder 0) ≡ (0x1F0EF7, 0xEF7, 0xEF7)
  pub a_denial_that_applies_nowhere_clears_the_mark :
      rights plain (one (nowhere (denies everybody TRAVERSE))) plain guest ≡ (start, 0, 0)
  pub a_grant_of_write_that_applies_nowhere_sets_the_mark :
      rights (one (nowhere (grants everybody WRITE))) (one (denies everybody TRAVERSE)) plain guest
      ≡ (start, start - TRAVERSE.0, start - TRAVERSE.0)
  pub it_may_come_after_the_denial :
      rights (two (denies everybody TRAVERSE) (nowhere (grants everybody WRITE))) plain plain guest
      ≡ (start - TRAVERSE.0, start - TRAVERSE.0, start - TRAVERSE.0)
  pub one_entry_grants_and_denies_traverse : rights (one (entry everybody TRAVERSE TRAVERSE)) plain plain guest ≡ (0, 0, 0)
  pub one_entry_grants_and_denies_write :
      rights (one (entry everybody WRITE WRITE)) (one (denies everybody TRAVERSE)) plain guest ≡ (start, 0, 0)
  pub a_denial_in_the_asked_channel_alone_ends_the_walk :
      rights plain (one (only_here (denies everybody TRAVERSE))) (afresh plain) guest ≡ (start, 0, 0)
  pub a_channel_may_be_closed_and_one_below_it_open :
      rights plain (one (denies (those_in (codes "in")) TRAVERSE)) plain (placed_in 1 guest) ≡ (start, 0, start)

pub walks_go_on : WalksGoOn
unfolding rights
walks_go_on = search

-- ---- grants come before denies in an entry, and entries in the order of the list

pub record GrantsComeFirst : Type 0 where
  pub granted_then_denied :
      rights (two (only_here (grants everybody ENTER)) (only_here (denies everybody ENTER))) plain plain guest ≡ (0xB0A, 0xB0E, 0xB0E)
  pub denied_then_granted :
      rights (two (only_here (denies everybody ENTER)) (only_here (grants everybody ENTER))) plain plain guest ≡ (0xB0E, 0xB0E, 0xB0E)
  pub granted_and_denied_at_once : rights (one (only_here (entry everybody ENTER ENTER))) plain plain guest ≡ (0xB0A, 0xB0E, 0xB0E)

pub grants_come_first : GrantsComeFirst
unfolding rights
grants_come_first = search

-- ---- a channel that does not inherit begins with the start set again; the marks stay

pub record SetsBeginAgain : Type 0 where
  pub the_set_begins_again : rights (one (grants everybody MUTE_DEAFEN)) (afresh plain) plain guest ≡ (start + MUTE_DEAFEN.0, start, start)
  pub the_mark_of_write_stays :
      rights (one (grants everybody WRITE)) (one (denies everybody TRAVERSE)) (afresh plain) guest ≡ (all, all_but_root, start)
  pub the_root_has_nothing_to_inherit :
      rights (afresh (one (grants everybody MUTE_DEAFEN))) plain plain guest ≡ (start + MUTE_DEAFEN.0, start + MUTE_DEAFEN.0, start + MUTE_DEAFEN.0)

pub sets_begin_again : SetsBeginAgain
unfolding rights
sets_begin_again = search

-- ---- Write brings all but Speak and Whisper, on the root the bits of the root too

pub record WriteBringsAll : Type 0 where
  pub write_in_one_channel : rights plain (one (only_here (grants (the_account 5) WRITE))) plain (holder 5) ≡ (start, all_but_root, start)
  pub write_on_the_root_alone : rights (one (only_here (grants everybody WRITE))) plain plain guest ≡ (all, start, start)
  pub bits_of_the_root_mean_nothing_below_it :
      rights (one (grants everybody (perms (KICK.0 + BAN.0)))) plain plain guest ≡ (start + KICK.0 + BAN.0, start, start)
  pub they_do_not_come_with_write_there :
      rights plain (one (grants everybody (perms (WRITE.0 + ROOT_ONLY.0)))) plain guest ≡ (start, all_but_root, all_but_root)
  pub speak_denied_beside_write :
      rights (one (grants everybody WRITE)) (one (denies everybody SPEAK)) plain guest
      ≡ (all, all_but_root - SPEAK.0, all_but_root - SPEAK.0)
  pub whisper_denied_beside_write :
      rights (one (grants everybody WRITE)) (one (denies everybody WHISPER)) plain guest
      ≡ (all, all_but_root - WHISPER.0, all_but_root - WHISPER.0)
  pub enter_denied_beside_write_comes_back :
      rights (one (grants everybody WRITE)) (one (denies everybody ENTER)) plain guest ≡ (all, all_but_root, all_but_root)
  pub write_denied_below : rights (one (grants everybody WRITE)) (one (denies everybody WRITE)) plain guest ≡ (all, start, start)

pub write_brings_all : WriteBringsAll
unfolding rights
write_brings_all = search

-- ---- an entry applies in its own channel, and in those below it

pub record EntriesApply : Type 0 where
  pub a_channel_below_undoes :
      rights (one (grants everybody MUTE_DEAFEN)) (one (denies everybody MUTE_DEAFEN)) (one (only_below (grants everybody MUTE_DEAFEN))) guest
      ≡ (start + MUTE_DEAFEN.0, start, start)
  pub below_and_not_here :
      rights (one (only_below (denies everybody SPEAK))) plain (one (grants everybody SPEAK)) guest ≡ (start, start - SPEAK.0, start)
  pub here_and_not_below : rights (one (only_here (denies everybody ENTER))) plain plain guest ≡ (start - ENTER.0, start, start)
  pub everything_denied : rights (one (denies everybody ALL)) plain plain guest ≡ (0, 0, 0)
  pub everything_denied_but_traverse :
      rights (two (denies everybody ALL) (grants everybody TRAVERSE)) plain plain guest ≡ (TRAVERSE.0, TRAVERSE.0, TRAVERSE.0)
  pub superuser_is_denied_nothing : rights (one (denies everybody ALL)) plain plain (holder 0) ≡ (0x1F0EF7, 0xEF7, 0xEF7)

pub entries_apply : EntriesApply
unfolding rights
entries_apply = search

-- ---- whom an entry names

pub record EntriesName : Type 0 where
  pub those_in_the_asked_channel :
      rights plain (one (grants (those_in (codes "in")) MOVE)) plain (placed_in 2 guest) ≡ (start, start, start + MOVE.0)
  pub those_in_the_channel_of_the_list :
      rights plain (one (grants (those_in (codes "~in")) MOVE)) plain (placed_in 1 guest) ≡ (start, start + MOVE.0, start + MOVE.0)
  pub those_without_an_account :
      rights (one (denies (those_in (codes "!auth")) ENTER)) plain plain guest ≡ (start - ENTER.0, start - ENTER.0, start - ENTER.0)
  pub not_those_with_one : rights (one (denies (those_in (codes "!auth")) ENTER)) plain plain (holder 5) ≡ (start, start, start)
  pub an_account :
      rights plain plain (one (denies (the_account 5) TEXT_MESSAGE)) (holder 5) ≡ (start, start, start - TEXT_MESSAGE.0)
  pub not_another_account : rights plain plain (one (denies (the_account 5) TEXT_MESSAGE)) (holder 6) ≡ (start, start, start)
  pub those_with_a_token :
      rights (one (grants (those_in (codes "#key")) MOVE)) plain plain (with_tokens (codes "KEY" ∷ []) guest)
      ≡ (start + MOVE.0, start + MOVE.0, start + MOVE.0)
  pub a_group_from_above :
      rights (defines (group (codes "staff") (5 ∷ []) [])) (one (grants (those_in (codes "staff")) MAKE_CHANNEL)) plain (holder 5)
      ≡ (start, start + MAKE_CHANNEL.0, start + MAKE_CHANNEL.0)
  pub a_guest_is_not_in_it :
      rights (defines (group (codes "staff") (5 ∷ []) [])) (one (grants (those_in (codes "!staff")) MAKE_CHANNEL)) plain guest
      ≡ (start, start + MAKE_CHANNEL.0, start + MAKE_CHANNEL.0)
  pub a_group_that_is_not_inheritable :
      rights plain (defines_and (not_inheritable (group (codes "crew") (5 ∷ []) [])) (grants (those_in (codes "crew")) MAKE_CHANNEL)) plain (holder 5)
      ≡ (start, start + MAKE_CHANNEL.0, start)
  pub as_the_channel_of_the_list_sees_it :
      rights plain (defines_and (not_inheritable (group (codes "crew") (5 ∷ []) [])) (grants (those_in (codes "~crew")) MAKE_CHANNEL)) plain (holder 5)
      ≡ (start, start + MAKE_CHANNEL.0, start + MAKE_CHANNEL.0)

pub entries_name : EntriesName
unfolding rights
entries_name = search

-- ---- group names, asked in B for an entry of A, where B defines groups of account 5

abbrev pub words : List ℕ → List (List ℕ)
words text = slice_split (λ letter. letter == 32) text

-- those of the names whose groups the session is in
pub groups_of : Actor → List (List ℕ) → List (List ℕ)
unfolding member meets is_in has_token is_listed members definition definitions_from understood_after asked_by meaning is_built_in_without_members is_below span_of offset_of
groups_of who names =
    let in_b = policy (group (codes "admin") (5 ∷ []) [] ∷ group (codes "subs") (5 ∷ []) [] ∷ group (codes "none") (5 ∷ []) [] ∷ []) [] in
    filter (λ name. member (policies plain plain in_b) at_b 1 name who) names

abbrev pub ann : Actor
ann = with_tokens (codes "secret" ∷ []) (placed_in 2 (holder 5))

abbrev pub bob : Actor
bob = with_tokens (codes "secret" ∷ []) (placed_in 2 guest)

-- ë and Ë, and a token with one of them
abbrev pub small_e : List ℕ
small_e = 195 ∷ 171 ∷ []

abbrev pub capital_e : List ℕ
capital_e = 195 ∷ 139 ∷ []

abbrev pub zoe : List ℕ
zoe = codes "zo" ++ small_e

-- negated (`!`), chosen in A (`~`), a token (`#`), and names that match nobody; a first space is the empty name
abbrev pub that_hold_of_both : List (List ℕ)
that_hold_of_both =
    words (codes "all in !~admin ! !none !out !strong sub sub, sub,0,0 ~all ~out !! !!none !!out !~ !~none !~in ~! ~!none ~!in ~~all ~~out !!!~in")
    ++ words (codes "#secret #Secret #SECRET !# ~#secret !$ !$all !~$all")

abbrev pub that_hold_of_neither : List (List ℕ)
that_hold_of_neither =
    words (codes " none out strong !sub !sub,0,0 All IN ~admin nobody !all !in ~ ~none ~in !!all !!in !~all !~out ~!all ~!out ~~ ~~none ~~in")
    ++ words (codes "#secre #secrets # !#Secret !~#secret ##secret #!secret #$ $ $all $#secret ~$ a!")

pub record NamesMean : Type 0 where
  pub by_channel_by_token_and_by_account :
      groups_of ann (words (codes "in !in ~in !~in !!in #Secret !#Secret admin ~admin")) ≡ words (codes "in !~in #Secret admin")
  pub case_is_ignored_in_ascii_letters_alone :
      groups_of (with_tokens (zoe ∷ []) guest) ((codes "#zo" ++ small_e) ∷ (codes "#ZO" ++ small_e) ∷ (codes "#zo" ++ capital_e) ∷ [])
      ≡ (codes "#zo" ++ small_e) ∷ (codes "#ZO" ++ small_e) ∷ []
  pub both_are_in_these :
      (groups_of ann that_hold_of_both ≡ that_hold_of_both) × (groups_of bob that_hold_of_both ≡ that_hold_of_both)
  pub neither_is_in_these : (groups_of ann that_hold_of_neither ≡ []) × (groups_of bob that_hold_of_neither ≡ [])
  pub an_account_alone_is_in_these :
      let names = words (codes "auth subs admin ~auth ~~auth") in (groups_of ann names ≡ names) × (groups_of bob names ≡ [])
  pub a_guest_alone_is_in_these :
      let names = words (codes "!admin !auth !!auth !~auth ~!auth") in (groups_of ann names ≡ []) × (groups_of bob names ≡ names)

pub names_mean : NamesMean
unfolding groups_of
names_mean = search

-- ---- groups of subtrees, for an ACL of A

-- whether a session in A, in B and in C is in the group, asked in the channel of this number
pub in_subtree : ℕ → List ℕ → Bool × Bool × Bool
unfolding member meets is_listed understood_after asked_by meaning is_built_in_without_members is_below span_of offset_of
in_subtree asked name =
    let is_in_group : ℕ → Bool = λ number. member (λ id. None) (path_to asked) 1 name (placed_in number guest) in
    (is_in_group 1, is_in_group 2, is_in_group 3)

pub record SubtreesMean : Type 0 where
  pub those_below : in_subtree 2 (codes "sub") ≡ (false, true, true)
  pub the_channel_itself_too : in_subtree 2 (codes "sub,0,0") ≡ (true, true, true)
  pub at_one_depth : in_subtree 2 (codes "sub,0,2,2") ≡ (false, false, true)
  pub those_below_the_channel_one_step_down : in_subtree 2 (codes "sub,1") ≡ (false, false, true)
  pub no_step_down_where_the_list_is_asked : in_subtree 1 (codes "sub,1") ≡ (false, false, false)
  pub those_below_the_root : in_subtree 2 (codes "sub,-5") ≡ (true, true, true)
  pub an_argument_that_is_no_number : in_subtree 2 (codes "sub,x") ≡ (false, false, false)
  pub all_where_the_path_ends_before : in_subtree 2 (codes "!sub,5") ≡ (true, true, true)

pub subtrees_mean : SubtreesMean
unfolding in_subtree
subtrees_mean = search

abbrev all_three : Bool × Bool × Bool
all_three = (true, true, true)

abbrev none_of_them : Bool × Bool × Bool
none_of_them = (false, false, false)

pub record ArgumentsAreRead : Type 0 where
  pub empty_arguments_have_their_defaults :
      (in_subtree 2 (codes "sub,") ≡ (false, true, true)) × (in_subtree 2 (codes "sub,,,") ≡ (false, true, true))
      × (in_subtree 2 (codes "sub,,2") ≡ (false, false, true)) × (in_subtree 2 (codes "sub,,,1") ≡ (false, true, false))
  pub four_arguments : (in_subtree 2 (codes "sub,0,1,9,9") ≡ none_of_them) × (in_subtree 2 (codes "sub,,,,") ≡ none_of_them)
  pub a_plus_is_no_sign : in_subtree 2 (codes "sub,+1") ≡ none_of_them
  pub five_digits : (in_subtree 2 (codes "sub,12345") ≡ none_of_them) × (in_subtree 2 (codes "sub,0,-00001") ≡ none_of_them)
  pub four_digits : (in_subtree 2 (codes "sub,-9999,0000,0009") ≡ all_three)
  pub a_sign_without_digits : (in_subtree 2 (codes "sub,-") ≡ none_of_them) × (in_subtree 2 (codes "sub,--1") ≡ none_of_them)
  pub a_space : in_subtree 2 (codes "sub, 1") ≡ none_of_them
  pub a_negation_of_what_is_no_number : in_subtree 2 (codes "!sub,x") ≡ all_three
  pub depths_above_the_channel :
      (in_subtree 2 (codes "sub,0,-3,-1") ≡ none_of_them) × (in_subtree 2 (codes "sub,1,-1") ≡ (false, true, true))
      × (in_subtree 2 (codes "sub,0,-3,0") ≡ (true, false, false))
  pub the_prefix_has_no_effect :
      (in_subtree 2 (codes "~sub") ≡ (false, true, true)) × (in_subtree 2 (codes "~sub,1") ≡ (false, false, true))
      × (in_subtree 2 (codes "!~sub,1") ≡ (true, true, false))
  pub other_words_are_groups_of_channels : (in_subtree 2 (codes "subs") ≡ none_of_them) × (in_subtree 2 (codes "Sub") ≡ none_of_them)

pub arguments_are_read : ArgumentsAreRead
unfolding in_subtree
arguments_are_read = search

-- ---- which of the accounts 5 to 9 are in `admin`, in the root, in A and in B

abbrev pub admin : List ℕ → List ℕ → Group
admin adds removes = group (codes "admin") adds removes

pub admins : ChannelPolicy → ChannelPolicy → ChannelPolicy → List ℕ × List ℕ × List ℕ
unfolding member meets is_in has_token is_listed members definition definitions_from understood_after asked_by meaning is_built_in_without_members
admins root a b =
    let among : List ChannelId → ℕ → List ℕ = λ path place.
    filter (λ number. member (policies root a b) path place (codes "admin") (holder number)) (5 ∷ 6 ∷ 7 ∷ 8 ∷ 9 ∷ []) in
    (among at_root 0, among at_a 1, among at_b 2)

pub record AccountsOfAGroup : Type 0 where
  pub a_group_is_inherited :
      admins (defines (admin (5 ∷ 6 ∷ []) [])) (defines (admin (7 ∷ []) [])) (defines (admin (8 ∷ []) (6 ∷ [])))
      ≡ (5 ∷ 6 ∷ [], 5 ∷ 6 ∷ 7 ∷ [], 5 ∷ 7 ∷ 8 ∷ [])
  pub one_that_is_not_inheritable_ends_the_collection :
      admins (defines (admin (5 ∷ 6 ∷ []) [])) (defines (not_inheritable (admin (7 ∷ []) []))) (defines (admin (8 ∷ []) (6 ∷ [])))
      ≡ (5 ∷ 6 ∷ [], 5 ∷ 6 ∷ 7 ∷ [], 8 ∷ [])
  pub one_that_does_not_inherit_is_the_last :
      admins (defines (admin (5 ∷ 6 ∷ []) [])) (defines (not_inheriting (admin (7 ∷ []) []))) (defines (admin (8 ∷ []) (6 ∷ [])))
      ≡ (5 ∷ 6 ∷ [], 7 ∷ [], 7 ∷ 8 ∷ [])
  pub one_that_does_neither :
      admins (defines (admin (5 ∷ 6 ∷ []) [])) (defines (not_inheritable (not_inheriting (admin (7 ∷ []) [])))) (defines (admin (8 ∷ []) (6 ∷ [])))
      ≡ (5 ∷ 6 ∷ [], 7 ∷ [], 8 ∷ [])
  pub the_asked_channel_does_not_inherit :
      admins (defines (admin (5 ∷ 6 ∷ []) [])) (defines (admin (7 ∷ []) [])) (defines (not_inheriting (admin (8 ∷ []) (6 ∷ []))))
      ≡ (5 ∷ 6 ∷ [], 5 ∷ 6 ∷ 7 ∷ [], 8 ∷ [])
  pub a_channel_without_the_name_is_passed_over :
      admins (defines (admin (5 ∷ 6 ∷ []) [])) plain (defines (admin (8 ∷ []) (6 ∷ []))) ≡ (5 ∷ 6 ∷ [], 5 ∷ 6 ∷ [], 5 ∷ 8 ∷ [])
  pub nothing_comes_past_one_that_is_not_inheritable :
      admins (defines (admin (5 ∷ 6 ∷ []) [])) (defines (not_inheritable (admin (7 ∷ []) []))) plain ≡ (5 ∷ 6 ∷ [], 5 ∷ 6 ∷ 7 ∷ [], [])
  pub what_is_below_one_that_is_not_inheritable_counts :
      admins (defines (not_inheritable (admin (5 ∷ 6 ∷ []) []))) (defines (admin (7 ∷ []) [])) (defines (admin (8 ∷ []) []))
      ≡ (5 ∷ 6 ∷ [], 7 ∷ [], 7 ∷ 8 ∷ [])
  pub accounts_are_removed_after_they_are_added :
      admins (defines (admin (5 ∷ 6 ∷ []) [])) (defines (admin (7 ∷ []) [])) (defines (admin (5 ∷ 8 ∷ []) (5 ∷ [])))
      ≡ (5 ∷ 6 ∷ [], 5 ∷ 6 ∷ 7 ∷ [], 6 ∷ 7 ∷ 8 ∷ [])
  pub of_two_groups_of_the_name_the_first_counts :
      admins plain plain (policy (admin (8 ∷ []) [] ∷ admin (9 ∷ []) (8 ∷ []) ∷ []) []) ≡ ([], [], 8 ∷ [])

pub accounts_of_a_group : AccountsOfAGroup
unfolding admins
accounts_of_a_group = search

-- ---- the limits of a policy

abbrev pub named : ℕ → Whom
named length = those_in (replicate length 103)

pub record PoliciesAreLarge : Type 0 where
  pub a_policy_at_its_limits :
      let largest = group (codes "admin") (replicate 256 5) (replicate 256 5) in
      is_large_policy (policy (replicate 64 largest) (replicate 128 (only_here (grants (named 128) MOVE)))) ≡ false
  pub an_empty_policy : is_large_policy plain ≡ false
  pub a_group_too_many : is_large_policy (policy (replicate 65 (group (codes "admin") [] [])) []) ≡ true
  pub an_account_too_many :
      (is_large_policy (defines (group (codes "admin") (replicate 257 5) [])) ≡ true)
      × (is_large_policy (defines (group (codes "admin") [] (replicate 257 5))) ≡ true)
  pub an_entry_too_many : is_large_policy (policy [] (replicate 129 (grants everybody MOVE))) ≡ true
  pub a_name_too_long : is_large_policy (one (grants (named 129) MOVE)) ≡ true

pub policies_are_large : PoliciesAreLarge
policies_are_large = search
