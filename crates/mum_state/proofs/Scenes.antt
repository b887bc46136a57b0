-- Small states of which worked facts speak, made edit by edit from the empty one. Sessions, channels and slots are numbers.
use Rattle.mum_state.proofs.Common.{ℕ, Bool, true, false, List, [], ◌∷◌, map, replicate, take, Option, None, filter, option_map, ChannelPolicy, definition, definitions_from, has_token, is_listed, meets, member, members, asked_by, is_built_in_without_members, meaning, understood_after, offset_of, span_of, after_channel, after_entries, after_match, along, is_root, matches, perm, Channel, Change, first_place, row_of, upward, plain_info, to_links, to_parent, TargetItem, User, UserEdit, pairs_of, session_of, account, channel, session, slot, target, to_channel, to_listen, unchanged, Edit, AddAccount, EditChannel, Join, Kick, Leave, MakeChannel, RemoveChannel, SetAcl, SetLimits, SetTarget, SetTokens, SetUser, after, perm_of, StateValue, policy_of}
use Rattle.mum_policy.specs.{Member.is_in, Subtree.is_below}

-- the state to which edits lead from the empty one; this opens all that it computes with
unfoldable pub state : List Edit → StateValue
unfolding first_place upward perm is_root along after_channel after_entries after_match matches member meets is_in has_token is_listed members definition definitions_from understood_after asked_by meaning is_built_in_without_members is_below span_of offset_of
state edits = after edits

-- these limits of sessions and of channels
abbrev pub set_limits : ℕ → ℕ → Edit
set_limits sessions channels = SetLimits sessions channels

-- ---- accounts and sessions

-- a digest of a password: 32 bytes
abbrev pub digest : List ℕ
digest = replicate 32 3

abbrev pub add_account : ℕ → List ℕ → Edit
add_account number name = AddAccount (account number) name digest

abbrev pub join_as : ℕ → ℕ → List ℕ → Option ℕ → List (List ℕ) → Edit
join_as number seat name owner tokens = Join (session number) (slot seat) name (option_map account owner) tokens

-- without an account and tokens
abbrev pub join : ℕ → ℕ → List ℕ → Edit
join number seat name = join_as number seat name None []

abbrev pub leave : ℕ → Edit
leave number = Leave (session number)

abbrev pub kick : ℕ → ℕ → Edit
kick number actor = Kick (session number) (session actor) [] false

abbrev pub set_user_by : ℕ → ℕ → Bool → UserEdit → Edit
set_user_by number actor clears change =
    SetUser (session number) (session actor) change.channel change.flags.mute change.flags.deaf clears change.flags.priority
    change.flags.self_mute change.flags.self_deaf change.flags.recording change.comment change.context change.listen change.unlisten

-- by the session itself
abbrev pub set_user : ℕ → UserEdit → Edit
set_user number change = set_user_by number number false change

abbrev pub enter : ℕ → ℕ → Edit
enter number where_to = set_user number (to_channel where_to)

abbrev pub listen : ℕ → ℕ → Edit
listen number to = set_user number (to_listen (to ∷ []) [])

-- it may speak where it is
abbrev pub clear : ℕ → Edit
clear number = set_user_by number number true unchanged

abbrev pub set_tokens : ℕ → List (List ℕ) → Edit
set_tokens number tokens = SetTokens (session number) tokens

abbrev pub set_target : ℕ → ℕ → List TargetItem → Edit
set_target number id items = SetTarget (session number) id (target items)

-- ---- channels

abbrev pub make_by : Option ℕ → ℕ → ℕ → List ℕ → Edit
make_by maker id parent name = MakeChannel (channel id) (channel parent) name false plain_info (option_map session maker)

-- a configuration's
abbrev pub make : ℕ → ℕ → List ℕ → Edit
make id parent name = make_by None id parent name

abbrev pub make_temporary : Option ℕ → ℕ → ℕ → List ℕ → Edit
make_temporary maker id parent name = MakeChannel (channel id) (channel parent) name true plain_info (option_map session maker)

abbrev pub edit_by : Option ℕ → ℕ → Change → Edit
edit_by actor id change =
    EditChannel (channel id) (option_map session actor) change.name change.parent change.description change.position change.max_users
    change.links_add change.links_remove

abbrev pub edit : ℕ → Change → Edit
edit id change = edit_by None id change

abbrev pub link : ℕ → ℕ → Edit
link one other = edit one (to_links (other ∷ []) [])

abbrev pub move : ℕ → ℕ → Edit
move id parent = edit id (to_parent parent)

abbrev pub remove : ℕ → ℕ → Edit
remove id actor = RemoveChannel (channel id) (session actor)

abbrev pub set_policy_by : Option ℕ → ℕ → ChannelPolicy → Edit
set_policy_by actor id policy = SetAcl (channel id) (option_map session actor) policy

abbrev pub set_policy : ℕ → ChannelPolicy → Edit
set_policy id policy = set_policy_by None id policy

-- ---- what is asked of a state

-- the revision, the policy count and the routing count
abbrev pub counts_in : List Edit → ℕ × ℕ × ℕ
counts_in edits = let counts = (state edits).counts in (counts.revision, counts.policy, counts.routing)

-- the counts of the first slots
abbrev pub slots_in : List Edit → ℕ → List ℕ
slots_in edits count = take count (state edits).counts.slots

abbrev pub row_in : List Edit → ℕ → Option User
row_in edits number = session_of (state edits).roster (session number)

abbrev pub sessions_in : List Edit → List ℕ
sessions_in edits = map (λ user. user.session.0) (state edits).roster.sessions

-- where each session is, by their slots
abbrev pub places_in : List Edit → List ℕ
places_in edits = map (λ user. user.channel.0) (state edits).roster.sessions

-- the sessions that may not speak where they are
abbrev pub suppressed_in : List Edit → List ℕ
suppressed_in edits = map (λ user. user.session.0) (filter (λ user. user.suppress) (state edits).roster.sessions)

abbrev pub listened_in : List Edit → ℕ → List ℕ
listened_in edits number = map (λ pair. pair.channel.0) (pairs_of (state edits).roster (session number))

abbrev pub channels_in : List Edit → List ℕ
channels_in edits = map (λ row. row.channel.id.0) (state edits).tree.channels

abbrev pub channel_in : List Edit → ℕ → Option Channel
channel_in edits id = option_map (λ row. row.channel) (row_of (state edits).tree.channels (channel id))

abbrev pub policy_in : List Edit → ℕ → Option ChannelPolicy
policy_in edits id = policy_of (state edits) (channel id)

-- what a session may do in a channel
abbrev pub rights_in : List Edit → ℕ → ℕ → Option ℕ
rights_in edits number id = perm_of (state edits) (session number) (channel id)
