-- Who hears a packet, and in which context.
use Rattle.std.specs.Prelude.{ℕ, ◌==◌, ◌&&◌, Bool, List, [], ◌∷◌, filter, Option, Some, None, if◌then◌else◌}
use Rattle.std.specs.{List.filter_map, List.list_any, Option.option_map, Option.option_map_or}
use Rattle.mum_base.specs.Channels.{is_among}
use Rattle.mum_base.specs.declared.number.{ChannelId.ChannelId, SessionId.SessionId}
use Rattle.mum_base.specs.declared.perm.TheConstants.Perm.{LISTEN, WHISPER}
use Rattle.mum_users.specs.declared.{target.TargetItem.TargetItem, user.User.User}
use Rattle.mum_users.specs.{Listeners.pairs_of, Sessions.session_of, Targets.target_of}
use Rattle.mum_state.specs.State.{StateValue}
use Rattle.mum_route.specs.declared.{context.Context.Context, routes.TheConstants.LOOPBACK, routes.TheConstants.TALK}
use Rattle.mum_route.specs.declared.context.Context.TheVariants.{Talk, ChannelWhisper, DirectWhisper, Listener}
use Rattle.mum_route.specs.{Context.code, Cover.cover, Cover.talk}
use Rattle.mum_route.specs.Hearing.{can_hear, is_in_group, is_silent, may}

-- ---- the ways in which a packet reaches a session

-- the session is in one of these channels, and in the group there
abbrev pub is_within : StateValue → List ChannelId → List ℕ → User → Bool
is_within state covered group user = is_among covered user.channel && is_in_group state group user.channel user

-- it listens to one of these channels, is in the group there, and may listen there
abbrev pub listens_within : StateValue → List ChannelId → List ℕ → User → Bool
listens_within state covered group user = list_any
    (λ pair. is_among covered pair.channel && is_in_group state group pair.channel user
    && may state user.session LISTEN pair.channel)
    (pairs_of state.roster user.session)

abbrev pub is_named : List SessionId → User → Bool
is_named sessions user = list_any (λ one. one.0 == user.session.0) sessions

-- the item covers the channel in which the session is
abbrev pub is_covered_by : StateValue → User → User → TargetItem → Bool
is_covered_by state speaker user item = is_within state (cover state speaker item) item.group user

-- the item names the session, and the speaker may whisper where that is
abbrev pub is_named_by : StateValue → User → User → TargetItem → Bool
is_named_by state speaker user item = is_named item.sessions user && may state speaker.session WHISPER user.channel

-- the session listens to a channel that the item covers
abbrev pub listens_to : StateValue → User → User → TargetItem → Bool
listens_to state speaker user item = listens_within state (cover state speaker item) item.group user

-- ---- the first of them that applies

abbrev pub by_talk : StateValue → User → User → Option Context
by_talk state speaker user =
    if is_within state (talk state speaker) [] user then Some Talk
    else if listens_within state (talk state speaker) [] user then Some Listener
    else None

abbrev pub by_items : StateValue → User → List TargetItem → User → Option Context
by_items state speaker items user =
    if list_any (is_covered_by state speaker user) items then Some ChannelWhisper
    else if list_any (is_named_by state speaker user) items then Some DirectWhisper
    else if list_any (listens_to state speaker user) items then Some Listener
    else None

-- the items of a voice target; one that is not set has none
abbrev pub items_of : StateValue → SessionId → ℕ → List TargetItem
items_of state session target = option_map_or (λ set. set.items) (target_of state.roster session target) []

abbrev pub context_of : StateValue → User → ℕ → User → Option Context
context_of state speaker target user =
    if target == TALK then by_talk state speaker user
    else by_items state speaker (items_of state speaker.session target) user

-- ---- the route

-- a session that hears a packet, and the context in which it does
abbrev pub Member : Type 0
Member = SessionId × ℕ

abbrev pub member_by : User → Context → Member
member_by user context = (user.session, code context)

-- those of these sessions whom the speaker's packet reaches, in their order
abbrev pub reached_of : StateValue → User → ℕ → List User → List Member
reached_of state speaker target users =
    filter_map (λ user. option_map (member_by user) (context_of state speaker target user))
    (filter (can_hear speaker.session) users)

-- nobody hears who is silent; loopback comes back to the speaker, deaf or not; all else reaches others, in slot order
abbrev pub heard_from : StateValue → User → ℕ → List Member
heard_from state speaker target =
    if is_silent speaker then []
    else if target == LOOPBACK then member_by speaker Talk ∷ []
    else reached_of state speaker target state.roster.sessions

-- who hears what a session says to a target; one that is not there is not heard
abbrev pub route : StateValue → SessionId → ℕ → List Member
route state speaker target = option_map_or (λ user. heard_from state user target) (session_of state.roster speaker) []
