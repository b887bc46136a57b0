-- What a packet is aimed at, one thing after the other: at those whom talk reaches, or at those of an item of a voice target.
use Rattle.std.specs.Prelude.{◌≡◌, ℕ, ◌<◌, ◌&&◌, Bool, true, false, List, [], filter, length, slice_index_or, Option, Some, None, IfSome, IsTrue, if◌then◌else◌}
use Rattle.std.specs.{List.All, List.filter_map, List.zip, Option.option_map, Option.option_map_or}
use Rattle.mum_base.specs.Channels.{is_among}
use Rattle.mum_base.specs.declared.{number.ChannelId.ChannelId, number.SessionId.SessionId, perm.Perm.Perm}
use Rattle.mum_base.specs.declared.perm.TheConstants.Perm.{SPEAK, WHISPER}
use Rattle.mum_tree.specs.{Rows.is_there, State.TreeState, Walks.linked}
use Rattle.mum_users.specs.declared.{target.TargetItem.TargetItem, user.User.User}
use Rattle.mum_state.specs.State.{StateValue}
use Rattle.mum_route.specs.declared.{aim.Aim.Aim, aim.Ground.Ground, context.Context.Context, cover.Answer.Answer}
use Rattle.mum_route.specs.declared.hearer.Hearer.{Hearer}
use Rattle.mum_route.specs.declared.context.Context.TheVariants.{Talk, ChannelWhisper, DirectWhisper, Listener}
use Rattle.mum_route.specs.{Context.code, Cover.spread, Hearers.shares, Hearing.can_hear, Hearing.may}
use Rattle.mum_route.specs.Route.{Member, context_of, is_named, is_within, listens_within, member_by}

-- an aim as plain data: whose it is, what permission it needs, from where it spreads, and whom it names
pub record Aimed : Type 0 where
  pub speaker : SessionId
  pub perm : Perm
  pub inside : Context
  pub ground : Option Ground
  pub group : List ℕ
  pub named : List SessionId

-- what the code's aim says
abbrev pub aimed : Aim → Aimed
aimed aim = record {
  speaker = aim.speaker;
  perm = aim.perm;
  inside = aim.inside;
  ground = aim.ground;
  group = aim.group.now;
  named = aim.named.now;
}

-- talk spreads over links, and names nobody
abbrev pub talk_aim : User → Aimed
talk_aim speaker = record {
  speaker = speaker.session;
  perm = SPEAK;
  inside = Talk;
  ground = Some (record { top = speaker.channel; links = true; children = false });
  group = [];
  named = [];
}

-- from where an item spreads; from nowhere where its channel is not set or gone
abbrev pub ground_of : TreeState → TargetItem → Option Ground
ground_of tree item = option_map_or
    (λ channel. if is_there tree.channels channel
    then Some (record { top = channel; links = item.links; children = item.children })
    else None)
    item.channel None

abbrev pub item_aim : StateValue → SessionId → TargetItem → Aimed
item_aim state speaker item = record {
  speaker = speaker;
  perm = WHISPER;
  inside = ChannelWhisper;
  ground = ground_of state.tree item;
  group = item.group;
  named = item.sessions;
}

-- the channels over which an aim spreads, where the speaker has the permission
abbrev pub covered : StateValue → Aimed → List ChannelId
covered state aim = option_map_or
    (λ ground. filter (may state aim.speaker aim.perm) (spread state.tree ground.links ground.children ground.top))
    aim.ground []

-- the first way in which an aim reaches a session
abbrev pub reached_by : StateValue → Aimed → User → Option Context
reached_by state aim user =
    if is_within state (covered state aim) aim.group user then Some aim.inside
    else if is_named aim.named user && may state aim.speaker aim.perm user.channel then Some DirectWhisper
    else if listens_within state (covered state aim) aim.group user then Some Listener
    else None

-- the same of one whom the speaker's packet may reach
abbrev pub heard_by : StateValue → Aimed → User → Option Context
heard_by state aim user = if can_hear aim.speaker user then reached_by state aim user else None

-- what is known, by the places of channels, is whether the speaker has the permission there
abbrev pub AreKnown : StateValue → SessionId → Perm → List (Option Bool) → Type 0
AreKnown state speaker perm known =
    All (λ row. IfSome (slice_index_or known row.place None)
    (λ answer. answer ≡ may state speaker perm row.channel.id)) state.tree.channels

-- what was answered last, if anything, is right
abbrev pub IsAnswered : StateValue → Aimed → Option Answer → Type 0
IsAnswered state aim last = IfSome last (λ answer. answer.covered ≡ is_among (covered state aim) answer.channel)

-- the marks are of the channels that links lead to, where the ground spreads over links
abbrev pub AreMarked : TreeState → Option Ground → List ChannelId → Type 0
AreMarked tree ground marks = IfSome ground (λ one. IsTrue one.links → marks ≡ linked tree one.top)

-- how a session hears what a speaker says to a target, if it does
abbrev pub heard_as : StateValue → User → ℕ → User → Option Context
heard_as state speaker target user =
    if can_hear speaker.session user then context_of state speaker target user else None

-- this is how each of these sessions hears the speaker
abbrev pub AreHeard : (User → Option Context) → List User → List (Option Context) → Type 0
AreHeard heard users reached =
    (k : ℕ) (d : User) → k < length users → slice_index_or reached k None ≡ heard (slice_index_or users k d)

-- a session that a speaker's packet reaches in this context, with what its copy needs
abbrev pub hearer_by : User → User → Context → Hearer
hearer_by own user context =
    record { session = user.session; slot = user.slot; context = code context; same = shares (Some own) user }

-- those of these sessions that are reached, each with its context
abbrev pub heard_of : User → List User → List (Option Context) → List Hearer
heard_of own users reached = filter_map (λ one. option_map (hearer_by own one.0) one.1) (zip users reached)

-- the same, each with the number of its context
abbrev pub members_by : List User → List (Option Context) → List Member
members_by users reached = filter_map (λ one. option_map (member_by one.0) one.1) (zip users reached)
