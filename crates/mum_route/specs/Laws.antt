-- What holds of every route, in words of its own.
use Rattle.std.specs.Prelude.{◌≡◌, ◌≢◌, ℕ, ◌+◌, ◌*◌, ◌^◌, ◌<◌, ◌⊎◌, ◌==◌, false, List, [], ◌∷◌, ◌++◌, map, Some, IsTrue, if◌then◌else◌}
use Rattle.std.specs.List.{All, AllPairs, Contains}
use Rattle.mum_base.specs.declared.{number.ChannelId.ChannelId, number.SessionId.SessionId, perm.Perm.Perm}
use Rattle.mum_base.specs.declared.perm.TheConstants.Perm.{LISTEN, SPEAK, WHISPER}
use Rattle.mum_users.specs.declared.{target.TargetItem.TargetItem, user.User.User}
use Rattle.mum_users.specs.Sessions.{session_of}
use Rattle.mum_voice.specs.{Packet.Parts, Varint.shortest_word}
use Rattle.mum_state.specs.{Proper.IsProper, Routed.route_inputs, State.StateValue}
use Rattle.mum_route.specs.declared.{routes.TheConstants.LOOPBACK, routes.TheConstants.TALK, hearer.Hearer.Hearer}
use Rattle.mum_route.specs.{Cover.cover, Cover.talk, Hearers.copy_for, Hearers.hearers_at, Hearers.member_of}
use Rattle.mum_route.specs.Route.{Member, items_of, route}
use Rattle.mum_route.specs.Hearing.{can_hear, is_deaf, is_in_group, is_silent, may}

-- ---- the speaker

-- nobody hears a session that is muted, muted itself, or may not speak where it is, not even by loopback
abbrev pub SilentAreUnheard : Type 0
SilentAreUnheard =
    (state : StateValue) (speaker : SessionId) (target : ℕ) (user : User)
    → session_of state.roster speaker ≡ Some user → IsTrue (is_silent user) → route state speaker target ≡ []

-- the speaker does not hear what it says, but by loopback
abbrev pub NeverToSpeaker : Type 0
NeverToSpeaker =
    (state : StateValue) (speaker : SessionId) (target : ℕ) → target ≢ LOOPBACK
    → All (λ member. member.0.0 ≢ speaker.0) (route state speaker target)

-- what comes back comes to the speaker alone, once, as talk
abbrev pub LoopbackToSpeaker : Type 0
LoopbackToSpeaker =
    (state : StateValue) (speaker : SessionId) (user : User)
    → session_of state.roster speaker ≡ Some user → is_silent user ≡ false
    → route state speaker LOOPBACK ≡ (speaker, 0) ∷ []

-- ---- the list

-- the first is in a lower slot, so no session is there twice
abbrev pub IsInLowerSlot : StateValue → Member → Member → Type 0
IsInLowerSlot state one later =
    (a : User) × (b : User) × (session_of state.roster one.0 ≡ Some a) × (session_of state.roster later.0 ≡ Some b)
    × (a.slot.0 < b.slot.0)

abbrev pub StandInSlotOrder : Type 0
StandInSlotOrder =
    (state : StateValue) (speaker : SessionId) (target : ℕ) → IsProper state
    → AllPairs (IsInLowerSlot state) (route state speaker target)

abbrev pub EachOnce : Type 0
EachOnce =
    (state : StateValue) (speaker : SessionId) (target : ℕ) → IsProper state
    → AllPairs (λ one later. one.0.0 ≢ later.0.0) (route state speaker target)

-- ---- those who hear

-- this holds of each member, by its row and the number of its context
abbrev pub EachHears : StateValue → (User → ℕ → Type 0) → List Member → Type 0
EachHears state Hears members =
    All (λ member. (user : User) × (session_of state.roster member.0 ≡ Some user) × Hears user member.1) members

abbrev pub NobodyDeaf : Type 0
NobodyDeaf =
    (state : StateValue) (speaker : SessionId) (target : ℕ) → IsProper state → target ≢ LOOPBACK
    → EachHears state (λ user code. is_deaf user ≡ false) (route state speaker target)

-- the session listens to the channel, and may listen there
abbrev pub Listens : StateValue → User → ChannelId → Type 0
Listens state user channel =
    Contains state.roster.listeners (record { session = user.session; channel = channel })
    × IsTrue (may state user.session LISTEN channel)

-- what a speaker needs in a channel where it is to be heard: Speak to talk, Whisper for a voice target
abbrev pub needed_for : ℕ → Perm
needed_for target = if target == TALK then SPEAK else WHISPER

-- who hears a packet is in a channel where the speaker has what it needs, or listens to one
abbrev pub HeardOnlyWhereAllowed : Type 0
HeardOnlyWhereAllowed =
    (state : StateValue) (speaker : SessionId) (target : ℕ) → IsProper state → target ≢ LOOPBACK
    → EachHears state
    (λ user code. (channel : ChannelId) × IsTrue (may state speaker (needed_for target) channel)
    × ((user.channel ≡ channel) ⊎ Listens state user channel))
    (route state speaker target)

-- ---- contexts, each only where none before it applies

abbrev pub IsInTalk : StateValue → User → User → Type 0
IsInTalk state speaker user = Contains (talk state speaker) user.channel

abbrev pub ListensToTalk : StateValue → User → User → Type 0
ListensToTalk state speaker user =
    (channel : ChannelId) × Contains (talk state speaker) channel × Listens state user channel

-- by talk: 0 in a covered channel, else 3 for who listens to one
abbrev pub IsTalkContext : StateValue → User → User → ℕ → Type 0
IsTalkContext state speaker user code =
    ((code ≡ 0) × IsInTalk state speaker user)
    ⊎ ((code ≡ 3) × ¬ IsInTalk state speaker user × ListensToTalk state speaker user)

abbrev pub IsCovered : StateValue → User → List TargetItem → User → Type 0
IsCovered state speaker items user =
    (item : TargetItem) × Contains items item × Contains (cover state speaker item) user.channel
    × IsTrue (is_in_group state item.group user.channel user)

abbrev pub IsNamed : StateValue → User → List TargetItem → User → Type 0
IsNamed state speaker items user =
    (item : TargetItem) × Contains items item × Contains item.sessions user.session
    × IsTrue (may state speaker.session WHISPER user.channel)

abbrev pub ListensToItems : StateValue → User → List TargetItem → User → Type 0
ListensToItems state speaker items user =
    (item : TargetItem) × (channel : ChannelId) × Contains items item × Contains (cover state speaker item) channel
    × IsTrue (is_in_group state item.group channel user) × Listens state user channel

-- by a voice target: 1 in a covered channel, else 2 for who is named, else 3 for who listens
abbrev pub IsItemContext : StateValue → User → List TargetItem → User → ℕ → Type 0
IsItemContext state speaker items user code =
    ((code ≡ 1) × IsCovered state speaker items user)
    ⊎ (((code ≡ 2) × ¬ IsCovered state speaker items user × IsNamed state speaker items user)
    ⊎ ((code ≡ 3) × ¬ IsCovered state speaker items user × ¬ IsNamed state speaker items user
    × ListensToItems state speaker items user))

abbrev pub ContextsByPrecedence : Type 0
ContextsByPrecedence =
    (state : StateValue) (speaker : SessionId) (user : User) → IsProper state
    → session_of state.roster speaker ≡ Some user
    → EachHears state (IsTalkContext state user) (route state speaker TALK)
    × ((target : ℕ) → target ≢ TALK → target ≢ LOOPBACK
    → EachHears state (IsItemContext state user (items_of state speaker target)) (route state speaker target))

-- and whoever can hear and is reached so does hear
abbrev pub NobodyLeftOut : Type 0
NobodyLeftOut =
    (state : StateValue) (speaker : SessionId) (own user : User) → session_of state.roster speaker ≡ Some own
    → is_silent own ≡ false
    → Contains state.roster.sessions user → IsTrue (can_hear speaker user)
    → ((code : ℕ) → IsTalkContext state own user code → Contains (route state speaker TALK) (user.session, code))
    × ((target code : ℕ) → target ≢ TALK → target ≢ LOOPBACK
    → IsItemContext state own (items_of state speaker target) user code
    → Contains (route state speaker target) (user.session, code))

-- ---- what is sent

-- those who hear are the members of the route, in its order
abbrev pub HearersAreTheRoute : Type 0
HearersAreTheRoute =
    (state : StateValue) (speaker : SessionId) (target : ℕ)
    → map member_of (hearers_at state speaker target) ≡ route state speaker target

-- each who hears is there, and in the slot that is kept for it
abbrev pub EachInItsSlot : Type 0
EachInItsSlot =
    (state : StateValue) (speaker : SessionId) (target : ℕ)
    → All (λ hearer. (user : User) × (session_of state.roster hearer.session ≡ Some user) × (hearer.slot ≡ user.slot))
    (hearers_at state speaker target)

-- what the copies of a packet in one context begin with: all but the position
abbrev pub before_position : SessionId → Parts → ℕ → List ℕ
before_position speaker packet context =
    (packet.kind * 2 ^ 5 + context) ∷ shortest_word speaker.0 ++ packet.sequence ++ packet.audio

-- a copy ends with the position of its packet where the plugins of the two are in one context, and else has none
abbrev pub HasPositionBy : User → User → SessionId → Parts → Hearer → Type 0
HasPositionBy own user speaker packet hearer =
    (own.context ≡ user.context
    → copy_for speaker packet hearer ≡ before_position speaker packet hearer.context ++ packet.position)
    × (own.context ≢ user.context → copy_for speaker packet hearer ≡ before_position speaker packet hearer.context)

abbrev pub PositionsByContext : Type 0
PositionsByContext =
    (state : StateValue) (speaker : SessionId) (target : ℕ) (packet : Parts) (own : User)
    → session_of state.roster speaker ≡ Some own
    → All (λ hearer. (user : User) → session_of state.roster hearer.session ≡ Some user
    → HasPositionBy own user speaker packet hearer) (hearers_at state speaker target)

-- ---- what it depends on

-- where the parts that a route reads are the same, so is the route
abbrev pub RouteIsOfItsInputs : Type 0
RouteIsOfItsInputs =
    (state later : StateValue) (speaker : SessionId) (target : ℕ) → route_inputs state ≡ route_inputs later
    → route state speaker target ≡ route later speaker target
