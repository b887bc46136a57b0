-- What holds of every reason, in words of the route.
use Rattle.std.specs.Prelude.{◌≡◌, ◌≢◌, ◌↔◌, ℕ, ◌<◌, ◌⊎◌, false, List, [], Some, None, IsTrue}
use Rattle.std.specs.List.{All, Contains, slice_get}
use Rattle.mum_base.specs.declared.number.{ChannelId.ChannelId, SessionId.SessionId}
use Rattle.mum_base.specs.declared.perm.TheConstants.Perm.{LISTEN, SPEAK}
use Rattle.mum_tree.specs.{Rows.is_there, Walks.linked}
use Rattle.mum_users.specs.declared.{target.TargetItem.TargetItem, user.User.User}
use Rattle.mum_users.specs.Sessions.{session_of}
use Rattle.mum_state.specs.{Proper.IsProper, State.StateValue}
use Rattle.mum_route.specs.declared.{context.Context.Context, routes.TheConstants.LOOPBACK, routes.TheConstants.TALK}
use Rattle.mum_route.specs.{Context.code, Cover.cover, Cover.spread, Cover.talk, Hearing.is_in_group, Laws.needed_for}
use Rattle.mum_route.specs.Route.{items_of, route}
use Rattle.mum_why.specs.declared.reason.Reason.{Reason}
use Rattle.mum_why.specs.declared.reason.Reason.TheVariants.{Deaf, DeafenedItself, Heard, ItIsItself, ListenerLacks, ListenerOutsideGroup, Muted, MutedItself, NoHearer, NoSpeaker, OnlyLoopback, OutsideGroup, SpeakerLacks, SpeakerLacksAtListener, Suppressed, Uncovered, Unset}
use Rattle.mum_why.specs.{Cut.cut_of, Reason.reason}

-- ---- reasons and routes

-- a session hears in a context exactly where the route says so; in none exactly where the route does not have it
abbrev pub ReasonsAreRoutes : Type 0
ReasonsAreRoutes =
    (state : StateValue) (speaker hearer : SessionId) (target : ℕ) → IsProper state
    → ((context : Context)
    → (reason state speaker hearer target ≡ Heard context)
    ↔ Contains (route state speaker target) (hearer, code context))
    × (((context : Context) → reason state speaker hearer target ≢ Heard context)
    ↔ All (λ member. member.0 ≢ hearer) (route state speaker target))

-- ---- words of the route

-- links lead to the channel from that of the speaker
abbrev pub IsAimedByTalk : StateValue → User → ChannelId → Type 0
IsAimedByTalk state own channel = Contains (linked state.tree own.channel) channel

-- the item spreads over the channel from one that is there
abbrev pub SpreadsOver : StateValue → TargetItem → ChannelId → Type 0
SpreadsOver state item channel =
    (top : ChannelId) × (item.channel ≡ Some top) × IsTrue (is_there state.tree.channels top)
    × Contains (spread state.tree item.links item.children top) channel

-- an item of the voice target does
abbrev pub IsAimedByItems : StateValue → List TargetItem → ChannelId → Type 0
IsAimedByItems state items channel = (item : TargetItem) × Contains items item × SpreadsOver state item channel

-- what is said to the target is aimed at the channel, whether or not the speaker may be heard there
abbrev pub IsAimedAt : StateValue → User → ℕ → ChannelId → Type 0
IsAimedAt state own target channel =
    ((target ≡ TALK) × IsAimedByTalk state own channel)
    ⊎ ((target ≢ TALK) × IsAimedByItems state (items_of state own.session target) channel)

-- an item of the voice target names the session
abbrev pub IsNamedBy : StateValue → User → ℕ → User → Type 0
IsNamedBy state own target user =
    (target ≢ TALK) × (item : TargetItem) × Contains (items_of state own.session target) item
    × Contains item.sessions user.session

-- talk covers the channel, or an item of the voice target does in whose group the session is there
abbrev pub IsCoveredFor : StateValue → User → ℕ → User → ChannelId → Type 0
IsCoveredFor state own target user channel =
    ((target ≡ TALK) × Contains (talk state own) channel)
    ⊎ ((target ≢ TALK) × (item : TargetItem) × Contains (items_of state own.session target) item
    × Contains (cover state own item) channel
    × IsTrue (is_in_group state item.group channel user))

-- the item at this place covers the channel, and the session is not in its group there
abbrev pub IsOutsideOf : StateValue → User → ℕ → User → ℕ → ChannelId → Type 0
IsOutsideOf state own target user index channel =
    (target ≢ TALK) × (item : TargetItem) × (slice_get (items_of state own.session target) index ≡ Some item)
    × Contains (cover state own item) channel
    × (is_in_group state item.group channel user ≡ false)

abbrev pub IsListened : StateValue → User → ChannelId → Type 0
IsListened state user channel = Contains state.roster.listeners (record { session = user.session; channel = channel })

-- ---- what each reason says

-- both are there, and this holds of them
abbrev pub OfBoth : StateValue → SessionId → SessionId → (User → User → Type 0) → Type 0
OfBoth state speaker hearer Holds =
    (own user : User) × (session_of state.roster speaker ≡ Some own) × (session_of state.roster hearer ≡ Some user)
    × Holds own user

abbrev pub ReasonHolds : StateValue → SessionId → SessionId → ℕ → Reason → Type 0
ReasonHolds state speaker hearer target (Heard context) = Contains (route state speaker target) (hearer, code context)
ReasonHolds state speaker hearer target NoSpeaker = session_of state.roster speaker ≡ None
ReasonHolds state speaker hearer target NoHearer = session_of state.roster hearer ≡ None
ReasonHolds state speaker hearer target Muted = OfBoth state speaker hearer (λ own user. IsTrue own.mute)
ReasonHolds state speaker hearer target MutedItself = OfBoth state speaker hearer (λ own user. IsTrue own.self_mute)
ReasonHolds state speaker hearer target (Suppressed cut) =
    OfBoth state speaker hearer (λ own user. IsTrue own.suppress × (cut_of state speaker own.channel SPEAK ≡ cut))
ReasonHolds state speaker hearer target OnlyLoopback =
    OfBoth state speaker hearer (λ own user. (target ≡ LOOPBACK) × (speaker ≢ hearer))
ReasonHolds state speaker hearer target ItIsItself =
    OfBoth state speaker hearer (λ own user. (target ≢ LOOPBACK) × (speaker ≡ hearer))
ReasonHolds state speaker hearer target Deaf = OfBoth state speaker hearer (λ own user. IsTrue user.deaf)
ReasonHolds state speaker hearer target DeafenedItself = OfBoth state speaker hearer (λ own user. IsTrue user.self_deaf)
ReasonHolds state speaker hearer target Unset =
    OfBoth state speaker hearer
    (λ own user. (target ≢ TALK) × (target ≢ LOOPBACK) × (items_of state speaker target ≡ []))
ReasonHolds state speaker hearer target (SpeakerLacks channel cut) =
    OfBoth state speaker hearer
    (λ own user. (user.channel ≡ channel) × (IsAimedAt state own target channel ⊎ IsNamedBy state own target user)
    × (cut_of state speaker channel (needed_for target) ≡ Some cut))
ReasonHolds state speaker hearer target (OutsideGroup index channel) =
    OfBoth state speaker hearer (λ own user. (user.channel ≡ channel) × IsOutsideOf state own target user index channel
    × ((earlier : ℕ) → earlier < index → ¬ IsOutsideOf state own target user earlier channel))
ReasonHolds state speaker hearer target (ListenerLacks channel cut) =
    OfBoth state speaker hearer (λ own user. IsListened state user channel × IsCoveredFor state own target user channel
    × (cut_of state hearer channel LISTEN ≡ Some cut))
ReasonHolds state speaker hearer target (ListenerOutsideGroup index channel) =
    OfBoth state speaker hearer
    (λ own user. IsListened state user channel × IsOutsideOf state own target user index channel
    × ((earlier : ℕ) (other : ChannelId) → earlier < index → IsListened state user other
    → ¬ IsOutsideOf state own target user earlier other))
ReasonHolds state speaker hearer target (SpeakerLacksAtListener channel cut) =
    OfBoth state speaker hearer (λ own user. IsListened state user channel × IsAimedAt state own target channel
    × (cut_of state speaker channel (needed_for target) ≡ Some cut))
ReasonHolds state speaker hearer target Uncovered =
    OfBoth state speaker hearer
    (λ own user. ¬ IsAimedAt state own target user.channel × ¬ IsNamedBy state own target user
    × ((channel : ChannelId) → IsListened state user channel → ¬ IsAimedAt state own target channel))

abbrev pub ReasonsHold : Type 0
ReasonsHold =
    (state : StateValue) (speaker hearer : SessionId) (target : ℕ) → IsProper state
    → ReasonHolds state speaker hearer target (reason state speaker hearer target)

-- ---- which reason comes first

-- how many reasons come before it
abbrev pub rank : Reason → ℕ
rank (Heard context) = 0
rank NoSpeaker = 1
rank NoHearer = 2
rank Muted = 3
rank MutedItself = 4
rank (Suppressed cut) = 5
rank OnlyLoopback = 6
rank ItIsItself = 7
rank Deaf = 8
rank DeafenedItself = 9
rank Unset = 10
rank (SpeakerLacks channel cut) = 11
rank (OutsideGroup index channel) = 12
rank (ListenerLacks channel cut) = 13
rank (ListenerOutsideGroup index channel) = 14
rank (SpeakerLacksAtListener channel cut) = 15
rank Uncovered = 16

-- nothing that comes before the reason that is given holds
abbrev pub ReasonsAreFirst : Type 0
ReasonsAreFirst =
    (state : StateValue) (speaker hearer : SessionId) (target : ℕ) (other : Reason) → IsProper state
    → rank other < rank (reason state speaker hearer target) → ¬ ReasonHolds state speaker hearer target other
