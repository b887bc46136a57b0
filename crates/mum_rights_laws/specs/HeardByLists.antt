-- Who hears a packet, in words of links, voice targets and the entries of access control lists.
use Rattle.std.specs.Prelude.{◌≡◌, ◌≢◌, ◌⊎◌, ℕ, true, Some, IsTrue}
use Rattle.std.specs.List.{Contains}
use Rattle.mum_base.specs.declared.{number.ChannelId.ChannelId, number.SessionId.SessionId, perm.Perm.Perm}
use Rattle.mum_base.specs.declared.perm.TheConstants.Perm.{LISTEN, SPEAK, WHISPER}
use Rattle.mum_tree.specs.{Rows.path, State.TreeState, State.below, Walks.linked}
use Rattle.mum_users.specs.declared.{target.Target.Target, target.TargetItem.TargetItem, user.User.User}
use Rattle.mum_users.specs.{Sessions.session_of, Targets.target_of}
use Rattle.mum_state.specs.{Proper.IsProper, State.StateValue, State.policy_of}
use Rattle.mum_route.specs.declared.routes.TheConstants.{LOOPBACK, TALK}
use Rattle.mum_route.specs.{Hearing.is_in_group, Route.route}
use Rattle.mum_rights_laws.specs.ByLists.{HasByLists, IsGranted, seen}

-- the lists give the session the permission in the channel
abbrev pub IsGrantedIn : StateValue → User → Perm → ChannelId → Type 0
IsGrantedIn state user perm channel =
    IsGranted (policy_of state) (path state.tree.channels channel) (seen state user user.tokens) perm.0

-- the session is in the channel, or listens to it and has Listen there
abbrev pub IsAt : StateValue → User → ChannelId → Type 0
IsAt state user channel =
    (user.channel ≡ channel)
    ⊎ (Contains state.roster.listeners (record { session = user.session; channel = channel })
    × HasByLists (policy_of state) (path state.tree.channels channel) (seen state user user.tokens) LISTEN.0)

-- whoever hears a session talk is in a channel, or listens to one, to which links lead from the speaker's, and where the
-- lists give the speaker Speak
abbrev pub TalkIsHeardByLists : Type 0
TalkIsHeardByLists =
    (state : StateValue) (speaker hearer : SessionId) (context : ℕ) → IsProper state
    → Contains (route state speaker TALK) (hearer, context)
    → (own : User) × (user : User) × (channel : ChannelId)
    × (session_of state.roster speaker ≡ Some own) × (session_of state.roster hearer ≡ Some user)
    × Contains (linked state.tree own.channel) channel × IsGrantedIn state own SPEAK channel × IsAt state user channel

-- an item of a voice target is aimed at the channel: it names it, or one that links lead to it from, or one above it
abbrev pub IsAimedAt : TreeState → TargetItem → ChannelId → Type 0
IsAimedAt tree item channel =
    (top : ChannelId) × (item.channel ≡ Some top)
    × ((channel ≡ top)
    ⊎ (((item.links ≡ true) × Contains (linked tree top) channel)
    ⊎ ((item.children ≡ true) × Contains (below tree top) channel)))

-- whoever hears a session whisper is named by an item of the voice target, or is in the item's group in a channel at which
-- the item is aimed, and in which it is or to which it listens; and there the lists give the speaker Whisper
abbrev pub WhispersAreHeardByLists : Type 0
WhispersAreHeardByLists =
    (state : StateValue) (speaker hearer : SessionId) (target context : ℕ) → IsProper state → target ≢ TALK
    → target ≢ LOOPBACK
    → Contains (route state speaker target) (hearer, context)
    → (own : User) × (user : User) × (set : Target) × (item : TargetItem) × (channel : ChannelId)
    × (session_of state.roster speaker ≡ Some own) × (session_of state.roster hearer ≡ Some user)
    × (target_of state.roster speaker target ≡ Some set) × Contains set.items item
    × IsGrantedIn state own WHISPER channel
    × ((Contains item.sessions hearer × (user.channel ≡ channel))
    ⊎ (IsAimedAt state.tree item channel × IsTrue (is_in_group state item.group channel user)
    × IsAt state user channel))
