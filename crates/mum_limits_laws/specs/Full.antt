-- What is full takes nothing more.
use Rattle.std.specs.Prelude.{◌≡◌, ◌≢◌, ◌⊎◌, ◌≤◌, ◌<◌, ◌==◌, ℕ, not, false, [], ◌∷◌, filter, length, Some, None, unwrap_or}
use Rattle.std.specs.List.{count_by}
use Rattle.mum_base.specs.declared.number.{ChannelId.ChannelId, SessionId.SessionId}
use Rattle.mum_tree.specs.{Rows.path, Rows.row_of, State.are_linked}
use Rattle.mum_tree.specs.declared.channel.Row.{Row}
use Rattle.mum_users.specs.{Listeners.listens, Sessions.session_of}
use Rattle.mum_users.specs.declared.user.User.{User}
use Rattle.mum_msg_state.specs.declared.{channel_state.ChannelState.ChannelState, user_state.UserState.UserState}
use Rattle.mum_msg_rule.specs.declared.{acl.Acl.Acl as AclMessage, voice_target.VoiceTarget.VoiceTarget}
use Rattle.mum_state.specs.{Proper.IsProper, State.StateValue}
use Rattle.mum_state.specs.declared.{edit.Edit.Edit, verdict.Verdict.TheVariants.Accepted}
use Rattle.mum_rules_tree.specs.Verdict.{tree_verdict}
use Rattle.mum_rules_tree.specs.declared.message.TreeMessage.TheVariants.{Acl, State}
use Rattle.mum_rules_user.specs.Verdict.{user_verdict}
use Rattle.mum_rules_user.specs.declared.message.UserMessage.TheVariants.{Target, User as Changes}
use Rattle.mum_limits_laws.specs.Denials.{channel}

-- whoever enters another channel, or is moved there, enters one that takes any number of users, or that had fewer than it takes
abbrev pub FullChannelsAreNotEntered : Type 0
FullChannelsAreNotEntered =
    (state : StateValue) (actor : SessionId) (asked : UserState) (edit : Edit) (user : User) (n : ℕ) (row : Row)
    → user_verdict state (Some actor) (Changes asked) ≡ Accepted edit
    → session_of state.roster (record { 0 = unwrap_or asked.session actor.0 }) ≡ Some user
    → asked.channel_id ≡ Some n → n ≢ user.channel.0 → row_of state.tree.channels (channel n) ≡ Some row
    → (row.channel.info.max_users ≡ 0)
    ⊎ (count_by (λ one. one.channel.0 == n) state.roster.sessions < row.channel.info.max_users)

-- a link more of a channel that has 64 is not let in
abbrev pub SixtyFifthLinksAreRefused : Type 0
SixtyFifthLinksAreRefused =
    (state : StateValue) (actor : SessionId) (asked : ChannelState) (edit : Edit) (id other : ChannelId)
    → IsProper state
    → asked.channel_id ≡ Some id.0 → asked.links_add ≡ other.0 ∷ [] → asked.links_remove ≡ []
    → other.0 ≢ id.0 → are_linked state.tree id other ≡ false
    → (64 ≤ count_by (λ pair. pair.0.0 == id.0) state.tree.links)
    ⊎ (64 ≤ count_by (λ pair. pair.0.0 == other.0) state.tree.links)
    → tree_verdict state actor (State asked) ≢ Accepted edit

-- nor is a channel made where there are as many as may be, or under one that is 32 below the root
abbrev pub ChannelsTooManyAreRefused : Type 0
ChannelsTooManyAreRefused =
    (state : StateValue) (actor : SessionId) (asked : ChannelState) (edit : Edit) (parent : ℕ)
    → asked.channel_id ≡ None → asked.parent ≡ Some parent
    → (state.tree.limit ≤ length state.tree.channels) ⊎ (33 ≤ length (path state.tree.channels (channel parent)))
    → tree_verdict state actor (State asked) ≢ Accepted edit

-- ---- lists, targets and listeners

-- a policy of more than 128 entries or 64 groups is not set; what the message says is inherited does not count
abbrev pub PoliciesTooLargeAreRefused : Type 0
PoliciesTooLargeAreRefused =
    (state : StateValue) (actor : SessionId) (asked : AclMessage) (edit : Edit) → unwrap_or asked.query false ≡ false
    → (128 < length (filter (λ line. not (unwrap_or line.inherited false)) asked.acls))
    ⊎ (64 < length (filter (λ group. not (unwrap_or group.inherited false)) asked.groups))
    → tree_verdict state actor (Acl asked) ≢ Accepted edit

-- nor a voice target of more than 16 items
abbrev pub TargetsTooLargeAreRefused : Type 0
TargetsTooLargeAreRefused =
    (state : StateValue) (actor : SessionId) (asked : VoiceTarget) (edit : Edit) → 16 < length asked.targets
    → user_verdict state (Some actor) (Target asked) ≢ Accepted edit

-- and nobody begins to listen to a channel to which 64 listen, or that listens to 32
abbrev pub ListenersTooManyAreRefused : Type 0
ListenersTooManyAreRefused =
    (state : StateValue) (actor : SessionId) (asked : UserState) (edit : Edit) (n : ℕ) → IsProper state
    → asked.session ≡ None → asked.listening_channel_add ≡ n ∷ [] → listens state.roster actor (channel n) ≡ false
    → (64 ≤ count_by (λ pair. pair.channel.0 == n) state.roster.listeners)
    ⊎ (32 ≤ count_by (λ pair. pair.session.0 == actor.0) state.roster.listeners)
    → user_verdict state (Some actor) (Changes asked) ≢ Accepted edit
