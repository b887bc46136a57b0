-- For which cause a change of the sessions is refused: the first of those that apply.
use Rattle.std.specs.Prelude.{◌≡◌, ◌⊎◌, ◌≤◌, ◌<◌, ℕ, ◌-◌, ◌^◌, false, List, [], ◌∷◌, length, sum_by, None}
use Rattle.std.specs.List.{Contains, count_by}
use Rattle.mum_base.specs.declared.number.{ChannelId.ChannelId, SessionId.SessionId}
use Rattle.mum_users.specs.declared.{fault.UserFault.UserFault, target.Target.Target, target.TargetItem.TargetItem}
use Rattle.mum_users.specs.declared.user.User.{User}
use Rattle.mum_users.specs.declared.fault.UserFault.TheVariants.{Full, ListenerLimit, NameInUse, NoSession, SessionsUsedUp, TargetId, TargetSize, UserListenerLimit}
use Rattle.mum_users.specs.{Edit.UserEdit, Edit.edit_fault, Edit.edited, Listeners.listen_fault, Listeners.listens}
use Rattle.mum_users.specs.Sessions.{join_fault, session_of}
use Rattle.mum_users.specs.{State.RosterState, State.is_of_channel, State.is_of_session, Targets.target_fault}
use Rattle.mum_part_laws.specs.Firsts.{NamesFirst}

abbrev pub IsGone : RosterState → SessionId → Type 0
IsGone roster session = session_of roster session ≡ None

-- how many listen to the channel, and to how many the session listens
abbrev pub listener_count : RosterState → ChannelId → ℕ
listener_count roster channel = count_by (is_of_channel channel) roster.listeners

abbrev pub listened_count : RosterState → SessionId → ℕ
listened_count roster session = count_by (is_of_session session) roster.listeners

-- ---- a session more

abbrev pub AgainstJoin : RosterState → List ℕ → UserFault → Type 0
AgainstJoin roster name NameInUse = (user : User) × Contains roster.sessions user × (user.name ≡ name)
AgainstJoin roster name Full = roster.limit ≤ length roster.sessions
AgainstJoin roster name SessionsUsedUp = 2 ^ 32 - 1 ≤ roster.last
AgainstJoin roster name cause = ⊥

abbrev pub JoinsNameTheFirst : Type 0
JoinsNameTheFirst =
    (roster : RosterState) (name : List ℕ)
    → NamesFirst (AgainstJoin roster name) (NameInUse ∷ Full ∷ SessionsUsedUp ∷ []) (join_fault roster name)

-- ---- a channel more to listen to

-- a channel to which it listens already is none more
abbrev pub AgainstListening : RosterState → SessionId → ChannelId → UserFault → Type 0
AgainstListening roster session channel NoSession = IsGone roster session
AgainstListening roster session channel ListenerLimit =
    (listens roster session channel ≡ false) × (64 ≤ listener_count roster channel)
AgainstListening roster session channel UserListenerLimit =
    (listens roster session channel ≡ false) × (32 ≤ listened_count roster session)
AgainstListening roster session channel cause = ⊥

abbrev pub ListeningNamesTheFirst : Type 0
ListeningNamesTheFirst =
    (roster : RosterState) (session : SessionId) (channel : ChannelId)
    → NamesFirst (AgainstListening roster session channel) (NoSession ∷ ListenerLimit ∷ UserListenerLimit ∷ [])
    (listen_fault roster session channel)

-- ---- several parts of a session

-- the limits are of the roster after the change: of the channels that are to be listened to, and of the session
abbrev pub AgainstEdit : RosterState → SessionId → UserEdit → UserFault → Type 0
AgainstEdit roster session change NoSession = IsGone roster session
AgainstEdit roster session change ListenerLimit =
    (channel : ChannelId) × Contains change.listen channel
    × (64 < listener_count (edited roster session change) channel)
AgainstEdit roster session change UserListenerLimit = 32 < listened_count (edited roster session change) session
AgainstEdit roster session change cause = ⊥

abbrev pub EditsNameTheFirst : Type 0
EditsNameTheFirst =
    (roster : RosterState) (session : SessionId) (change : UserEdit)
    → NamesFirst (AgainstEdit roster session change) (NoSession ∷ ListenerLimit ∷ UserListenerLimit ∷ [])
    (edit_fault roster session change)

-- ---- a voice target

-- more than 16 items, more than 128 sessions over all of them, or a group of more than 128 bytes
abbrev pub IsTooLarge : Target → Type 0
IsTooLarge target =
    (16 < length target.items) ⊎ (128 < sum_by (λ item. length item.sessions) target.items)
    ⊎ ((item : TargetItem) × Contains target.items item × (128 < length item.group))

abbrev pub AgainstTarget : RosterState → SessionId → ℕ → Target → UserFault → Type 0
AgainstTarget roster session id target NoSession = IsGone roster session
AgainstTarget roster session id target TargetId = (id ≡ 0) ⊎ (30 < id)
AgainstTarget roster session id target TargetSize = IsTooLarge target
AgainstTarget roster session id target cause = ⊥

abbrev pub TargetsNameTheFirst : Type 0
TargetsNameTheFirst =
    (roster : RosterState) (session : SessionId) (id : ℕ) (target : Target)
    → NamesFirst (AgainstTarget roster session id target) (NoSession ∷ TargetId ∷ TargetSize ∷ [])
    (target_fault roster session id target)
