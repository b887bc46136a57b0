-- A call is refused exactly where it would not leave a proper roster; and to what sessions listen after a change.
use Rattle.std.specs.Prelude.{◌≡◌, ◌↔◌, ◌<◌, ◌&&◌, ◌||◌, not, ℕ, List, length, Option, None, IsTrue}
use Rattle.std.specs.List.{list_any}
use Rattle.mum_base.specs.declared.number.{AccountId.AccountId, ChannelId.ChannelId, SessionId.SessionId}
use Rattle.mum_base.specs.Channels.{is_among}
use Rattle.mum_users.specs.declared.target.Target.{Target}
use Rattle.mum_users.specs.Edit.{UserEdit, edit_fault, edited}
use Rattle.mum_users.specs.{Listeners.listen_fault, Listeners.listening, Listeners.listens, Proper.IsProper}
use Rattle.mum_users.specs.{Sessions.join_fault, Sessions.joined, State.RosterState, State.has_number}
use Rattle.mum_users.specs.Targets.{target_fault, targeted}

-- a session may join exactly where a proper roster stays one with it
abbrev pub JoinsWhereProper : Type 0
JoinsWhereProper =
    (state : RosterState) (name : List ℕ) (account : Option AccountId) (tokens : List (List ℕ)) → IsProper state
    → (join_fault state name ≡ None) ↔ IsProper (joined state name account tokens)

-- a session that is here may listen to a channel exactly where a proper roster stays one
abbrev pub ListensWhereProper : Type 0
ListensWhereProper =
    (state : RosterState) (session : SessionId) (channel : ChannelId) → IsProper state
    → IsTrue (list_any (has_number session) state.sessions)
    → (listen_fault state session channel ≡ None) ↔ IsProper (listening state session channel)

-- several parts of a session that is here may change exactly where a proper roster stays one
abbrev pub EditsWhereProper : Type 0
EditsWhereProper =
    (state : RosterState) (session : SessionId) (change : UserEdit) → IsProper state
    → IsTrue (list_any (has_number session) state.sessions)
    → (edit_fault state session change ≡ None) ↔ IsProper (edited state session change)

-- a session that is here may set a target that has items exactly where a proper roster stays one
abbrev pub TargetsWhereProper : Type 0
TargetsWhereProper =
    (state : RosterState) (session : SessionId) (id : ℕ) (target : Target) → IsProper state
    → IsTrue (list_any (has_number session) state.sessions) → 0 < length target.items
    → (target_fault state session id target ≡ None) ↔ IsProper (targeted state session id target)

-- without items, under any number, a proper roster stays one
abbrev pub UnsetStaysProper : Type 0
UnsetStaysProper =
    (state : RosterState) (session : SessionId) (id : ℕ) (target : Target) → IsProper state
    → length target.items ≡ 0 → IsProper (targeted state session id target)

-- after a change a session listens to what it did or is to listen to, but for what it is to leave
abbrev pub ListensAsTold : Type 0
ListensAsTold =
    (state : RosterState) (session : SessionId) (change : UserEdit) (channel : ChannelId)
    → listens (edited state session change) session channel
    ≡ ((listens state session channel || is_among change.listen channel) && not (is_among change.unlisten channel))

-- any other session listens to what it did
abbrev pub OthersListenAsBefore : Type 0
OthersListenAsBefore =
    (state : RosterState) (session : SessionId) (change : UserEdit) (other : SessionId) (channel : ChannelId)
    → ¬ (session.0 ≡ other.0)
    → listens (edited state session change) other channel ≡ listens state other channel
