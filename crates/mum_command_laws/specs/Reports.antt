-- What is reported of sessions and channels that are others, of those that arrive, and of those that go.
use Rattle.std.specs.Prelude.{◌≡◌, ◌⊎◌, ℕ, Bool, false, List, [], ◌∷◌, Option, Some, None, unwrap_or, IsTrue}
use Rattle.std.specs.List.{All, Contains, flat_map}
use Rattle.mum_base.specs.Channels.{is_among}
use Rattle.mum_base.specs.declared.number.{ChannelId.ChannelId, SessionId.SessionId}
use Rattle.mum_tree.specs.{Rows.is_there, State.TreeState, State.partners}
use Rattle.mum_tree.specs.declared.channel.Channel.{Channel}
use Rattle.mum_users.specs.{Listeners.listens, Listeners.pairs_of, Sessions.session_of, State.RosterState}
use Rattle.mum_users.specs.declared.user.User.{User}
use Rattle.mum_msg_state.specs.declared.{channel_state.ChannelState.ChannelState, user_remove.UserRemove.UserRemove}
use Rattle.mum_msg_state.specs.declared.user_state.UserState.{UserState}
use Rattle.mum_state.specs.{Applied.applied, Fits.fits, Proper.IsProper, State.StateValue}
use Rattle.mum_state.specs.declared.edit.Edit.{Edit, TheVariants.Kick, TheVariants.Leave}
use Rattle.mum_notify.specs.{Channels.channel_of, Laws.IsFor, Notices.notices}
use Rattle.mum_notify.specs.Parcels.{channel_frame, parcel, user_frame, user_gone_frame}
use Rattle.mum_notify.specs.declared.notice.Notice.{Notice}

-- what a value is to whoever knew it and got these messages, each of which gives another or none
abbrev pub known : {M X : Type 0} → (M → Option X) → X → List M → X
known field value [] = value
known field value (message ∷ messages) = known field (unwrap_or (field message) value) messages

-- the frame goes to each of these sessions
abbrev pub ReachesAll : List Notice → List ℕ → List User → Type 0
ReachesAll sent frame users = All (λ user. Contains sent (parcel frame user)) users

-- ---- sessions

-- whoever knew a session as it was, and got these messages, knows it as it is
pub record LearnsUser (messages : List UserState) (was now : User) : Type 0 where
  pub session : All (λ message. message.session ≡ Some now.session.0) messages
  pub channel : known (λ message. message.channel_id) was.channel.0 messages ≡ now.channel.0
  pub mute : known (λ message. message.mute) was.mute messages ≡ now.mute
  pub deaf : known (λ message. message.deaf) was.deaf messages ≡ now.deaf
  pub suppress : known (λ message. message.suppress) was.suppress messages ≡ now.suppress
  pub self_mute : known (λ message. message.self_mute) was.self_mute messages ≡ now.self_mute
  pub self_deaf : known (λ message. message.self_deaf) was.self_deaf messages ≡ now.self_deaf
  pub priority : known (λ message. message.priority_speaker) was.priority messages ≡ now.priority
  pub recording : known (λ message. message.recording) was.recording messages ≡ now.recording
  pub comment : known (λ message. message.comment) was.comment messages ≡ now.comment

-- each channel to which the session listens now and did not is among those that these messages add, and each to which it
-- did and does not now is among those that they remove
pub record LearnsListening (messages : List UserState) (session : SessionId) (before after : RosterState) : Type 0 where
  pub begun : All
      (λ pair. IsTrue (listens before session pair.channel)
      ⊎ Contains (flat_map (λ message. message.listening_channel_add) messages) pair.channel.0)
      (pairs_of after session)
  pub ended : All
      (λ pair. IsTrue (listens after session pair.channel)
      ⊎ Contains (flat_map (λ message. message.listening_channel_remove) messages) pair.channel.0)
      (pairs_of before session)

-- of each session that is there before an edit and after it, messages go to everybody that say all that is another of it
abbrev pub UserChangesAreReported : Type 0
UserChangesAreReported =
    (state : StateValue) (edit : Edit) (was now : User) → IsProper state → IsTrue (fits state edit)
    → Contains (applied state edit).roster.sessions now → session_of state.roster now.session ≡ Some was
    → (messages : List UserState) × LearnsUser messages was now
    × LearnsListening messages now.session state.roster (applied state edit).roster
    × All (λ message. ReachesAll (notices state edit (applied state edit)) (user_frame message)
    (applied state edit).roster.sessions) messages

-- ---- channels

-- whoever knew a channel as it was, and got these messages, knows it as it is
pub record LearnsChannel (messages : List ChannelState) (was now : Channel) : Type 0 where
  pub channel : All (λ message. message.channel_id ≡ Some now.id.0) messages
  pub parent : known (λ message. message.parent) was.parent.0 messages ≡ now.parent.0
  pub name : known (λ message. message.name) was.name messages ≡ now.name
  pub description : known (λ message. message.description) was.info.description messages ≡ now.info.description
  pub position : known (λ message. message.position) was.info.position messages ≡ now.info.position
  pub max_users : known (λ message. message.max_users) was.info.max_users messages ≡ now.info.max_users

-- each channel that is linked to it now and was not is among those that these messages add; and each that was, and is not
-- now, is gone or among those that they remove
pub record LearnsLinks (messages : List ChannelState) (id : ChannelId) (before after : TreeState) : Type 0 where
  pub added : All
      (λ other. IsTrue (is_among (partners before id) other)
      ⊎ Contains (flat_map (λ message. message.links_add) messages) other.0)
      (partners after id)
  pub removed : All
      (λ other. (is_there after.channels other ≡ false) ⊎ IsTrue (is_among (partners after id) other)
      ⊎ Contains (flat_map (λ message. message.links_remove) messages) other.0)
      (partners before id)

-- of each channel that is there before an edit and after it, messages go to everybody that say all that is another of it
abbrev pub ChannelChangesAreReported : Type 0
ChannelChangesAreReported =
    (state : StateValue) (edit : Edit) (id : ChannelId) (was now : Channel) → IsProper state → IsTrue (fits state edit)
    → channel_of state.tree id ≡ Some was → channel_of (applied state edit).tree id ≡ Some now
    → (messages : List ChannelState) × LearnsChannel messages was now
    × LearnsLinks messages now.id state.tree (applied state edit).tree
    × All (λ message. ReachesAll (notices state edit (applied state edit)) (channel_frame message)
    (applied state edit).roster.sessions) messages

-- ---- who goes

-- whoever leaves is reported to all who are left, as nobody's doing
abbrev pub LeavesAreReported : Type 0
LeavesAreReported =
    (before after : StateValue) (session : SessionId)
    → (message : UserRemove) × (message.session ≡ Some session.0) × (message.actor ≡ None)
    × ReachesAll (notices before (Leave session) after) (user_gone_frame message) after.roster.sessions

-- whoever is kicked is reported to all who were there, itself too, with who did it, why, and whether it is a ban
abbrev pub KicksAreReported : Type 0
KicksAreReported =
    (before after : StateValue) (session actor : SessionId) (reason : List ℕ) (ban : Bool)
    → (message : UserRemove) × (message.session ≡ Some session.0) × (message.actor ≡ Some actor.0)
    × (unwrap_or message.reason [] ≡ reason) × (unwrap_or message.ban false ≡ ban)
    × All (λ user. (notice : Notice) × Contains (notices before (Kick session actor reason ban) after) notice
    × IsFor notice user × (notice.bytes ≡ user_gone_frame message)) before.roster.sessions
