-- What holds of all that is sent, in words of its own.
use Rattle.std.specs.Prelude.{◌≡◌, ◌≢◌, ℕ, ◌<◌, ◌⊎◌, true, false, List, ◌∷◌, ◌++◌, filter, Option, Some, None, IsTrue}
use Rattle.std.specs.List.{All, AllPairs, Contains}
use Rattle.mum_base.specs.Channels.{is_among}
use Rattle.mum_base.specs.declared.number.{ChannelId.ChannelId, SessionId.SessionId}
use Rattle.mum_frame.specs.Frame.{IsOneFrame}
use Rattle.mum_tree.specs.{Rows.is_root, Rows.is_temporary, Rows.is_there, State.partners}
use Rattle.mum_tree.specs.declared.channel.Channel.{Channel}
use Rattle.mum_users.specs.{Listeners.pairs_of, Sessions.session_of}
use Rattle.mum_users.specs.declared.user.User.{User}
use Rattle.mum_state.specs.{Applied.applied, Fits.fits, Proper.IsProper, State.StateValue}
use Rattle.mum_state.specs.declared.edit.Edit.{Edit, TheVariants.Kick, TheVariants.Text}
use Rattle.mum_notify.specs.{Channels.channel_of, Channels.edited_channels, Gone.channels_gone}
use Rattle.mum_notify.specs.{Notices.FitsFrame, Notices.closes, Notices.notices, Parcels.to_each}
use Rattle.mum_notify.specs.{Sync.sync_block, Sync.tree_order, Users.gives_comment, Users.watched, Users.whom_to_watch}
use Rattle.mum_notify.specs.declared.notice.Notice.{Notice}

-- the parcel is for this session, in its slot
abbrev pub IsFor : Notice → User → Type 0
IsFor notice user = (notice.to ≡ user.session) × (notice.slot ≡ user.slot)

-- the session that an edit kicks
abbrev pub kicked : Edit → Option SessionId
kicked (Kick session actor reason ban) = Some session
kicked edit = None

-- it is among those that are there after the edit or, where one is kicked, before
abbrev pub IsAddressee : StateValue → Edit → StateValue → User → Type 0
IsAddressee before edit after user =
    Contains after.roster.sessions user
    ⊎ ((session : SessionId) × (kicked edit ≡ Some session) × Contains before.roster.sessions user)

-- no parcel goes to anybody else
abbrev pub EachHasItsSession : Type 0
EachHasItsSession =
    (before : StateValue) (edit : Edit) (after : StateValue)
    → All (λ notice. (user : User) × IsAddressee before edit after user × IsFor notice user) (notices before edit after)

-- one frame goes out by the slots of those who get it
abbrev pub GoesBySlots : Type 0
GoesBySlots =
    (state : StateValue) (frame : List ℕ) → IsProper state
    → AllPairs (λ one later. one.slot.0 < later.slot.0) (to_each state.roster.sessions frame)

-- a parcel is the last only for a session that is kicked
abbrev pub LastOnlyForKicked : Type 0
LastOnlyForKicked =
    (before : StateValue) (edit : Edit) (after : StateValue)
    → All (λ notice. notice.last ≡ true
    → (session : SessionId) × (kicked edit ≡ Some session) × (notice.to.0 ≡ session.0)) (notices before edit after)

-- whoever sends a text is sent nothing of it
abbrev pub SenderIsToldNothing : Type 0
SenderIsToldNothing =
    (before after : StateValue) (actor : SessionId) (sessions : List SessionId) (channels trees : List ChannelId)
    (message : List ℕ)
    → All (λ notice. notice.to.0 ≢ actor.0) (notices before (Text actor sessions channels trees message) after)

-- a channel that is no edited one is as it was, and linked to those to which it was, but for those that are gone
abbrev pub OtherChannelsStand : Type 0
OtherChannelsStand =
    (state : StateValue) (edit : Edit) (id : ChannelId) (was now : Channel)
    → IsProper state → IsTrue (fits state edit) → is_among (edited_channels edit) id ≡ false
    → channel_of state.tree id ≡ Some was → channel_of (applied state edit).tree id ≡ Some now
    → (was ≡ now)
    × (partners (applied state edit).tree id
    ≡ filter (is_there (applied state edit).tree.channels) (partners state.tree id))

-- a session that is not looked at is as it was, and listens to the channels to which it did
abbrev pub OtherSessionsStand : Type 0
OtherSessionsStand =
    (state : StateValue) (edit : Edit) (was now : User)
    → IsProper state → IsTrue (fits state edit)
    → Contains (applied state edit).roster.sessions now → session_of state.roster now.session ≡ Some was
    → (Contains (watched (whom_to_watch edit (closes state edit (applied state edit))) (applied state edit).roster) now
    → ⊥)
    → (now ≡ was) × (pairs_of (applied state edit).roster now.session ≡ pairs_of state.roster now.session)

-- a session has another comment only where the edit gives one
abbrev pub CommentsStand : Type 0
CommentsStand =
    (state : StateValue) (edit : Edit) (was now : User)
    → IsProper state → gives_comment edit ≡ false
    → Contains (applied state edit).roster.sessions now → session_of state.roster now.session ≡ Some was
    → now.comment ≡ was.comment

-- a temporary channel that goes is among those whose going is reported
abbrev pub GoneAreTold : Type 0
GoneAreTold =
    (state : StateValue) (edit : Edit) (id : ChannelId)
    → IsProper state → IsTrue (fits state edit)
    → is_temporary state.tree.channels id ≡ true → is_there (applied state edit).tree.channels id ≡ false
    → is_among (channels_gone state edit (applied state edit)) id ≡ true

-- each channel but the root comes after its parent
abbrev pub ParentsComeFirst : Type 0
ParentsComeFirst =
    (state : StateValue) (channel : Channel) → IsProper state
    → channel_of state.tree channel.id ≡ Some channel → is_root channel.id ≡ false
    → (above between below : List ChannelId)
    × (tree_order state.tree ≡ above ++ channel.parent ∷ between ++ channel.id ∷ below)

-- each parcel is one whole frame within the limit
abbrev pub EachIsOneFrame : Type 0
EachIsOneFrame =
    (before : StateValue) (edit : Edit) (after : StateValue) → IsProper before → IsProper after → FitsFrame edit
    → All (λ notice. IsOneFrame notice.bytes) (notices before edit after)

-- and so is each of those that a session is sent first
abbrev pub FirstIsFrames : Type 0
FirstIsFrames =
    (state : StateValue) (session : SessionId) → IsProper state
    → All (λ notice. IsOneFrame notice.bytes) (sync_block state session)
