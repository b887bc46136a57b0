-- Who receives a text, and nobody else.
use Rattle.std.specs.Prelude.{◌≡◌, ◌≢◌, ◌⊎◌, ℕ, false, List, map, Some, IsTrue}
use Rattle.std.specs.List.{All, Contains}
use Rattle.mum_base.specs.declared.number.{ChannelId.ChannelId, SessionId.SessionId}
use Rattle.mum_base.specs.declared.perm.TheConstants.Perm.{TEXT_MESSAGE}
use Rattle.mum_policy.specs.Walk.{holds}
use Rattle.mum_tree.specs.Rows.{is_below}
use Rattle.mum_users.specs.Proper.{SlotsRise}
use Rattle.mum_users.specs.declared.user.User.{User}
use Rattle.mum_msg_rule.specs.declared.text_message.TextMessage.{TextMessage}
use Rattle.mum_state.specs.{Permissions.perm_of, Proper.IsProper, State.StateValue}
use Rattle.mum_state.specs.declared.edit.Edit.TheVariants.{Text}
use Rattle.mum_notify.specs.Notices.{notices}
use Rattle.mum_notify.specs.declared.notice.Notice.{Notice}
use Rattle.mum_client_laws.specs.{Brought.frame_of, Heard.OfText}

-- the actor may send texts to the channel
abbrev pub MayText : StateValue → SessionId → ChannelId → Type 0
MayText state actor channel =
    (held : ℕ) × (perm_of state actor channel ≡ Some held) × IsTrue (holds held TEXT_MESSAGE.0)

-- the session is named, or its channel is, or it is in the tree of a channel that is named and the actor may send texts
-- to where it is
abbrev pub IsMeant : StateValue → SessionId → List SessionId → List ChannelId → List ChannelId → User → Type 0
IsMeant state actor sessions channels trees user =
    Contains sessions user.session ⊎ Contains channels user.channel
    ⊎ ((top : ChannelId) × Contains trees top × IsTrue (is_below state.tree.channels top user.channel)
    × MayText state actor user.channel)

-- the frame for one session, after which others may come
abbrev pub notice_to : List ℕ → User → Notice
notice_to bytes user = record { to = user.session; slot = user.slot; bytes = bytes; last = false }

-- of a text nothing is sent but its one message, once to each of some sessions, by their slots: these are there, the
-- text is meant for them, and none is its sender
abbrev pub TextsGoToNobodyElse : Type 0
TextsGoToNobodyElse =
    (before after : StateValue) (actor : SessionId) (sessions : List SessionId) (channels trees : List ChannelId)
    (text : List ℕ) → IsProper after
    → (message : TextMessage) × (message.actor ≡ Some actor.0) × (message.message ≡ Some text) × (receivers : List User)
    × SlotsRise after.roster.limit 0 receivers
    × All (λ user. Contains after.roster.sessions user × (user.session.0 ≢ actor.0)
    × IsMeant after actor sessions channels trees user) receivers
    × (notices before (Text actor sessions channels trees text) after
    ≡ map (notice_to (frame_of (OfText message))) receivers)
