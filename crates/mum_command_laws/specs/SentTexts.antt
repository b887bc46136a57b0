-- Who receives a text.
use Rattle.std.specs.Prelude.{◌≡◌, ◌⊎◌, ℕ, ◌==◌, false, List, Some, IsTrue}
use Rattle.std.specs.List.{Contains}
use Rattle.mum_base.specs.declared.number.{ChannelId.ChannelId, SessionId.SessionId}
use Rattle.mum_tree.specs.Rows.{is_below}
use Rattle.mum_users.specs.declared.user.User.{User}
use Rattle.mum_msg_rule.specs.declared.text_message.TextMessage.{TextMessage}
use Rattle.mum_state.specs.State.{StateValue}
use Rattle.mum_state.specs.declared.edit.Edit.TheVariants.{Text}
use Rattle.mum_notify.specs.{Notices.notices, Parcels.parcel, Parcels.text_frame, Texts.may_text}

-- the session is named, or its channel is, or it is in the tree of a channel that is named and the actor may send texts to
-- where it is
abbrev pub IsMeant : StateValue → SessionId → List SessionId → List ChannelId → List ChannelId → User → Type 0
IsMeant state actor sessions channels trees user =
    Contains sessions user.session ⊎ Contains channels user.channel
    ⊎ ((top : ChannelId) × Contains trees top × IsTrue (is_below state.tree.channels top user.channel)
    × IsTrue (may_text state actor user.channel))

-- whoever a text is meant for, but its sender, receives it, with the actor and the text
abbrev pub TextsAreSent : Type 0
TextsAreSent =
    (before after : StateValue) (actor : SessionId) (sessions : List SessionId) (channels trees : List ChannelId)
    (text : List ℕ) (user : User)
    → Contains after.roster.sessions user → (user.session.0 == actor.0) ≡ false
    → IsMeant after actor sessions channels trees user
    → (message : TextMessage) × (message.actor ≡ Some actor.0) × (message.message ≡ Some text)
    × Contains (notices before (Text actor sessions channels trees text) after) (parcel (text_frame message) user)
