-- What stays as it is by an edit, and of whom and what a law of edits speaks.
use Rattle.std.specs.Prelude.{◌≡◌, ℕ, ◌&&◌, true, false, Some}
use Rattle.mum_base.specs.declared.number.{ChannelId.ChannelId, SessionId.SessionId}
use Rattle.mum_tree.specs.{Rows.is_there, Rows.row_of, State.are_linked}
use Rattle.mum_tree.specs.declared.channel.Row.{Row}
use Rattle.mum_users.specs.{Listeners.listens, Sessions.session_of, Targets.target_of}
use Rattle.mum_users.specs.declared.user.User.{User}
use Rattle.mum_state.specs.{Emptied.has_member, State.StateValue}

-- this holds of each session that is there before and after, of how it was and how it is
abbrev pub OfStaying : StateValue → StateValue → (User → User → Type 0) → Type 0
OfStaying before after Holds =
    (session : SessionId) (was now : User) → session_of before.roster session ≡ Some was
    → session_of after.roster session ≡ Some now → Holds was now

-- this holds of each channel that is there before and after, of how it was and how it is
abbrev pub OfLasting : StateValue → StateValue → (Row → Row → Type 0) → Type 0
OfLasting before after Holds =
    (id : ChannelId) (was now : Row) → row_of before.tree.channels id ≡ Some was
    → row_of after.tree.channels id ≡ Some now → Holds was now

-- the session listens to the channels to which it listened, but for those that are gone
abbrev pub ListensAsBefore : StateValue → StateValue → SessionId → Type 0
ListensAsBefore before after session =
    (channel : ChannelId)
    → listens after.roster session channel
    ≡ (listens before.roster session channel && is_there after.tree.channels channel)

-- it has the voice targets that it had
abbrev pub AimsAsBefore : StateValue → StateValue → SessionId → Type 0
AimsAsBefore before after session = (id : ℕ) → target_of after.roster session id ≡ target_of before.roster session id

-- two channels are linked exactly where they were, as long as both are there
abbrev pub LinkedAsBefore : StateValue → StateValue → ChannelId → ChannelId → Type 0
LinkedAsBefore before after one other =
    are_linked after.tree one other
    ≡ (are_linked before.tree one other && is_there after.tree.channels one && is_there after.tree.channels other)

-- the channel is temporary, somebody was in it, and nobody is
pub record IsEmptied (before after : StateValue) (row : Row) : Type 0 where
  pub temporary : row.channel.temporary ≡ true
  pub left : has_member before.roster.sessions row.channel.id ≡ true
  pub empty : has_member after.roster.sessions row.channel.id ≡ false

-- the settings of the server, its accounts and its limits are as they were
pub record IsSetAsBefore (before after : StateValue) : Type 0 where
  pub server : after.server ≡ before.server
  pub accounts : after.accounts ≡ before.accounts
  pub sessions : after.roster.limit ≡ before.roster.limit
  pub channels : after.tree.limit ≡ before.tree.limit
