-- What is reported of a session that arrives and of a channel that is made.
use Rattle.std.specs.Prelude.{◌≡◌, ℕ, ◌==◌, Bool, false, pos, List, [], ◌∷◌, Option, Some, unwrap_or}
use Rattle.std.specs.{List.All, List.Contains, Option.option_map}
use Rattle.mum_base.specs.declared.number.{AccountId.AccountId, ChannelId.ChannelId, SessionId.SessionId, Slot.Slot}
use Rattle.mum_tree.specs.Rows.{is_root}
use Rattle.mum_tree.specs.declared.channel.{Channel.Channel, ChannelInfo.ChannelInfo}
use Rattle.mum_users.specs.{Listeners.pairs_of, Sessions.session_of, State.RosterState}
use Rattle.mum_users.specs.declared.user.User.{User}
use Rattle.mum_msg_state.specs.declared.{channel_state.ChannelState.ChannelState, user_state.UserState.UserState}
use Rattle.mum_state.specs.State.{StateValue}
use Rattle.mum_state.specs.declared.edit.Edit.TheVariants.{Join, MakeChannel}
use Rattle.mum_notify.specs.{Channels.channel_of, Notices.notices}
use Rattle.mum_notify.specs.Parcels.{channel_frame, parcel, user_frame}
use Rattle.mum_command_laws.specs.Reports.{LearnsChannel, LearnsUser, ReachesAll}

-- what is taken of a session of which nothing was said: it has no flag and no comment
abbrev pub plain_user : User → User
plain_user user = record user {
  mute = false;
  deaf = false;
  suppress = false;
  self_mute = false;
  self_deaf = false;
  priority = false;
  recording = false;
  comment = [];
}

-- the message says all of the session: its name and account, its channel, flags and comment, and to what it listens
pub record SaysAllOfUser (message : UserState) (roster : RosterState) (user : User) : Type 0 where
  pub name : message.name ≡ Some user.name
  pub account : message.user_id ≡ option_map (λ account. account.0) user.account
  pub channel : message.channel_id ≡ Some user.channel.0
  pub learned : LearnsUser (message ∷ []) (plain_user user) user
  pub listening : All (λ pair. Contains message.listening_channel_add pair.channel.0) (pairs_of roster user.session)

-- whoever joins is reported to all others, with all of its session
abbrev pub ArrivalsAreReported : Type 0
ArrivalsAreReported =
    (before after : StateValue) (session : SessionId) (slot : Slot) (name : List ℕ) (account : Option AccountId)
    (tokens : List (List ℕ))
    (user other : User) → session_of after.roster session ≡ Some user
    → Contains after.roster.sessions other → (other.session.0 == session.0) ≡ false
    → (message : UserState) × SaysAllOfUser message after.roster user
    × Contains (notices before (Join session slot name account tokens) after) (parcel (user_frame message) other)

-- what is taken of a channel of which nothing was said: it has no name and nothing that describes it
abbrev pub plain_channel : Channel → Channel
plain_channel channel =
    record channel { name = []; info = record { description = []; position = pos 0; max_users = 0 } }

-- the message says all of the channel, but for the parent of the root
pub record SaysAllOfChannel (message : ChannelState) (channel : Channel) : Type 0 where
  pub parent : is_root channel.id ≡ false → message.parent ≡ Some channel.parent.0
  pub temporary : unwrap_or message.temporary false ≡ channel.temporary
  pub learned : LearnsChannel (message ∷ []) (plain_channel channel) channel

-- a channel that is made is reported to everybody, with all of it
abbrev pub NewChannelsAreReported : Type 0
NewChannelsAreReported =
    (before after : StateValue) (id parent : ChannelId) (name : List ℕ) (temporary : Bool) (info : ChannelInfo)
    (maker : Option SessionId)
    (channel : Channel) → channel_of after.tree id ≡ Some channel
    → (message : ChannelState) × SaysAllOfChannel message channel
    × ReachesAll (notices before (MakeChannel id parent name temporary info maker) after)
    (channel_frame message) after.roster.sessions
