-- Changes of several parts of a session at once.
use Rattle.std.specs.Prelude.{◌&&◌, not, nat_lt, ℕ, Bool, List, [], ◌∷◌, filter, count_by, Option, Some, None, unwrap_or, if◌then◌else◌}
use Rattle.std.specs.{List.list_any, Option.option_copied}
use Rattle.mum_base.specs.Channels.{is_among}
use Rattle.mum_base.specs.declared.number.{SessionId.SessionId, ChannelId.ChannelId}
use Rattle.mum_users.specs.declared.{edit.UserChange.UserChange, fault.UserFault.UserFault}
use Rattle.mum_users.specs.declared.fault.UserFault.TheVariants.{NoSession, ListenerLimit, UserListenerLimit}
use Rattle.mum_users.specs.declared.{flags.FlagChange.FlagChange, listening.ListenerPair.ListenerPair}
use Rattle.mum_users.specs.declared.listening.TheConstants.{CHANNEL_LISTENERS, LISTENED_CHANNELS}
use Rattle.mum_users.specs.declared.user.User.{User}
use Rattle.mum_users.specs.{Flags.flagged, Listeners.pair_below, Listeners.with_pair, Sessions.changed}
use Rattle.mum_users.specs.State.{RosterState, has_number, is_of_channel, is_of_session}

-- a change of a session as plain data; what is none stays
pub record UserEdit : Type 0 where
  pub channel : Option ChannelId
  pub flags : FlagChange
  pub comment : Option (List ℕ)
  pub context : Option (List ℕ)
  pub listen : List ChannelId
  pub unlisten : List ChannelId

-- what the code's change says
abbrev pub user_edit_of : UserChange → UserEdit
user_edit_of change = record {
  channel = change.channel;
  flags = change.flags;
  comment = option_copied change.comment;
  context = option_copied change.context;
  listen = change.listen.now;
  unlisten = change.unlisten.now;
}

-- the row of the session
abbrev pub changed_user : UserEdit → User → User
changed_user change user =
    let placed : User = record user { channel = unwrap_or change.channel user.channel } in
    let flags : User = flagged placed change.flags in
    record flags { comment = unwrap_or change.comment flags.comment; context = unwrap_or change.context flags.context }

-- the pairs without those of the session and these channels
abbrev pub staying : SessionId → List ChannelId → List ListenerPair → List ListenerPair
staying session left pairs =
    filter (λ pair. not (is_of_session session pair && is_among left pair.channel)) pairs

-- the pairs with those of the session and these channels, but for those that it leaves
abbrev pub with_channels : SessionId → List ChannelId → List ChannelId → List ListenerPair → List ListenerPair
with_channels session left [] pairs = pairs
with_channels session left (channel ∷ channels) pairs =
    if is_among left channel then with_channels session left channels pairs
    else with_pair pair_below (record { session = session; channel = channel })
    (with_channels session left channels pairs)

-- who listens to what after the change; a channel that is listened to and left is left
abbrev pub pairs_after : SessionId → UserEdit → List ListenerPair → List ListenerPair
pairs_after session change pairs =
    with_channels session change.unlisten change.listen (staying session change.unlisten pairs)

-- the session does not listen to the channel
abbrev pub not_listening : RosterState → SessionId → ChannelId → RosterState
not_listening state session channel =
    record state { listeners = staying session (channel ∷ []) state.listeners }

-- the session's row, and to what it listens
abbrev pub edited : RosterState → SessionId → UserEdit → RosterState
edited state session change =
    record (changed state session (changed_user change)) { listeners = pairs_after session change state.listeners }

-- a channel has more listeners than it may have
abbrev pub is_crowded : List ListenerPair → ChannelId → Bool
is_crowded pairs channel = nat_lt CHANNEL_LISTENERS (count_by (is_of_channel channel) pairs)

-- the first cause that refuses the change: the limits are those of what it leaves, the channels' first
abbrev pub edit_fault : RosterState → SessionId → UserEdit → Option UserFault
edit_fault state session change =
    let pairs : List ListenerPair = pairs_after session change state.listeners in
    if not (list_any (has_number session) state.sessions) then Some NoSession
    else if list_any (is_crowded pairs) change.listen then Some ListenerLimit
    else if nat_lt LISTENED_CHANNELS (count_by (is_of_session session) pairs) then Some UserListenerLimit
    else None
