-- Who listens to which channel.
use Rattle.std.specs.Prelude.{◌≡◌, ◌==◌, ◌&&◌, ◌||◌, not, nat_lt, nat_le, Bool, List, [], ◌∷◌, filter, count_by, Option, Some, None, if◌then◌else◌}
use Rattle.std.specs.List.{list_any}
use Rattle.mum_base.specs.declared.number.{SessionId.SessionId, ChannelId.ChannelId}
use Rattle.mum_users.specs.declared.listening.TheConstants.{CHANNEL_LISTENERS, LISTENED_CHANNELS}
use Rattle.mum_users.specs.declared.listening.{ListenerPair.ListenerPair, PairOrder.PairOrder}
use Rattle.mum_users.specs.declared.listening.PairOrder.TheVariants.{BySession, ByChannel}
use Rattle.mum_users.specs.declared.fault.UserFault.{UserFault}
use Rattle.mum_users.specs.declared.fault.UserFault.TheVariants.{NoSession, ListenerLimit, UserListenerLimit}
use Rattle.mum_users.specs.Order.{Rises}
use Rattle.mum_users.specs.State.{RosterState, has_number, is_of_channel, is_of_session, is_pair}

-- whether the session listens to the channel
abbrev pub listens : RosterState → SessionId → ChannelId → Bool
listens state session channel = list_any (is_pair session channel) state.listeners

-- the first cause that refuses to let a session listen to a channel
abbrev pub listen_fault : RosterState → SessionId → ChannelId → Option UserFault
listen_fault state session channel =
    if not (list_any (has_number session) state.sessions) then Some NoSession
    else if listens state session channel then None
    else if nat_le CHANNEL_LISTENERS (count_by (is_of_channel channel) state.listeners) then Some ListenerLimit
    else if nat_le LISTENED_CHANNELS (count_by (is_of_session session) state.listeners) then Some UserListenerLimit
    else None

-- by their sessions, those of one session by their channels
abbrev pub pair_below : ListenerPair → ListenerPair → Bool
pair_below pair other =
    nat_lt pair.session.0 other.session.0
    || ((pair.session.0 == other.session.0) && nat_lt pair.channel.0 other.channel.0)

-- by their channels, those of one channel by their sessions
abbrev pub channel_below : ListenerPair → ListenerPair → Bool
channel_below pair other =
    nat_lt pair.channel.0 other.channel.0
    || ((pair.channel.0 == other.channel.0) && nat_lt pair.session.0 other.session.0)

-- the pair comes before the other in this order
abbrev pub below_in : PairOrder → ListenerPair → ListenerPair → Bool
below_in BySession pair other = pair_below pair other
below_in ByChannel pair other = channel_below pair other

-- the pair at its place among these, in one order of pairs; one that is there changes nothing
abbrev pub with_pair : (ListenerPair → ListenerPair → Bool) → ListenerPair → List ListenerPair → List ListenerPair
with_pair below new [] = new ∷ []
with_pair below new (pair ∷ pairs) =
    if below pair new then pair ∷ with_pair below new pairs
    else if is_pair new.session new.channel pair then pair ∷ pairs
    else new ∷ pair ∷ pairs

-- the session listens to the channel
abbrev pub listening : RosterState → SessionId → ChannelId → RosterState
listening state session channel =
    record state { listeners = with_pair pair_below (record { session = session; channel = channel }) state.listeners }

-- the pairs of a session, by their channels
abbrev pub pairs_of : RosterState → SessionId → List ListenerPair
pairs_of state session = filter (is_of_session session) state.listeners

-- the same pairs in two orders: in both, a channel has the same sessions in one order
pub record IsIndexed (pairs by_channel : List ListenerPair) : Type 0 where
  pub rise : Rises pair_below pairs
  pub channels_rise : Rises channel_below by_channel
  pub same : (channel : ChannelId) → filter (is_of_channel channel) by_channel ≡ filter (is_of_channel channel) pairs

-- nobody listens to the channels that are gone
abbrev pub without_channels : RosterState → (ChannelId → Bool) → RosterState
without_channels state gone = record state { listeners = filter (λ pair. not (gone pair.channel)) state.listeners }
