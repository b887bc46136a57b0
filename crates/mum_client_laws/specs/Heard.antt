-- What a client makes of the messages that it is sent, as the Mumble protocol documentation has it: what a message
-- gives is set, what it does not give stays.
use Rattle.std.specs.Prelude.{ℕ, zero, suc, pos, ◌==◌, ◌&&◌, ◌||◌, not, Bool, true, false, List, [], ◌∷◌, fold, Option, Some, None, is_some, unwrap_or, if◌then◌else◌}
use Rattle.std.specs.{List.list_any, Option.option_map_or}
use Rattle.mum_base.specs.declared.number.TheConstants.ChannelId.{ROOT}
use Rattle.mum_tree.specs.declared.channel.TheConstants.{PATH_LIMIT}
use Rattle.mum_msg_state.specs.declared.channel_remove.ChannelRemove.{ChannelRemove}
use Rattle.mum_msg_state.specs.declared.channel_state.ChannelState.{ChannelState}
use Rattle.mum_msg_state.specs.declared.{codec_version.CodecVersion.CodecVersion, server_sync.ServerSync.ServerSync}
use Rattle.mum_msg_state.specs.declared.{user_remove.UserRemove.UserRemove, user_state.UserState.UserState}
use Rattle.mum_msg_state.specs.declared.version.Version.{Version}
use Rattle.mum_msg_rule.specs.declared.permission_query.PermissionQuery.{PermissionQuery}
use Rattle.mum_msg_rule.specs.declared.text_message.TextMessage.{TextMessage}
use Rattle.mum_client_laws.specs.Known.{Channels, Known, KnownChannel, KnownSession, Pairs, Sessions}

pub data Message : Type 0 where
  OfVersion : Version → Message
  OfCodecs : CodecVersion → Message
  OfSync : ServerSync → Message
  OfChannel : ChannelState → Message
  OfChannelGone : ChannelRemove → Message
  OfSession : UserState → Message
  OfSessionGone : UserRemove → Message
  OfText : TextMessage → Message
  OfPermissions : PermissionQuery → Message

abbrev pub is_listed : List ℕ → ℕ → Bool
is_listed numbers number = list_any (λ one. one == number) numbers

abbrev pub has_any : List ℕ → Bool
has_any [] = false
has_any (number ∷ numbers) = true

-- ---- channels

-- a channel of which nothing was said
abbrev pub plain_channel : KnownChannel
plain_channel =
    record { parent = ROOT.0; name = []; temporary = false; description = []; position = pos 0; max_users = 0 }

abbrev pub channel_heard : ChannelState → KnownChannel → KnownChannel
channel_heard message was = record {
  parent = unwrap_or message.parent was.parent;
  name = unwrap_or message.name was.name;
  temporary = unwrap_or message.temporary was.temporary;
  description = unwrap_or message.description was.description;
  position = unwrap_or message.position was.position;
  max_users = unwrap_or message.max_users was.max_users;
}

-- a new channel has a parent that is known, but for the root
abbrev pub has_place : Channels → ℕ → ChannelState → Bool
has_place channels id message =
    (id == ROOT.0) || option_map_or (λ parent. is_some (channels parent)) message.parent false

abbrev pub channel_after : Channels → ℕ → ChannelState → Option KnownChannel
channel_after channels id message =
    option_map_or (λ was. Some (channel_heard message was)) (channels id)
    (if has_place channels id message then Some (channel_heard message plain_channel) else None)

abbrev pub channels_heard : ChannelState → Channels → Channels
channels_heard message channels id =
    option_map_or (λ about. if id == about then channel_after channels id message else channels id) message.channel_id
    (channels id)

-- ---- links

-- of two channels the other one, if one of them is this
abbrev pub other_end : ℕ → ℕ → ℕ → Option ℕ
other_end id one other = if one == id then Some other else if other == id then Some one else None

-- `links` are all links of a channel, where there are any; then some go, and then some come
abbrev pub link_heard : ChannelState → Bool → ℕ → Bool
link_heard message linked end =
    ((if has_any message.links then is_listed message.links end else linked)
    && not (is_listed message.links_remove end)) || is_listed message.links_add end

abbrev pub links_heard : ChannelState → Pairs → Pairs
links_heard message links one other =
    option_map_or
    (λ id. option_map_or (link_heard message (links one other)) (other_end id one other) (links one other))
    message.channel_id (links one other)

-- ---- channels that go

-- a channel, its parent, and so on, in at most n steps
unfoldable pub upward : Channels → ℕ → ℕ → List ℕ
upward channels zero id = []
upward channels (suc steps) id =
    option_map_or (λ channel. id ∷ (if id == ROOT.0 then [] else upward channels steps channel.parent)) (channels id) []

-- the channel is this one or below it
abbrev pub goes_with : Channels → ℕ → ℕ → Bool
goes_with channels top id = list_any (λ one. one == top) (upward channels PATH_LIMIT id)

-- a channel goes with all that is below it
abbrev pub channels_left : ChannelRemove → Channels → Channels
channels_left message channels id =
    option_map_or (λ top. if goes_with channels top id then None else channels id) message.channel_id (channels id)

-- and with the links of these
abbrev pub links_left : ChannelRemove → Channels → Pairs → Pairs
links_left message channels links one other =
    option_map_or (λ top. links one other && not (goes_with channels top one) && not (goes_with channels top other))
    message.channel_id (links one other)

-- ---- sessions

-- a session of which nothing was said: it is in the root
abbrev pub plain_session : KnownSession
plain_session = record {
  name = [];
  account = None;
  channel = ROOT.0;
  mute = false;
  deaf = false;
  suppress = false;
  self_mute = false;
  self_deaf = false;
  priority = false;
  recording = false;
  comment = [];
}

abbrev pub session_heard : UserState → KnownSession → KnownSession
session_heard message was = record {
  name = unwrap_or message.name was.name;
  account = option_map_or (λ account. Some account) message.user_id was.account;
  channel = unwrap_or message.channel_id was.channel;
  mute = unwrap_or message.mute was.mute;
  deaf = unwrap_or message.deaf was.deaf;
  suppress = unwrap_or message.suppress was.suppress;
  self_mute = unwrap_or message.self_mute was.self_mute;
  self_deaf = unwrap_or message.self_deaf was.self_deaf;
  priority = unwrap_or message.priority_speaker was.priority;
  recording = unwrap_or message.recording was.recording;
  comment = unwrap_or message.comment was.comment;
}

-- a new session has a name
abbrev pub session_after : UserState → Option KnownSession → Option KnownSession
session_after message known =
    option_map_or (λ was. Some (session_heard message was)) known
    (if is_some message.name then Some (session_heard message plain_session) else None)

abbrev pub sessions_heard : UserState → Sessions → Sessions
sessions_heard message sessions session =
    option_map_or (λ about. if session == about then session_after message (sessions session) else sessions session)
    message.session (sessions session)

-- a session listens to some channels from now on, and to others no longer
abbrev pub listening_after : UserState → Bool → ℕ → Bool
listening_after message listens channel =
    (listens || is_listed message.listening_channel_add channel)
    && not (is_listed message.listening_channel_remove channel)

abbrev pub listening_heard : UserState → Pairs → Pairs
listening_heard message listening session channel =
    option_map_or
    (λ about.
    if session == about then listening_after message (listening session channel) channel else listening session channel)
    message.session (listening session channel)

-- a session goes, and listens to nothing
abbrev pub sessions_left : UserRemove → Sessions → Sessions
sessions_left message sessions session =
    option_map_or (λ about. if session == about then None else sessions session) message.session (sessions session)

abbrev pub listening_left : UserRemove → Pairs → Pairs
listening_left message listening session channel =
    option_map_or (λ about. not (session == about) && listening session channel) message.session
    (listening session channel)

-- ---- all of it

abbrev pub heard : Known → Message → Known
heard known (OfChannel message) = record known {
  channels = channels_heard message known.channels;
  links = links_heard message known.links;
}
heard known (OfChannelGone message) = record known {
  channels = channels_left message known.channels;
  links = links_left message known.channels known.links;
}
heard known (OfSession message) = record known {
  sessions = sessions_heard message known.sessions;
  listening = listening_heard message known.listening;
}
heard known (OfSessionGone message) = record known {
  sessions = sessions_left message known.sessions;
  listening = listening_left message known.listening;
}
heard known message = known

-- what is known after these messages, one after the other
abbrev pub all_heard : Known → List Message → Known
all_heard known messages = fold heard known messages
