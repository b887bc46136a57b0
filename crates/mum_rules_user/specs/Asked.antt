-- What the messages on users ask: which command each is, whom it names, and what it changes of a session.
use Rattle.std.specs.Prelude.{ℕ, ◌==◌, ◌&&◌, ◌||◌, not, Bool, true, false, List, [], ◌++◌, map, filter, Option, is_some, unwrap_or}
use Rattle.std.specs.{List.filter_map, List.list_all, List.list_any, Option.option_map, Option.option_map_or}
use Rattle.mum_base.specs.declared.number.{ChannelId.ChannelId, SessionId.SessionId, TheConstants.ChannelId.ROOT}
use Rattle.mum_fields.specs.Table.{spelled}
use Rattle.mum_users.specs.declared.target.{Target.Target as VoiceTargets, TargetItem.TargetItem}
use Rattle.mum_users.specs.{Sessions.session_of, State.RosterState, State.has_number}
use Rattle.mum_msg_state.specs.declared.{authenticate.Authenticate.Authenticate, user_remove.UserRemove.UserRemove}
use Rattle.mum_msg_state.specs.declared.user_state.UserState.{UserState}
use Rattle.mum_msg_state.specs.Messages.{authenticate, user_remove, user_state}
use Rattle.mum_msg_rule.specs.declared.{target_block.TargetBlock.TargetBlock, text_message.TextMessage.TextMessage}
use Rattle.mum_msg_rule.specs.declared.voice_target.VoiceTarget.{VoiceTarget}
use Rattle.mum_msg_rule.specs.Messages.{permission_query, text_message, voice_target}
use Rattle.mum_state.specs.{Fits.holds_of_given, Kinds.is_empty, State.StateValue}
use Rattle.mum_rules_tree.specs.Asked.{channel, channel_or_root, given_unless, is_number_there, text_or_empty}
use Rattle.mum_rules_user.specs.declared.message.UserMessage.{UserMessage}
use Rattle.mum_rules_user.specs.declared.message.UserMessage.TheVariants.{Join, User, Kick, Text, Target, Query, Leave}

-- ---- the commands of a session

pub data Command : Type 0 where
  renew : Authenticate → Command
  change : SessionId → UserState → Command
  kick : SessionId → UserRemove → Command
  text : TextMessage → Command
  target : VoiceTarget → Command
  query : ChannelId → Command
  leave : Command

abbrev pub session_numbered : ℕ → SessionId
session_numbered number = record { 0 = number }

-- whom a message names; a session that names nobody means itself
abbrev pub session_or : SessionId → Option ℕ → SessionId
session_or actor number = option_map_or session_numbered number actor

-- who is logged in already gives new tokens; whoever asks for no channel asks for the root
abbrev pub command_of : SessionId → UserMessage → Command
command_of actor (Join message version) = Command.renew message
command_of actor (User message) = Command.change (session_or actor message.session) message
command_of actor (Kick message) = Command.kick (session_or actor message.session) message
command_of actor (Text message) = Command.text message
command_of actor (Target message) = Command.target message
command_of actor (Query message) = Command.query (channel_or_root message.channel_id)
command_of actor Leave = Command.leave

-- the payload of the message as this server encodes it; a leave is no message
unfoldable pub payload_of : UserMessage → List ℕ
payload_of (Join message version) = spelled authenticate message
payload_of (User message) = spelled user_state message
payload_of (Kick message) = spelled user_remove message
payload_of (Text message) = spelled text_message message
payload_of (Target message) = spelled voice_target message
payload_of (Query message) = spelled permission_query message
payload_of Leave = []

-- ---- whom it names

abbrev pub is_here : RosterState → ℕ → Bool
is_here roster number = list_any (has_number (session_numbered number)) roster.sessions

-- sessions and channels that a text or a voice target names need not be there
abbrev pub names_there : StateValue → UserMessage → Bool
names_there state (User message) =
    holds_of_given (is_here state.roster) message.session
    && holds_of_given (is_number_there state.tree) message.channel_id
    && list_all (is_number_there state.tree) message.listening_channel_add
    && list_all (is_number_there state.tree) message.listening_channel_remove
names_there state (Kick message) = option_map_or (is_here state.roster) message.session false
names_there state (Query message) = holds_of_given (is_number_there state.tree) message.channel_id
names_there state message = true

abbrev pub is_oneself : SessionId → SessionId → Bool
is_oneself actor session = actor.0 == session.0

-- it sets what each session sets for itself
abbrev pub sets_own : UserState → Bool
sets_own message =
    is_some message.self_mute || is_some message.self_deaf || is_some message.comment || is_some message.plugin_context
    || is_some message.recording || not (is_empty message.listening_channel_add)
    || not (is_empty message.listening_channel_remove)

abbrev pub sets_own_of_another : SessionId → UserMessage → Bool
sets_own_of_another actor (User message) = not (is_oneself actor (session_or actor message.session)) && sets_own message
sets_own_of_another actor message = false

abbrev pub is_empty_text : UserMessage → Bool
is_empty_text (Text message) = is_empty (text_or_empty message.message)
is_empty_text message = false

-- ---- what it changes of a session

-- the channel in which a session is; that of nobody is the root
abbrev pub channel_of : RosterState → SessionId → ChannelId
channel_of roster session = option_map_or (λ user. user.channel) (session_of roster session) ROOT

-- a channel that is the present one is no change
abbrev pub new_channel : RosterState → SessionId → UserState → Option ChannelId
new_channel roster session message =
    given_unless (λ there. there.0 == (channel_of roster session).0) (option_map channel message.channel_id)

-- it lets the session speak where it is; that it may not is nothing that a message sets
abbrev pub clears_suppression : UserState → Bool
clears_suppression message = not (unwrap_or message.suppress true)

-- it says who is heard, and how: what those may do who may mute and deafen
abbrev pub rules_speech : UserState → Bool
rules_speech message =
    is_some message.mute || is_some message.deaf || clears_suppression message || is_some message.priority_speaker

abbrev pub channels : List ℕ → List ChannelId
channels numbers = map channel numbers

-- ---- to whom a text goes

-- the channels in which these sessions are, of those that are here
abbrev pub channels_of : RosterState → List ℕ → List ChannelId
channels_of roster numbers =
    filter_map (λ number. option_map (λ user. user.channel) (session_of roster (session_numbered number))) numbers

-- the channels of these numbers that are there
abbrev pub channels_there : StateValue → List ℕ → List ChannelId
channels_there state numbers = channels (filter (is_number_there state.tree) numbers)

-- the channels where a text is to be heard, in the order of the message; of a tree the channel at its top
abbrev pub channels_told : StateValue → TextMessage → List ChannelId
channels_told state message =
    channels_of state.roster message.session ++ channels_there state message.channel_id ++ channels_there state message.tree_id

-- ---- a voice target

abbrev pub number_of_target : VoiceTarget → ℕ
number_of_target message = unwrap_or message.id 0

abbrev pub item_asked : TargetBlock → TargetItem
item_asked block = record {
  sessions = map session_numbered block.session;
  channel = option_map channel block.channel_id;
  group = text_or_empty block.group;
  links = unwrap_or block.links false;
  children = unwrap_or block.children false;
}

abbrev pub target_asked : VoiceTarget → VoiceTargets
target_asked message = record { items = map item_asked message.targets }
