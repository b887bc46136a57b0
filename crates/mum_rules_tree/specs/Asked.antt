-- What the messages on channels ask: which command each is, whom it names, and what an edit of a channel changes.
use Rattle.std.specs.Prelude.{ℕ, ◌==◌, ◌&&◌, ◌||◌, not, Bool, false, List, [], ◌++◌, map, filter, Option, Some, None, is_some, unwrap_or, if◌then◌else◌}
use Rattle.std.specs.{List.list_all, Str.bytes_eq}
use Rattle.std.specs.Option.{option_and_then, option_map, option_map_or, option_or}
use Rattle.mum_base.specs.declared.number.{ChannelId.ChannelId, TheConstants.ChannelId.ROOT}
use Rattle.mum_fields.specs.Table.{spelled}
use Rattle.mum_tree.specs.{Change.Change, Refusals.name_of, Refusals.parent_of, Rows.is_there, State.TreeState}
use Rattle.mum_msg_state.specs.declared.channel_state.ChannelState.{ChannelState}
use Rattle.mum_msg_state.specs.Messages.{channel_remove, channel_state}
use Rattle.mum_msg_rule.specs.declared.acl.Acl.{Acl as AclMessage}
use Rattle.mum_msg_rule.specs.Messages.{acl}
use Rattle.mum_state.specs.{Fits.holds_of_given, Parts.channel_parts}
use Rattle.mum_rules_tree.specs.declared.message.TreeMessage.{TreeMessage}
use Rattle.mum_rules_tree.specs.declared.message.TreeMessage.TheVariants.{State, Remove, Acl}

-- ---- the commands

pub data Command : Type 0 where
  make : ChannelState → Command
  edit : ChannelId → ChannelState → Command
  remove : ChannelId → Command
  query : ChannelId → Command
  set : ChannelId → AclMessage → Command

abbrev pub channel : ℕ → ChannelId
channel number = record { 0 = number }

-- no message that was read lacks the number: then it is the root's
abbrev pub channel_or_root : Option ℕ → ChannelId
channel_or_root number = option_map_or channel number ROOT

abbrev pub is_query : AclMessage → Bool
is_query message = unwrap_or message.query false

-- a ChannelState without a channel makes one
abbrev pub command_of : TreeMessage → Command
command_of (State message) =
    option_map_or (λ number. Command.edit (channel number) message) message.channel_id (Command.make message)
command_of (Remove message) = Command.remove (channel_or_root message.channel_id)
command_of (Acl message) =
    if is_query message then Command.query (channel_or_root message.channel_id) else Command.set
    (channel_or_root message.channel_id) message

-- the payload of the message as this server encodes it
unfoldable pub payload_of : TreeMessage → List ℕ
payload_of (State message) = spelled channel_state message
payload_of (Remove message) = spelled channel_remove message
payload_of (Acl message) = spelled acl message

-- ---- whom it names

abbrev pub is_number_there : TreeState → ℕ → Bool
is_number_there tree number = is_there tree.channels (channel number)

-- a channel is named, and is there
abbrev pub is_named_there : TreeState → Option ℕ → Bool
is_named_there tree number = option_map_or (is_number_there tree) number false

-- a ChannelState names its channel, or else the parent of a new one, and all channels that it links and parts; what
-- it says of all links names nobody
abbrev pub names_there : TreeState → TreeMessage → Bool
names_there tree (State message) =
    is_named_there tree (option_or message.channel_id message.parent)
    && holds_of_given (is_number_there tree) message.parent
    && list_all (is_number_there tree) message.links_add
    && list_all (is_number_there tree) message.links_remove
names_there tree (Remove message) = is_named_there tree message.channel_id
names_there tree (Acl message) = is_named_there tree message.channel_id

-- ---- what a new channel is

abbrev pub parent_of_new : ChannelState → ChannelId
parent_of_new message = channel_or_root message.parent

abbrev pub is_to_be_temporary : ChannelState → Bool
is_to_be_temporary message = unwrap_or message.temporary false

-- a text that is not given is empty
abbrev pub text_or_empty : Option (List ℕ) → List ℕ
text_or_empty text = unwrap_or text []

-- ---- what an edit of a channel changes

-- the value that is given, unless it is such a one
abbrev pub given_unless : {X : Type 0} → (X → Bool) → Option X → Option X
given_unless test value = option_and_then (λ x. if test x then None else Some x) value

-- a name that is the present one is no change
abbrev pub new_name : TreeState → ChannelId → ChannelState → Option (List ℕ)
new_name tree id message = given_unless (λ name. bytes_eq name (name_of tree id)) message.name

-- nor is a parent that is the present one
abbrev pub new_parent : TreeState → ChannelId → ChannelState → Option ChannelId
new_parent tree id message =
    given_unless (λ parent. parent.0 == (parent_of tree id).0) (option_map channel message.parent)

abbrev pub is_other : ChannelId → ℕ → Bool
is_other id number = not (number == id.0)

-- a link of a channel to itself is none
abbrev pub others : ChannelId → List ℕ → List ChannelId
others id numbers = map channel (filter (is_other id) numbers)

-- the channels that are linked to it or unlinked from it, in message order
abbrev pub linked_others : ChannelId → ChannelState → List ChannelId
linked_others id message = others id message.links_add ++ others id message.links_remove

-- something of it is given that describes it, be it as it is already
abbrev pub describes : ChannelState → Bool
describes message = is_some message.name || is_some message.description || is_some message.position || is_some message.max_users

abbrev pub change_asked : TreeState → ChannelId → ChannelState → Change
change_asked tree id message =
    channel_parts (new_name tree id message)
    (new_parent tree id message) message.description message.position message.max_users
    (others id message.links_add) (others id message.links_remove)
