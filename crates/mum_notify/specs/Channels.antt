-- What is reported of channels that are new or changed.
use Rattle.std.specs.Prelude.{ℕ, zero, suc, ◌==◌, ◌&&◌, ◌||◌, not, Bool, false, nat_lt, pos, List, [], ◌∷◌, ◌++◌, map, filter, fold, Option, Some, None, is_some, if◌then◌else◌}
use Rattle.std.specs.{List.flat_map, List.position_or_len, List.slice_get, Option.option_map, Option.option_map_or}
use Rattle.std.specs.{Ordering.int_eq, Str.bytes_eq}
use Rattle.mum_base.specs.Channels.{is_among}
use Rattle.mum_base.specs.declared.number.ChannelId.{ChannelId}
use Rattle.mum_tree.specs.{Refusals.parent_of, Rows.is_root, Rows.row_of, State.TreeState, State.partners}
use Rattle.mum_tree.specs.declared.channel.Channel.{Channel}
use Rattle.mum_msg_state.specs.declared.channel_state.ChannelState.{ChannelState}
use Rattle.mum_state.specs.declared.edit.Edit.{Edit, TheVariants.MakeChannel}
use Rattle.mum_state.specs.{Kinds.is_empty, Named.given, Parts.channel_edit, State.StateValue}

abbrev pub channel_of : TreeState → ChannelId → Option Channel
channel_of tree id = option_map (λ row. row.channel) (row_of tree.channels id)

-- in order of number
abbrev pub channel_ids : TreeState → List ChannelId
channel_ids tree = map (λ row. row.channel.id) tree.channels

abbrev pub numbers : List ChannelId → List ℕ
numbers ids = map (λ id. id.0) ids

-- ---- a channel as a whole

-- the value, unless it is the one that need not be said
abbrev pub said_unless : {X : Type 0} → Bool → X → Option X
said_unless is_default value = if is_default then None else Some value

-- all that is not as it is by default; the root has no parent
abbrev pub channel_told : Channel → ChannelState
channel_told channel = record {
  channel_id = Some channel.id.0;
  parent = said_unless (is_root channel.id) channel.parent.0;
  name = Some channel.name;
  links = [];
  description = said_unless (is_empty channel.info.description) channel.info.description;
  links_add = [];
  links_remove = [];
  temporary = said_unless (not channel.temporary) channel.temporary;
  position = said_unless (int_eq channel.info.position (pos 0)) channel.info.position;
  max_users = said_unless (channel.info.max_users == 0) channel.info.max_users;
}

-- the channel that the edit makes
abbrev pub new_channel : TreeState → Edit → Option Channel
new_channel after (MakeChannel id parent name temporary info maker) = channel_of after id
new_channel after edit = None

abbrev pub new_channels_told : StateValue → Edit → List ChannelState
new_channels_told after edit = map channel_told (given (new_channel after.tree edit))

-- ---- what of a channel is another

-- the channels linked to it in one tree and not in the other, in order of number
abbrev pub partners_only_in : TreeState → TreeState → ChannelId → List ChannelId
partners_only_in tree other id = filter (λ partner. not (is_among (partners other id) partner)) (partners tree id)

abbrev pub channel_change_told : TreeState → TreeState → Channel → Channel → ChannelState
channel_change_told before after was now = record {
  channel_id = Some now.id.0;
  parent = said_unless (was.parent.0 == now.parent.0) now.parent.0;
  name = said_unless (bytes_eq was.name now.name) now.name;
  links = [];
  description = said_unless (bytes_eq was.info.description now.info.description) now.info.description;
  links_add = numbers (partners_only_in after before now.id);
  links_remove = numbers (partners_only_in before after now.id);
  temporary = None;
  position = said_unless (int_eq was.info.position now.info.position) now.info.position;
  max_users = said_unless (was.info.max_users == now.info.max_users) now.info.max_users;
}

-- the message names something beside the channel
abbrev pub tells_of_channel : ChannelState → Bool
tells_of_channel message =
    is_some message.parent || is_some message.name || is_some message.description || is_some message.position
    || is_some message.max_users
    || not (is_empty message.links_add) || not (is_empty message.links_remove)

-- the message, if it reports something
abbrev pub if_it_tells : {M : Type 0} → (M → Bool) → M → List M
if_it_tells tells message = if tells message then message ∷ [] else []

-- what of the channel is another, where it is in both trees
abbrev pub channel_difference : TreeState → TreeState → ChannelId → List ChannelState
channel_difference before after id =
    option_map_or
    (λ was. option_map_or (λ now. if_it_tells tells_of_channel (channel_change_told before after was now))
    (channel_of after id) [])
    (channel_of before id) []

-- a channel at its place among channels in order of number, once
abbrev pub with_channel : ChannelId → List ChannelId → List ChannelId
with_channel new [] = new ∷ []
with_channel new (id ∷ ids) =
    if nat_lt id.0 new.0 then id ∷ with_channel new ids
    else if id.0 == new.0 then id ∷ ids
    else new ∷ id ∷ ids

-- the order of numbers
abbrev pub is_lower : ChannelId → ChannelId → Bool
is_lower one other = nat_lt one.0 other.0

-- how many of these are lower, from the first on; and whether the channel is there
abbrev pub place_for : ChannelId → List ChannelId → ℕ
place_for id ids = position_or_len (λ one. not (nat_lt one.0 id.0)) ids

abbrev pub stands_at : List ChannelId → ℕ → ChannelId → Bool
stands_at ids place id = option_map_or (λ one. one.0 == id.0) (slice_get ids place) false

-- these channels in order of number, each once
abbrev pub in_order : List ChannelId → List ChannelId
in_order ids = fold (λ ordered id. with_channel id ordered) [] ids

-- the channels that an edit can make others: the one that it edits, and those that it links to it or parts from it
abbrev pub edited_channels : Edit → List ChannelId
edited_channels edit =
    option_map_or (λ channel. in_order (channel.channel ∷ channel.change.links_add ++ channel.change.links_remove))
    (channel_edit edit) []

abbrev pub channel_changes_told : StateValue → Edit → StateValue → List ChannelState
channel_changes_told before edit after = flat_map (channel_difference before.tree after.tree) (edited_channels edit)

-- ---- all channels

-- the channel is right below this one
abbrev pub is_child : TreeState → ChannelId → ChannelId → Bool
is_child tree parent id = not (is_root id) && ((parent_of tree id).0 == parent.0)

-- in order of number
abbrev pub children : TreeState → ChannelId → List ChannelId
children tree parent = filter (is_child tree parent) (channel_ids tree)

-- a channel, and then each of its children with all that is below it, n levels deep
unfoldable pub family : (ChannelId → List ChannelId) → ℕ → ChannelId → List ChannelId
family kids zero id = []
family kids (suc levels) id = id ∷ flat_map (family kids levels) (kids id)

abbrev pub links_told : TreeState → ChannelId → ChannelState
links_told tree id = record {
  channel_id = Some id.0;
  parent = None;
  name = None;
  links = numbers (partners tree id);
  description = None;
  links_add = [];
  links_remove = [];
  temporary = None;
  position = None;
  max_users = None;
}

abbrev pub has_links : ChannelState → Bool
has_links message = not (is_empty message.links)
