-- The rows that are kept of a state: its channels but for the temporary ones, each with its policy, and the links
-- between them.
use Rattle.std.specs.Prelude.{ℕ, ◌&&◌, not, nat_lt, Bool, false, List, [], ◌∷◌, filter, map, if◌then◌else◌}
use Rattle.std.specs.Option.{option_map_or}
use Rattle.mum_base.specs.declared.number.ChannelId.{ChannelId}
use Rattle.mum_tree.specs.declared.channel.Channel.{Channel}
use Rattle.mum_tree.specs.State.{Pair, TreeState, partners}
use Rattle.mum_state.specs.State.{StateValue, policy_of}
use Rattle.mum_notify.specs.Channels.{channel_of}
use Rattle.mum_kept.specs.declared.rows.{KeptChannel.KeptChannel, KeptRows.KeptRows}
use Rattle.mum_kept.specs.Policy.{policy_payload}

-- it is not temporary
abbrev pub is_lasting : Channel → Bool
is_lasting channel = not channel.temporary

-- the channel is there and lasts
abbrev pub lasts : TreeState → ChannelId → Bool
lasts tree id = option_map_or is_lasting (channel_of tree id) false

-- each channel has a policy; where it has none, no byte is kept
abbrev pub kept_policy : StateValue → ChannelId → List ℕ
kept_policy state id = option_map_or (policy_payload id) (policy_of state id) []

-- the row of a channel
abbrev pub kept_channel : StateValue → Channel → KeptChannel
kept_channel state channel = record {
  id = channel.id;
  parent = channel.parent;
  name = channel.name;
  info = channel.info;
  policy = kept_policy state channel.id;
}

-- of the two directions of a link the one that rises, where both channels last
abbrev pub is_kept_link : TreeState → Pair → Bool
is_kept_link tree pair = nat_lt pair.0.0 pair.1.0 && lasts tree pair.0 && lasts tree pair.1

-- the rows of all channels but temporary ones, in the state's order
abbrev pub kept_channels : StateValue → List KeptChannel
kept_channels state =
    map (λ row. kept_channel state row.channel) (filter (λ row. is_lasting row.channel) state.tree.channels)

-- the links between these, each once
abbrev pub kept_links : TreeState → List Pair
kept_links tree = filter (is_kept_link tree) tree.links

-- all that is kept of a state
abbrev pub kept : StateValue → KeptRows
kept state = record { channels = kept_channels state; links = kept_links state.tree }

-- ---- the same, channel by channel

-- the row of a channel, if it is kept
abbrev pub kept_if_lasting : StateValue → Channel → List KeptChannel
kept_if_lasting state channel = if channel.temporary then [] else kept_channel state channel ∷ []

-- the row under a number, if it is kept
abbrev pub kept_of : StateValue → ChannelId → List KeptChannel
kept_of state id = option_map_or (kept_if_lasting state) (channel_of state.tree id) []

-- the links of a channel, each from it to another
abbrev pub links_from : TreeState → ChannelId → List Pair
links_from tree id = map (λ other. (id, other)) (partners tree id)
