-- The channels of a state and their policies, apart from all else that it has.
use Rattle.std.specs.Prelude.{ℕ, ◌==◌, ◌++◌, Bool, false, List, [], ◌∷◌, filter, find, Option, Some, None, if◌then◌else◌}
use Rattle.std.specs.Option.{option_map}
use Rattle.mum_base.specs.declared.number.{ChannelId.ChannelId, TheConstants.ChannelId.ROOT}
use Rattle.mum_base.specs.declared.perm.TheConstants.Perm.{SPEAK}
use Rattle.mum_policy.specs.{Member.Actor, Member.PolicyMap, Walk.holds, Walk.perm, Walk.visits}
use Rattle.mum_tree.specs.declared.channel.ChannelInfo.{ChannelInfo}
use Rattle.mum_tree.specs.Rows.{is_there, path}
use Rattle.mum_tree.specs.State.{TreeState, root_alone, with_info, with_new, without_subtree}
use Rattle.mum_users.specs.declared.user.User.{User}
use Rattle.mum_state.specs.{Permissions.actor_from, State.PolicyRow, State.StateValue, State.policy_row}

pub record ChannelsState : Type 0 where
  pub tree : TreeState
  -- one for each channel, in order of number
  pub policies : List PolicyRow

-- those of a state
abbrev pub channels_of : StateValue → ChannelsState
channels_of state = record { tree = state.tree; policies = state.policies }

-- the root alone, with a policy that is open
abbrev pub root_channel : ChannelsState
root_channel = record { tree = root_alone; policies = policy_row ROOT ∷ [] }

-- the policies of the channels that are there
abbrev pub policy_map : ChannelsState → PolicyMap
policy_map channels id = option_map (λ row. row.policy) (find (λ row. row.channel.0 == id.0) channels.policies)

-- what the actor may do in a channel
abbrev pub granted_in : ChannelsState → Actor → ChannelId → ℕ
granted_in channels who channel = perm (policy_map channels) (path channels.tree.channels channel) who

-- the same of a channel that is there
abbrev pub granted_where_in : ChannelsState → Actor → ChannelId → Option ℕ
granted_where_in channels who channel =
    if is_there channels.tree.channels channel then Some (granted_in channels who channel) else None

-- how many entries are read for that
abbrev pub visits_in : ChannelsState → Actor → ChannelId → ℕ
visits_in channels who channel =
    if is_there channels.tree.channels channel then visits (policy_map channels)
    (path channels.tree.channels channel) who else 0

-- the session may speak where it is
abbrev pub speaks_in : ChannelsState → User → Bool
speaks_in channels user = holds (granted_in channels (actor_from channels.tree user) user.channel) SPEAK.0

-- the same, where that channel is there
abbrev pub speaks_where_in : ChannelsState → User → Bool
speaks_where_in channels user = if is_there channels.tree.channels user.channel then speaks_in channels user else false

-- one channel more, with this info and a policy that is open
abbrev pub with_channel_made : ChannelsState → ChannelId → ChannelId → List ℕ → Bool → ChannelInfo → ChannelsState
with_channel_made channels id parent name temporary info = record {
  tree = with_info (with_new channels.tree id parent name temporary) id info;
  policies = channels.policies ++ policy_row id ∷ [];
}

-- these channels alone, each with its policy
abbrev pub with_tree_left : ChannelsState → TreeState → ChannelsState
with_tree_left channels tree = record {
  tree = tree;
  policies = filter (λ row. is_there tree.channels row.channel) channels.policies;
}

-- without a channel and all below it
abbrev pub without_channel : ChannelsState → ChannelId → ChannelsState
without_channel channels id = with_tree_left channels (without_subtree channels.tree id)
