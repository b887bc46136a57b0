-- What a session may do, by the walk over the access control lists on the way to a channel.
use Rattle.std.specs.Prelude.{ℕ, ◌&&◌, Bool, List}
use Rattle.mum_base.specs.declared.{number.ChannelId.ChannelId, perm.Perm.Perm}
use Rattle.mum_policy.specs.Walk.{holds}
use Rattle.mum_tree.specs.Rows.{is_there}
use Rattle.mum_users.specs.declared.user.User.{User}
use Rattle.mum_state.specs.{Permissions.actor_with, Permissions.granted_to, State.StateValue}

-- the session has the permission in the channel, which is there, where it has these access tokens
abbrev pub may_with : StateValue → User → List (List ℕ) → Perm → ChannelId → Bool
may_with state user tokens perm channel =
    is_there state.tree.channels channel && holds (granted_to state (actor_with state.tree user tokens) channel) perm.0

-- it has the permission by its own tokens
abbrev pub may : StateValue → User → Perm → ChannelId → Bool
may state user perm channel = may_with state user user.tokens perm channel
