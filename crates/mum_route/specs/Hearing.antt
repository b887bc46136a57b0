-- Who is heard, who hears, and what a session may do.
use Rattle.std.specs.Prelude.{ℕ, ◌-◌, ◌==◌, ◌&&◌, ◌||◌, not, Bool, false, List, length, if◌then◌else◌}
use Rattle.std.specs.Option.{option_map_or}
use Rattle.mum_base.specs.declared.{number.ChannelId.ChannelId, number.SessionId.SessionId, perm.Perm.Perm}
use Rattle.mum_policy.specs.{Member.Actor, Member.member, Walk.holds, Walk.visits}
use Rattle.mum_tree.specs.Rows.{is_there, path}
use Rattle.mum_users.specs.declared.user.User.{User}
use Rattle.mum_users.specs.State.{has_number}
use Rattle.mum_state.specs.{Permissions.actor_from, Permissions.perm_of, State.StateValue, State.policy_of}

-- whom nobody hears: a session that is muted, that muted itself, or that may not speak where it is
abbrev pub is_silent : User → Bool
is_silent user = user.mute || user.self_mute || user.suppress

-- who hears nothing: a session that is deaf, or that deafened itself
abbrev pub is_deaf : User → Bool
is_deaf user = user.deaf || user.self_deaf

-- whom a speaker's packet may reach: every other session that is not deaf
abbrev pub can_hear : SessionId → User → Bool
can_hear speaker user = not (has_number speaker user) && not (is_deaf user)

-- the session has the permission in the channel; it has none where one of the two is not there
abbrev pub may : StateValue → SessionId → Perm → ChannelId → Bool
may state session perm channel = option_map_or (λ held. holds held perm.0) (perm_of state session channel) false

-- how many entries of access control lists are read for what the actor may do in a channel; none where it is not there
abbrev pub visits_where_there : StateValue → Actor → ChannelId → ℕ
visits_where_there state who channel =
    if is_there state.tree.channels channel then visits (policy_of state) (path state.tree.channels channel) who else 0

-- the session is in the group, asked in the channel for an entry of that channel; everybody is in the empty one
abbrev pub is_in_group : StateValue → List ℕ → ChannelId → User → Bool
is_in_group state group channel user =
    (length group == 0) ||
    (let way : List ChannelId = path state.tree.channels channel in member (policy_of state) way (length way - 1) group
    (actor_from state.tree user))
