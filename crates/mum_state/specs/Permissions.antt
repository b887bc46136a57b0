-- What a session may do in a channel.
use Rattle.std.specs.Prelude.{ℕ, Bool, List, Option, Some, None, unwrap_or, if◌then◌else◌}
use Rattle.std.specs.Option.{option_map}
use Rattle.mum_base.specs.declared.number.{ChannelId.ChannelId, SessionId.SessionId}
use Rattle.mum_base.specs.declared.perm.TheConstants.Perm.{SPEAK}
use Rattle.mum_policy.specs.{Member.Actor, Walk.holds, Walk.perm, Walk.visits}
use Rattle.mum_tree.specs.{Rows.is_there, Rows.path, State.TreeState}
use Rattle.mum_users.specs.declared.user.User.{User}
use Rattle.mum_users.specs.Sessions.{session_of}
use Rattle.mum_state.specs.State.{StateValue, policy_of}

-- the channels from the root to that of a session
abbrev pub home : TreeState → User → List ChannelId
home tree user = path tree.channels user.channel

-- a session as entries and groups see it, where it has these tokens and these channels lead to its own
abbrev pub actor_at : List ChannelId → User → List (List ℕ) → Actor
actor_at home user tokens = record { account = user.account; channel = user.channel; tokens = tokens; home = home }

-- a session in a tree, with these tokens in place of its own
abbrev pub actor_with : TreeState → User → List (List ℕ) → Actor
actor_with tree user tokens = actor_at (home tree user) user tokens

-- a session in a tree
abbrev pub actor_from : TreeState → User → Actor
actor_from tree user = actor_with tree user user.tokens

-- what the actor may do in a channel
abbrev pub granted_to : StateValue → Actor → ChannelId → ℕ
granted_to state who channel = perm (policy_of state) (path state.tree.channels channel) who

-- the session may speak where it is
abbrev pub may_speak : StateValue → User → Bool
may_speak state user = holds (granted_to state (actor_from state.tree user) user.channel) SPEAK.0

-- what the actor may do in a channel that is there
abbrev pub granted_where_there : StateValue → Actor → ChannelId → Option ℕ
granted_where_there state who channel =
    if is_there state.tree.channels channel then Some (granted_to state who channel) else None

-- the session, where it and the channel are there
abbrev pub actor_in : StateValue → SessionId → ChannelId → Option Actor
actor_in state session channel =
    if is_there state.tree.channels channel then option_map (actor_from state.tree)
    (session_of state.roster session) else None

-- what a session may do in a channel; nothing is said where one of the two is not there
abbrev pub perm_of : StateValue → SessionId → ChannelId → Option ℕ
perm_of state session channel =
    option_map (λ who. granted_to state who channel) (actor_in state session channel)

-- how many entries are read for that
abbrev pub visits_of : StateValue → SessionId → ChannelId → ℕ
visits_of state session channel =
    unwrap_or (option_map (λ who. visits (policy_of state) (path state.tree.channels channel) who)
    (actor_in state session channel)) 0
