-- Why a session lacks a permission in a channel: what the walk over the access control lists says of it.
use Rattle.std.specs.Prelude.{ℕ, suc, ◌+◌, ◌&&◌, Bool, not, List, [], ◌∷◌, ◌++◌, Option, Some, None, if◌then◌else◌}
use Rattle.std.specs.{List.list_any, Option.option_map, Option.option_map_or, Option.option_or}
use Rattle.mum_base.specs.declared.{number.ChannelId.ChannelId, number.SessionId.SessionId, perm.Perm.Perm}
use Rattle.mum_base.specs.declared.perm.TheConstants.Perm.{ROOT_ONLY}
use Rattle.mum_policy.specs.declared.policy.AclEntry.{AclEntry}
use Rattle.mum_policy.specs.Laws.{entries_of, is_super_user, names_permission, passes, starts_over}
use Rattle.mum_policy.specs.Member.{Actor, PolicyMap}
use Rattle.mum_policy.specs.Walk.{applies, holds, is_asked, matches, on_root}
use Rattle.mum_tree.specs.Rows.{path}
use Rattle.mum_users.specs.declared.user.User.{User}
use Rattle.mum_state.specs.{Permissions.actor_from, Permissions.actor_in, State.StateValue, State.policy_of}
use Rattle.mum_route.specs.Hearing.{may}
use Rattle.mum_why.specs.declared.cut.Cut.{Cut}
use Rattle.mum_why.specs.declared.cut.Cut.TheVariants.{Closed, Denied, NeverGiven, RootOnly, SuperUser}

-- ---- the last entry that names a permission

-- the last place in a list of what passes
unfoldable pub last_place : {X : Type 0} → (X → Bool) → List X → Option ℕ
last_place passes [] = None
last_place passes (x ∷ xs) = option_or (option_map suc (last_place passes xs)) (if passes x then Some 0 else None)

-- an entry of the channel at this place matches, applies, and grants or denies the permission
abbrev pub decides : PolicyMap → List ChannelId → Actor → ℕ → ℕ → Bool → AclEntry → Bool
decides policies path who permission place asked entry =
    matches policies path who place entry && applies asked entry && names_permission permission entry

-- the place of the last such entry of a channel
abbrev pub last_in : PolicyMap → List ChannelId → Actor → ℕ → ℕ → Bool → ChannelId → Option ℕ
last_in policies path who permission place asked channel =
    last_place (decides policies path who permission place asked) (entries_of (policies channel))

-- the last such entry of the channels from this place of the path down, by its channel and its place there; what is above
-- a channel that inherits nothing does not count
unfoldable pub last_along : PolicyMap → List ChannelId → Actor → ℕ → ℕ → List ChannelId → Option (ChannelId × ℕ)
last_along policies path who permission place [] = None
last_along policies path who permission place (channel ∷ below) =
    option_or (last_along policies path who permission (place + 1) below)
    (if list_any (λ lower. starts_over (policies lower)) below then None
    else option_map (λ index. (channel, index)) (last_in policies path who permission place (is_asked below) channel))

-- ---- where the walk ends

-- the first channel of the path that the session does not pass, where the others are above
unfoldable pub closed_below : PolicyMap → List ChannelId → Actor → List ChannelId → List ChannelId → Option ChannelId
closed_below policies path who above [] = None
closed_below policies path who above (channel ∷ below) =
    if passes policies path who (above ++ channel ∷ []) then closed_below policies path who
    (above ++ channel ∷ []) below
    else Some channel

-- ---- what takes a permission away

-- the last entry that names it, or that there is none
abbrev pub by_entry : Option (ChannelId × ℕ) → Cut
by_entry None = NeverGiven
by_entry (Some entry) = Denied entry.0 entry.1

-- what takes a permission away from who lacks it in the last channel of the path, the first that applies
abbrev pub cut : PolicyMap → List ChannelId → Actor → ℕ → Cut
cut policies path who permission =
    if not (on_root path) && holds ROOT_ONLY.0 permission then RootOnly
    else if is_super_user who then SuperUser
    else option_map_or Closed (closed_below policies path who [] path)
    (by_entry (last_along policies path who permission 0 path))

-- what takes it away from a session that is there and lacks it
abbrev pub cut_at : StateValue → User → ChannelId → Perm → Cut
cut_at state user channel permission =
    cut (policy_of state) (path state.tree.channels channel) (actor_from state.tree user) permission.0

-- what takes it away from a session; nothing, where it has the permission or one of the two is not there
abbrev pub cut_of : StateValue → SessionId → ChannelId → Perm → Option Cut
cut_of state session channel permission =
    if may state session permission channel then None
    else option_map (λ who. cut (policy_of state) (path state.tree.channels channel) who permission.0)
    (actor_in state session channel)
