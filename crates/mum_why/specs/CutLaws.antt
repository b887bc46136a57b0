-- What holds of every cut, in words of the walk.
use Rattle.std.specs.Prelude.{◌≡◌, ℕ, suc, ◌+◌, ◌<◌, ◌&&◌, Bool, true, false, not, List, bit_or, drop, filter, take, Some, None, is_some, IsTrue}
use Rattle.std.specs.List.{All, list_any, slice_get}
use Rattle.mum_base.specs.declared.{number.ChannelId.ChannelId, number.SessionId.SessionId, perm.Perm.Perm}
use Rattle.mum_base.specs.declared.perm.TheConstants.Perm.{ALL, ROOT_ONLY, SPEAK, START, WHISPER}
use Rattle.mum_policy.specs.declared.policy.AclEntry.{AclEntry}
use Rattle.mum_policy.specs.Laws.{IsPermission, IsWayOpen, counting, entries_of, is_super_user, names_permission, passes, starts_over}
use Rattle.mum_policy.specs.Member.{Actor, PolicyMap}
use Rattle.mum_policy.specs.Walk.{applies, holds, is_asked, matches, on_root}
use Rattle.mum_tree.specs.Rows.{path}
use Rattle.mum_state.specs.{Permissions.actor_in, Permissions.perm_of, Proper.IsProper}
use Rattle.mum_state.specs.State.{StateValue, policy_of}
use Rattle.mum_why.specs.declared.cut.Cut.{Cut}
use Rattle.mum_why.specs.declared.cut.Cut.TheVariants.{Closed, Denied, NeverGiven, RootOnly, SuperUser}
use Rattle.mum_why.specs.Cut.{cut_of}

-- none of these entries grants or denies the permission
abbrev pub NoneNames : ℕ → List AclEntry → Type 0
NoneNames permission entries = All (λ entry. names_permission permission entry ≡ false) entries

-- The entry at this place of the channel's list matches, applies and denies the permission; no channel below
-- starts over, and no entry that counts, after it in the list or below, names the permission.
pub record IsDenied (policies : PolicyMap) (path : List ChannelId) (who : Actor) (permission : ℕ) (channel : ChannelId)
    (index : ℕ) : Type 0 where
  pub place : ℕ
  pub entry : AclEntry
  pub on_path : slice_get path place ≡ Some channel
  pub in_list : slice_get (entries_of (policies channel)) index ≡ Some entry
  pub is_for_it : IsTrue (matches policies path who place entry)
  pub applicable : IsTrue (applies (is_asked (drop (suc place) path)) entry)
  pub denies : IsTrue (holds entry.deny.0 permission)
  pub counts : list_any (λ lower. starts_over (policies lower)) (drop (suc place) path) ≡ false
  pub none_behind : NoneNames permission
      (filter (applies (is_asked (drop (suc place) path)))
      (filter (matches policies path who place) (drop (suc index) (entries_of (policies channel)))))
  pub none_below : NoneNames permission (counting policies path who (place + 1) (drop (suc place) path))

-- the channel is the first of the path after whose entries neither mark is left
pub record IsClosed (policies : PolicyMap) (path : List ChannelId) (who : Actor) (channel : ChannelId) : Type 0 where
  pub place : ℕ
  pub on_path : slice_get path place ≡ Some channel
  pub open_above : (above : ℕ) → above < place → passes policies path who (take (suc above) path) ≡ true
  pub closed : passes policies path who (take (suc place) path) ≡ false

-- of the entries that count none names the permission, and it is none of those that everybody has at first
pub record IsNeverGiven (policies : PolicyMap) (path : List ChannelId) (who : Actor) (permission : ℕ) : Type 0 where
  pub unnamed : NoneNames permission (counting policies path who 0 path)
  pub not_at_first : holds START.0 permission ≡ false

-- the permission means something on the root alone, and the path ends elsewhere
abbrev pub is_root_only_elsewhere : List ChannelId → ℕ → Bool
is_root_only_elsewhere path permission = not (on_root path) && holds ROOT_ONLY.0 permission

-- the walk over the lists decides: the permission may be had there, and the session is not SuperUser
abbrev pub IsByWalk : List ChannelId → Actor → ℕ → Type 0
IsByWalk path who permission = (is_root_only_elsewhere path permission ≡ false) × (is_super_user who ≡ false)

-- what each cut says
abbrev pub CutHolds : PolicyMap → List ChannelId → Actor → ℕ → Cut → Type 0
CutHolds policies path who permission RootOnly = IsTrue (is_root_only_elsewhere path permission)
CutHolds policies path who permission SuperUser =
    (is_root_only_elsewhere path permission ≡ false) × IsTrue (is_super_user who)
    × (IsTrue (holds ALL.0 permission) → IsTrue (holds (bit_or SPEAK.0 WHISPER.0) permission))
CutHolds policies path who permission (Closed channel) =
    IsByWalk path who permission × IsClosed policies path who channel
CutHolds policies path who permission (Denied channel index) =
    IsByWalk path who permission × IsWayOpen policies path who × IsDenied policies path who permission channel index
CutHolds policies path who permission NeverGiven =
    IsByWalk path who permission × IsWayOpen policies path who × IsNeverGiven policies path who permission

-- what is said of a permission that a session lacks does hold
abbrev pub CutsHold : Type 0
CutsHold =
    (state : StateValue) (session : SessionId) (channel : ChannelId) (permission : Perm) (who : Actor) (found : Cut)
    → IsProper state
    → IsPermission permission.0 → actor_in state session channel ≡ Some who
    → cut_of state session channel permission ≡ Some found
    → CutHolds (policy_of state) (path state.tree.channels channel) who permission.0 found

-- a cut is given exactly where the session and the channel are there and it lacks the permission
abbrev pub CutsAreGiven : Type 0
CutsAreGiven =
    (state : StateValue) (session : SessionId) (channel : ChannelId) (permission : Perm)
    → ((held : ℕ) → perm_of state session channel ≡ Some held
    → is_some (cut_of state session channel permission) ≡ not (holds held permission.0))
    × (perm_of state session channel ≡ None → cut_of state session channel permission ≡ None)

-- of a session and a permission no two cuts hold, so there is no other cut to give
abbrev pub CutsAreAlone : Type 0
CutsAreAlone =
    (policies : PolicyMap) (path : List ChannelId) (who : Actor) (permission : ℕ) (one other : Cut)
    → CutHolds policies path who permission one → CutHolds policies path who permission other → one ≡ other
