-- What a session may do, in words of the entries of the access control lists on the way to a channel.
use Rattle.std.specs.Prelude.{◌≡◌, ◌≢◌, ◌⊎◌, ℕ, ◌||◌, not, Bool, true, false, List, [], ◌∷◌, ◌++◌, IsTrue}
use Rattle.std.specs.List.{All}
use Rattle.mum_base.specs.declared.{number.ChannelId.ChannelId, perm.Perm.Perm}
use Rattle.mum_base.specs.declared.perm.TheConstants.Perm.{ROOT_ONLY, SPEAK, START, TRAVERSE, WHISPER, WRITE}
use Rattle.mum_policy.specs.declared.policy.AclEntry.{AclEntry}
use Rattle.mum_policy.specs.Laws.{IsPermission, counting, is_super_user, matching, names_permission}
use Rattle.mum_policy.specs.{Member.Actor, Member.PolicyMap, Walk.holds, Walk.on_root}
use Rattle.mum_tree.specs.Rows.{path}
use Rattle.mum_users.specs.declared.user.User.{User}
use Rattle.mum_state.specs.{Proper.IsProper, State.StateValue, State.policy_of}
use Rattle.mum_rights_laws.specs.Rights.{may_with}

-- none of these entries grants or denies the permission
abbrev pub NoneNames : ℕ → List AclEntry → Type 0
NoneNames permission entries = All (λ entry. names_permission permission entry ≡ false) entries

-- one of these entries grants the permission and does not deny it, and none after it names it
pub record IsGrantedLast (permission : ℕ) (entries : List AclEntry) : Type 0 where
  pub earlier : List AclEntry
  pub entry : AclEntry
  pub later : List AclEntry
  pub whole : entries ≡ earlier ++ entry ∷ later
  pub grants : IsTrue (holds entry.grant.0 permission)
  pub denies_not : holds entry.deny.0 permission ≡ false
  pub none_later : NoneNames permission later

-- the last of these entries that names the permission grants it; or none names it, and it is held at first
abbrev pub IsLeft : ℕ → Bool → List AclEntry → Type 0
IsLeft permission at_first entries = IsGrantedLast permission entries ⊎ (NoneNames permission entries × IsTrue at_first)

-- Down to each channel on the way, of the entries that match, whatever their flags: Traverse is left, which is held at
-- first, or Write, which is not.
abbrev pub LeadsOn : PolicyMap → List ChannelId → Actor → Type 0
LeadsOn policies path who =
    (above below : List ChannelId) (channel : ChannelId) → path ≡ above ++ channel ∷ below
    → IsLeft TRAVERSE.0 true (matching policies path who 0 (above ++ channel ∷ []))
    ⊎ IsLeft WRITE.0 false (matching policies path who 0 (above ++ channel ∷ []))

-- the lists give the permission to a session that is not SuperUser's: they lead on to the end of the way, and the entries
-- that match and apply leave it
pub record IsGranted (policies : PolicyMap) (path : List ChannelId) (who : Actor) (permission : ℕ) : Type 0 where
  pub other : is_super_user who ≡ false
  pub way : LeadsOn policies path who
  pub left : IsLeft permission (holds START.0 permission) (counting policies path who 0 path)

-- what SuperUser has, and what Write brings: neither Speak nor Whisper
abbrev pub IsBrought : ℕ → Type 0
IsBrought permission = (permission ≢ SPEAK.0) × (permission ≢ WHISPER.0)

-- the session has the permission at the end of the way: the lists give it, or Write, which brings it, or it is SuperUser's;
-- and what means something on the root alone is had there alone
abbrev pub HasByLists : PolicyMap → List ChannelId → Actor → ℕ → Type 0
HasByLists policies path who permission =
    IsTrue (on_root path || not (holds ROOT_ONLY.0 permission))
    × (IsGranted policies path who permission
    ⊎ (IsBrought permission × (IsGranted policies path who WRITE.0 ⊎ IsTrue (is_super_user who))))

-- a session as entries and groups see it, where it has these access tokens
abbrev pub seen : StateValue → User → List (List ℕ) → Actor
seen state user tokens = record { account = user.account; channel = user.channel; tokens = tokens; home = path state.tree.channels user.channel }

-- who has a permission has it by the lists
abbrev pub RightsAreByLists : Type 0
RightsAreByLists =
    (state : StateValue) (user : User) (tokens : List (List ℕ)) (perm : Perm) (channel : ChannelId) → IsProper state
    → IsPermission perm.0
    → IsTrue (may_with state user tokens perm channel)
    → HasByLists (policy_of state) (path state.tree.channels channel) (seen state user tokens) perm.0
