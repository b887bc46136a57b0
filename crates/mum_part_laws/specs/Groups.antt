-- Which accounts are in a group that channels define: "Groups" of the Murmur manual.
use Rattle.std.specs.Prelude.{◌≡◌, ◌≢◌, ◌⊎◌, ◌↔◌, ℕ, true, false, List, [], ◌∷◌, ◌++◌, map, reverse, Option, Some, None, codes, IsTrue}
use Rattle.std.specs.List.{All, Contains}
use Rattle.mum_base.specs.declared.number.{AccountId.AccountId, ChannelId.ChannelId}
use Rattle.mum_policy.specs.declared.policy.{ChannelPolicy.ChannelPolicy, Group.Group}
use Rattle.mum_policy.specs.Member.{Actor, PolicyMap, member}

-- ---- the definitions of a channel

-- the channel defines the group of this name so: of several of one name by the first
abbrev pub Defines : List ℕ → Option ChannelPolicy → Group → Type 0
Defines name None group = ⊥
Defines name (Some policy) group =
    (earlier later : List Group) × (policy.groups ≡ earlier ++ group ∷ later) × (group.name ≡ name)
    × All (λ other. other.name ≢ name) earlier

abbrev pub Names : List AccountId → AccountId → Type 0
Names accounts account = (one : AccountId) × Contains accounts one × (one.0 ≡ account.0)

-- its definition adds the account, and does not remove it
abbrev pub Adds : List ℕ → AccountId → Option ChannelPolicy → Type 0
Adds name account policy =
    (group : Group) × Defines name policy group × Names group.add account × ¬ Names group.remove account

-- its definition, if it has one, inherits, and names the account neither way
abbrev pub LeavesOpen : List ℕ → AccountId → Option ChannelPolicy → Type 0
LeavesOpen name account policy =
    (group : Group) → Defines name policy group
    → (group.inherit ≡ true) × ¬ Names group.add account × ¬ Names group.remove account

-- its definition, if it has one, may be inherited
abbrev pub IsInheritable : List ℕ → Option ChannelPolicy → Type 0
IsInheritable name policy = (group : Group) → Defines name policy group → group.inheritable ≡ true

-- ---- from the chosen channel up

-- a channel adds the account, and all below it leave it open
pub record IsAddedAbove (name : List ℕ) (account : AccountId) (above : List (Option ChannelPolicy)) : Type 0 where
  pub nearer : List (Option ChannelPolicy)
  pub policy : Option ChannelPolicy
  pub further : List (Option ChannelPolicy)
  pub whole : above ≡ nearer ++ policy ∷ further
  pub open_below : All (λ one. LeavesOpen name account one × IsInheritable name one) nearer
  pub adds : Adds name account policy
  pub inheritable : IsInheritable name policy

-- the nearest definition that names the account adds it; a definition that does not inherit ends the way, and one above the
-- chosen channel that may not be inherited is none
abbrev pub IsInGroup : List ℕ → AccountId → List (Option ChannelPolicy) → Type 0
IsInGroup name account [] = ⊥
IsInGroup name account (chosen ∷ above) =
    Adds name account chosen ⊎ (LeavesOpen name account chosen × IsAddedAbove name account above)

-- ---- names that only channels define

-- with no prefix, not of those that the manual defines, and neither `sub` nor `sub,` with something
abbrev pub IsPlain : List ℕ → Type 0
IsPlain [] = ⊥
IsPlain (byte ∷ rest) =
    All (λ prefix. byte ≢ prefix) (codes "!~#$")
    × All (λ word. byte ∷ rest ≢ word) (codes "all" ∷ codes "auth" ∷ codes "in" ∷ codes "out" ∷ codes "none" ∷ codes "strong" ∷ codes "sub" ∷ [])
    × ((arguments : List ℕ) → byte ∷ rest ≢ codes "sub," ++ arguments)

-- whoever has an account is in the group exactly where it is by the definitions from the channel up
abbrev pub MembersAreByDefinitions : Type 0
MembersAreByDefinitions =
    (policies : PolicyMap) (path : List ChannelId) (acl_at : ℕ) (name : List ℕ) (who : Actor) (account : AccountId)
    → IsPlain name → who.account ≡ Some account
    → IsTrue (member policies path acl_at name who) ↔ IsInGroup name account (map policies (reverse path))

-- whoever has none is in no such group
abbrev pub GuestsAreInNone : Type 0
GuestsAreInNone =
    (policies : PolicyMap) (path : List ChannelId) (acl_at : ℕ) (name : List ℕ) (who : Actor) → IsPlain name
    → who.account ≡ None
    → member policies path acl_at name who ≡ false
