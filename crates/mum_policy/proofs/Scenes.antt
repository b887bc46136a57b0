-- Small policies of which worked facts speak.
use Rattle.mum_policy.proofs.Common.{ℕ, true, false, List, [], ◌∷◌, codes, map, AccountId, ChannelId, Perm, NONE, AclEntry, ChannelPolicy, GroupRow, Whom, Account}
use Rattle.mum_policy.specs.declared.policy.Whom.TheVariants.{Group}

abbrev pub account : ℕ → AccountId
account number = record { 0 = number }

abbrev pub channel : ℕ → ChannelId
channel number = record { 0 = number }

-- ---- entries

abbrev pub those_in : List ℕ → Whom
those_in name = Group name

abbrev pub everybody : Whom
everybody = those_in (codes "all")

abbrev pub the_account : ℕ → Whom
the_account number = Account (account number)

-- an entry that applies in its own channel and below
abbrev pub entry : Whom → Perm → Perm → AclEntry
entry whom grant deny = record { whom = whom; here = true; subs = true; grant = grant; deny = deny }

abbrev pub grants : Whom → Perm → AclEntry
grants whom perm = entry whom perm NONE

abbrev pub denies : Whom → Perm → AclEntry
denies whom perm = entry whom NONE perm

-- the same in its own channel alone, only below that, or in no channel
abbrev pub only_here : AclEntry → AclEntry
only_here given = record given { subs = false }

abbrev pub only_below : AclEntry → AclEntry
only_below given = record given { here = false }

abbrev pub nowhere : AclEntry → AclEntry
nowhere given = record given { here = false; subs = false }

-- ---- groups

-- a group that inherits and is inheritable, which adds these accounts and then removes those
abbrev pub group : List ℕ → List ℕ → List ℕ → GroupRow
group name adds removes = record { name = name; inherit = true; inheritable = true; add = map account adds; remove = map account removes }

abbrev pub not_inheriting : GroupRow → GroupRow
not_inheriting given = record given { inherit = false }

abbrev pub not_inheritable : GroupRow → GroupRow
not_inheritable given = record given { inheritable = false }

-- ---- policies

abbrev pub policy : List GroupRow → List AclEntry → ChannelPolicy
policy groups entries = record { inherit_acls = true; groups = groups; acls = entries }

abbrev pub plain : ChannelPolicy
plain = policy [] []

-- one entry, or one after the other
abbrev pub one : AclEntry → ChannelPolicy
one entry = policy [] (entry ∷ [])

abbrev pub two : AclEntry → AclEntry → ChannelPolicy
two first second = policy [] (first ∷ second ∷ [])

-- a group, or a group and an entry
abbrev pub defines : GroupRow → ChannelPolicy
defines group = policy (group ∷ []) []

abbrev pub defines_and : GroupRow → AclEntry → ChannelPolicy
defines_and group entry = policy (group ∷ []) (entry ∷ [])

-- the same for a channel that does not inherit
abbrev pub afresh : ChannelPolicy → ChannelPolicy
afresh given = record given { inherit_acls = false }
