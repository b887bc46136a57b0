-- A group, and an entry of an access control list.
use Rattle.std.specs.Prelude.{ℕ, ◌&&◌, bit_and, not, Bool, true, List, [], ◌∷◌, ◌++◌, map, Option, codes}
use Rattle.std.specs.Option.{option_map_or}
use Rattle.serde_json.specs.{Data.Data, Find.get}
use Rattle.mum_base.specs.declared.{name.TheConstants.NAME_LIMIT, number.AccountId.AccountId, perm.Perm.Perm}
use Rattle.mum_base.specs.declared.perm.TheConstants.Perm.{ALL}
use Rattle.mum_policy.specs.declared.policy.{AclEntry.AclEntry, Group.Group as GroupRow, TheConstants.GROUP_ACCOUNTS}
use Rattle.mum_policy.specs.declared.policy.Whom.{Whom, TheVariants.Account, TheVariants.Group}
use Rattle.mum_document.specs.declared.{entry.Rights.Rights, fault.ConfigFault.TheVariants.WrongKind}
use Rattle.mum_document.specs.Fault.{Fault, against}
use Rattle.mum_document.specs.Object.{Row, each_fault, elements_at, flag_at, has, new_name_rows, number_at, object_fault, text_at}
use Rattle.mum_document.specs.Value.{flag_fault, greatest, list_fault, number_fault, number_of, text_fault, wanted}

-- ---- groups

abbrev pub group_names : List (List ℕ)
group_names = codes "name" ∷ codes "inherit" ∷ codes "inheritable" ∷ codes "add" ∷ codes "remove" ∷ []

abbrev pub inheriting_rows : Data → List Row
inheriting_rows value =
    (codes "inherit", wanted flag_fault (get (codes "inherit") value))
    ∷ (codes "inheritable", wanted flag_fault (get (codes "inheritable") value))
    ∷ []

-- a list of accounts, which need not be there
abbrev pub id_rows : List ℕ → Data → List Row
id_rows name value =
    (name, wanted (list_fault GROUP_ACCOUNTS) (get name value))
    ∷ (name, each_fault (number_fault 0 greatest) 0 (elements_at name value))
    ∷ []

-- `met` are the names of the channel's groups so far
abbrev pub group_rows : List (List ℕ) → Data → List Row
group_rows met value =
    new_name_rows met value ++ inheriting_rows value ++ id_rows (codes "add") value ++ id_rows (codes "remove") value

unfoldable pub group_fault : List (List ℕ) → Data → Option Fault
group_fault met value = object_fault group_names (group_rows met value) value

abbrev pub with_group_met : List (List ℕ) → Data → List (List ℕ)
with_group_met met value = met ++ text_at (codes "name") value ∷ []

abbrev pub account_of : Data → AccountId
account_of value = record { 0 = number_of value }

abbrev pub accounts_at : List ℕ → Data → List AccountId
accounts_at name value = map account_of (elements_at name value)

unfoldable pub group_of : Data → GroupRow
group_of value = record {
  name = text_at (codes "name") value;
  inherit = flag_at (codes "inherit") true value;
  inheritable = flag_at (codes "inheritable") true value;
  add = accounts_at (codes "add") value;
  remove = accounts_at (codes "remove") value;
}

-- ---- entries

abbrev pub entry_names : List (List ℕ)
entry_names = codes "account" ∷ codes "group" ∷ codes "here" ∷ codes "subs" ∷ codes "grant" ∷ codes "deny" ∷ []

-- an entry without a group needs an account
abbrev pub lacks_whom : Data → Bool
lacks_whom value = not (has (codes "account") value) && not (has (codes "group") value)

abbrev pub whom_rows : Data → List Row
whom_rows value =
    (codes "account", wanted (number_fault 0 greatest) (get (codes "account") value))
    ∷ (codes "account", against WrongKind (lacks_whom value))
    ∷ (codes "group", wanted (text_fault NAME_LIMIT) (get (codes "group") value))
    ∷ []

abbrev pub right_rows : Data → List Row
right_rows value =
    (codes "here", wanted flag_fault (get (codes "here") value))
    ∷ (codes "subs", wanted flag_fault (get (codes "subs") value))
    ∷ (codes "grant", wanted (number_fault 0 ALL.0) (get (codes "grant") value))
    ∷ (codes "deny", wanted (number_fault 0 ALL.0) (get (codes "deny") value))
    ∷ []

abbrev pub entry_rows : Data → List Row
entry_rows value = whom_rows value ++ right_rows value

unfoldable pub entry_fault : Data → Option Fault
entry_fault value = object_fault entry_names (entry_rows value) value

-- the account, if one is given, or else the group
abbrev pub whom_of : Data → Whom
whom_of value = option_map_or (λ account. Account (account_of account)) (get (codes "account") value) (Group (text_at (codes "group") value))

-- those of the permissions named that there are
abbrev pub permissions_at : List ℕ → Data → Perm
permissions_at name value = record { 0 = bit_and (number_at name 0 value) ALL.0 }

-- where an entry holds, and what it grants and denies
abbrev pub rights_of : Data → Rights
rights_of value = record {
  here = flag_at (codes "here") true value;
  subs = flag_at (codes "subs") true value;
  grant = permissions_at (codes "grant") value;
  deny = permissions_at (codes "deny") value;
}

unfoldable pub entry_of : Data → AclEntry
entry_of value = record {
  whom = whom_of value;
  here = flag_at (codes "here") true value;
  subs = flag_at (codes "subs") true value;
  grant = permissions_at (codes "grant") value;
  deny = permissions_at (codes "deny") value;
}
