-- What is given of a channel beside its seat: its info, and its policy.
use Rattle.std.specs.Prelude.{List, [], ◌∷◌, ◌++◌, Option, codes, map}
use Rattle.std.specs.Option.{option_map}
use Rattle.serde_json.specs.{Data.Data, Find.get}
use Rattle.mum_base.specs.declared.name.TheConstants.{TEXT_LIMIT}
use Rattle.mum_policy.specs.declared.policy.{AclEntry.AclEntry, Group.Group as GroupRow}
use Rattle.mum_policy.specs.declared.policy.TheConstants.{ENTRIES, GROUPS}
use Rattle.mum_document.specs.declared.given.{GivenInfo.GivenInfo, GivenPolicy.GivenPolicy}
use Rattle.mum_document.specs.Object.{Row, each_fault, elements_at, elements_fault}
use Rattle.mum_document.specs.Policy.{entry_fault, entry_of, group_fault, group_of, with_group_met}
use Rattle.mum_document.specs.Value.{elements_of, flag_fault, flag_of, greatest, list_fault, number_fault, number_of, signed_fault, signed_of, text_fault, text_of, wanted}

-- ---- info

abbrev pub info_rows : Data → List Row
info_rows value =
    (codes "position", wanted signed_fault (get (codes "position") value))
    ∷ (codes "max_users", wanted (number_fault 0 greatest) (get (codes "max_users") value))
    ∷ (codes "description", wanted (text_fault TEXT_LIMIT) (get (codes "description") value))
    ∷ []

-- what is given of a channel beside its seat
abbrev pub given_info : Data → GivenInfo
given_info value = record {
  position = option_map signed_of (get (codes "position") value);
  max_users = option_map number_of (get (codes "max_users") value);
  description = option_map text_of (get (codes "description") value);
}

-- ---- policy

abbrev pub group_list_rows : Data → List Row
group_list_rows value =
    (codes "groups", wanted (list_fault GROUPS) (get (codes "groups") value))
    ∷ (codes "groups", elements_fault group_fault with_group_met [] 0 (elements_at (codes "groups") value))
    ∷ []

abbrev pub entry_list_rows : Data → List Row
entry_list_rows value =
    (codes "acls", wanted (list_fault ENTRIES) (get (codes "acls") value))
    ∷ (codes "acls", each_fault entry_fault 0 (elements_at (codes "acls") value))
    ∷ []

abbrev pub policy_rows : Data → List Row
policy_rows value =
    (codes "inherit_acls", wanted flag_fault (get (codes "inherit_acls") value)) ∷ (group_list_rows value ++ entry_list_rows value)

-- the groups, and the entries, where they are given
abbrev pub groups_at : Data → Option (List GroupRow)
groups_at value = option_map (λ groups. map group_of groups) (option_map elements_of (get (codes "groups") value))

abbrev pub acls_at : Data → Option (List AclEntry)
acls_at value = option_map (λ acls. map entry_of acls) (option_map elements_of (get (codes "acls") value))

-- what is given of the policy
abbrev pub given_policy : Data → GivenPolicy
given_policy value = record {
  inherit_acls = option_map flag_of (get (codes "inherit_acls") value);
  groups = groups_at value;
  acls = acls_at value;
}
