-- An entry of which nothing is said against says what it is read as.
use Rattle.mum_config_laws.proofs.Common.{◌≡◌, ℕ, ◌&&◌, true, false, not, List, [], map, Option, None, Some, refl, subst, bit_and, codes, is_some, pos, unwrap_or, option_map, option_map_or, Data, get, TEXT_LIMIT, NAME_LIMIT, ALL, Group, ENTRIES, GROUPS, GROUP_ACCOUNTS, AccountRow, Each, given_info, given_policy, info_rows, policy_rows, elements_at, opening_fault, rows_fault, account_of, entry_fault, entry_names, entry_of, entry_rows, group_fault, group_names, group_of, group_rows, with_group_met, digest_fault, digest_of, elements_of, flag_fault, flag_of, greatest, name_fault, number_fault, number_of, signed_fault, signed_of, text_fault, text_of, wanted, AccountsMet, account_fault, account_name, account_names, account_number, account_rows, digest_at, info_of, policy_of, each_alone, each_element, each_row, not_against, object_rows, IsAccountNumber, IsDigest, IsFlag, IsListOf, IsNumber, IsSet, IsSigned, IsText, Says, SaysOr, SaysAccount, SaysEntry, SaysGroup, SaysInfo, SaysPolicy, SaysWhom, no_permission}
use Rattle.mum_policy.specs.declared.policy.Whom.TheVariants.{Account}
use Rattle.mum_config_laws.proofs.SaidValues.{digest_said, flag_said, list_or, name_said, needed_said, number_said, signed_said, text_said, wanted_said}

-- ---- accounts

account_says : (found : Option Data) (n : ℕ) → Says IsNumber found n → Says IsAccountNumber found (record { 0 = n })
account_says None n says = says
account_says (Some value) n says = says

abbrev pub account_row : Data → AccountRow
account_row value = record { account = record { 0 = account_number value }; name = account_name value; digest = unwrap_or (digest_at (codes "password_sha256") value) [] }

pub account_said : (met : AccountsMet) (value : Data) → account_fault met value ≡ None → SaysAccount value (account_row value)
unfolding account_fault
account_said met value none =
    let rows : Each (λ row. row.1 ≡ None) (account_rows met value) = object_rows (codes ".") (opening_fault (codes ".") account_names value) (account_rows met value) none in
    record {
      id = account_says (get (codes "id") value) (account_number value) (needed_said (number_fault 0 greatest) number_of IsNumber (number_said 0 greatest) 0 (get (codes "id") value) rows.0);
      name = needed_said name_fault text_of IsText name_said [] (get (codes "name") value) rows.1.1.0;
      digest = needed_said digest_fault digest_of IsDigest digest_said [] (get (codes "password_sha256") value) rows.1.1.1.1.0;
    }

-- ---- groups

account_number_said : (value : Data) → number_fault 0 greatest value ≡ None → IsAccountNumber value (account_of value)
account_number_said value none = number_said 0 greatest value none

pub group_said : (met : List (List ℕ)) (value : Data) → group_fault met value ≡ None → SaysGroup value (group_of value)
unfolding group_fault group_of
group_said met value none =
    let rows : Each (λ row. row.1 ≡ None) (group_rows met value) = object_rows (codes ".") (opening_fault (codes ".") group_names value) (group_rows met value) none in
    record {
      name = needed_said name_fault text_of IsText name_said [] (get (codes "name") value) rows.0;
      inherit = wanted_said flag_fault flag_of IsFlag flag_said true (get (codes "inherit") value) rows.1.1.0;
      inheritable = wanted_said flag_fault flag_of IsFlag flag_said true (get (codes "inheritable") value) rows.1.1.1.0;
      add = list_or account_of IsAccountNumber GROUP_ACCOUNTS (get (codes "add") value) rows.1.1.1.1.0
          (each_alone (number_fault 0 greatest) (λ one. IsAccountNumber one (account_of one)) account_number_said 0 (elements_at (codes "add") value) rows.1.1.1.1.1.0);
      remove = list_or account_of IsAccountNumber GROUP_ACCOUNTS (get (codes "remove") value) rows.1.1.1.1.1.1.0
          (each_alone (number_fault 0 greatest) (λ one. IsAccountNumber one (account_of one)) account_number_said 0 (elements_at (codes "remove") value) rows.1.1.1.1.1.1.1.0);
    }

-- ---- entries

whom_said : (limit : ℕ) (account group : Option Data) → wanted (number_fault 0 greatest) account ≡ None → (not (is_some account) && not (is_some group)) ≡ false
    → wanted (text_fault limit) group ≡ None
    → SaysWhom account group (option_map_or (λ value. Account (account_of value)) account (Group (unwrap_or (option_map text_of group) [])))
unfolding wanted
whom_said limit (Some value) group none some short = (account_of value, number_said 0 greatest value none, refl)
whom_said limit None (Some value) none some short = (text_of value, text_said limit value short, refl)
whom_said limit None None none some short = absurd (cc)

set_said : (found : Option Data) → wanted (number_fault 0 ALL.0) found ≡ None → SaysOr IsSet no_permission found (record { 0 = bit_and (unwrap_or (option_map number_of found) 0) ALL.0 })
unfolding wanted
set_said None none = refl
set_said (Some value) none = (number_of value, number_said 0 ALL.0 value none, refl)

pub entry_said : (value : Data) → entry_fault value ≡ None → SaysEntry value (entry_of value)
unfolding entry_fault entry_of
entry_said value none =
    let rows : Each (λ row. row.1 ≡ None) (entry_rows value) = object_rows (codes ".") (opening_fault (codes ".") entry_names value) (entry_rows value) none in
    record {
      whom = whom_said NAME_LIMIT (get (codes "account") value) (get (codes "group") value) rows.0 (not_against _ _ rows.1.0) rows.1.1.0;
      here = wanted_said flag_fault flag_of IsFlag flag_said true (get (codes "here") value) rows.1.1.1.0;
      subs = wanted_said flag_fault flag_of IsFlag flag_said true (get (codes "subs") value) rows.1.1.1.1.0;
      grant = set_said (get (codes "grant") value) rows.1.1.1.1.1.0;
      deny = set_said (get (codes "deny") value) rows.1.1.1.1.1.1.0;
    }

-- ---- policies

listed : {X : Type 0} (f : Data → X) (found : Option Data) → map f (unwrap_or (option_map elements_of found) []) ≡ unwrap_or (option_map (map f) (option_map elements_of found)) []
listed f None = refl
listed f (Some values) = refl

pub policy_said : (dot : List ℕ) (value : Data) → rows_fault dot (policy_rows value) ≡ None → SaysPolicy value (policy_of (given_policy value))
policy_said dot value none =
    let rows : Each (λ row. row.1 ≡ None) (policy_rows value) = each_row dot (policy_rows value) none in
    record {
      inherit_acls = wanted_said flag_fault flag_of IsFlag flag_said true (get (codes "inherit_acls") value) rows.0;
      groups = subst (SaysOr (IsListOf SaysGroup) [] (get (codes "groups") value)) (listed group_of (get (codes "groups") value))
          (list_or group_of SaysGroup GROUPS (get (codes "groups") value) rows.1.0
          (each_element group_fault with_group_met (λ one. SaysGroup one (group_of one)) group_said [] 0 (elements_at (codes "groups") value) rows.1.1.0));
      acls = subst (SaysOr (IsListOf SaysEntry) [] (get (codes "acls") value)) (listed entry_of (get (codes "acls") value))
          (list_or entry_of SaysEntry ENTRIES (get (codes "acls") value) rows.1.1.1.0
          (each_alone entry_fault (λ one. SaysEntry one (entry_of one)) entry_said 0 (elements_at (codes "acls") value) rows.1.1.1.1.0));
    }

-- ---- what describes a channel

pub info_said : (dot : List ℕ) (value : Data) → rows_fault dot (info_rows value) ≡ None → SaysInfo value (info_of (given_info value))
info_said dot value none =
    let rows : Each (λ row. row.1 ≡ None) (info_rows value) = each_row dot (info_rows value) none in
    record {
      description = wanted_said (text_fault TEXT_LIMIT) text_of IsText (text_said TEXT_LIMIT) [] (get (codes "description") value) rows.1.1.0;
      position = wanted_said signed_fault signed_of IsSigned signed_said (pos 0) (get (codes "position") value) rows.0;
      max_users = wanted_said (number_fault 0 greatest) number_of IsNumber (number_said 0 greatest) 0 (get (codes "max_users") value) rows.1.0;
    }
