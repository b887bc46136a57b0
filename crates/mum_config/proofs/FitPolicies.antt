-- A policy of which nothing is said is sound.
use Rattle.mum_config.proofs.Common.{◌≡◌, ℕ, Bool, true, false, List, [], ◌∷◌, length, map, Option, None, Some, refl, ap, ◌∙◌, bit_and, codes, nat_lt, unwrap_or, list_all, list_any, option_map, option_map_or, and_from, eq-eqb, not_from_false, or_from, length-map, and_assoc, and_comm, Data, get, ALL, AclEntry, ChannelPolicy, GroupRow, Account, Group, is_large_group, is_long_whom, holds, is_name, is_sound_entry, is_sound_policy, Each, given_policy, policy_rows, elements_at, number_at, opening_fault, rows_fault, text_at, account_of, accounts_at, entry_fault, entry_names, entry_of, entry_rows, group_fault, group_names, group_of, group_rows, with_group_met, policy_of, elements_of}
use Rattle.mum_config.proofs.Said.{each_alone, each_element, each_row, list_short, name_good, object_rows, text_short}

-- ---- groups

record IsGoodGroup (value : Data) : Type 0 where
  small : is_large_group (group_of value) ≡ false
  named : is_name (group_of value).name ≡ true

few_accounts : (name : List ℕ) (value : Data) → nat_lt 256 (length (elements_at name value)) ≡ false → nat_lt 256 (length (accounts_at name value)) ≡ false
few_accounts name value few = ap (nat_lt 256) (length-map (elements_at name value) account_of) ∙ few

good_group : (met : List (List ℕ)) (value : Data) → group_fault met value ≡ None → IsGoodGroup value
unfolding group_fault group_of
good_group met value none =
    let rows : Each (λ row. row.1 ≡ None) (group_rows met value) = object_rows (codes ".") (opening_fault (codes ".") group_names value) (group_rows met value) none in
    record {
      small = or_from _ _
          (few_accounts (codes "add") value (list_short 256 (get (codes "add") value) refl rows.1.1.1.1.0))
          (few_accounts (codes "remove") value (list_short 256 (get (codes "remove") value) refl rows.1.1.1.1.1.1.0));
      named = name_good (get (codes "name") value) rows.0;
    }

none_large : (values : List Data) → Each IsGoodGroup values → list_any is_large_group (map group_of values) ≡ false
none_large [] good = refl
none_large (value ∷ values) good = or_from (is_large_group (group_of value)) (list_any is_large_group (map group_of values)) good.0.small (none_large values good.1)

all_named : (values : List Data) → Each IsGoodGroup values → list_all (λ (group : GroupRow). is_name group.name) (map group_of values) ≡ true
all_named [] good = refl
all_named (value ∷ values) good = and_from (is_name (group_of value).name) (list_all (λ (group : GroupRow). is_name group.name) (map group_of values)) good.0.named (all_named values good.1)

-- ---- entries

record IsGoodEntry (value : Data) : Type 0 where
  short : is_long_whom (entry_of value).whom ≡ false
  sound : is_sound_entry (entry_of value) ≡ true

among_all : (bits : ℕ) → holds ALL.0 (bit_and bits ALL.0) ≡ true
among_all bits =
    eq-eqb (bit_and ALL.0 (bit_and bits ALL.0)) (bit_and bits ALL.0) (and_comm ALL.0 (bit_and bits ALL.0) ∙ and_assoc ALL.0 bits ALL.0)

short_whom : (account : Option Data) (name : List ℕ) → nat_lt 128 (length name) ≡ false → is_long_whom (option_map_or (λ value. Account (account_of value)) account (Group name)) ≡ false
short_whom None name short = short
short_whom (Some account) name short = refl

good_entry : (value : Data) → entry_fault value ≡ None → IsGoodEntry value
unfolding entry_fault entry_of
good_entry value none =
    let rows : Each (λ row. row.1 ≡ None) (entry_rows value) = object_rows (codes ".") (opening_fault (codes ".") entry_names value) (entry_rows value) none in
    record {
      short = short_whom (get (codes "account") value) (text_at (codes "group") value) (text_short 128 (get (codes "group") value) refl rows.1.1.0);
      sound = and_from _ _ (among_all (number_at (codes "grant") 0 value)) (among_all (number_at (codes "deny") 0 value));
    }

none_long : (values : List Data) → Each IsGoodEntry values → list_any (λ (entry : AclEntry). is_long_whom entry.whom) (map entry_of values) ≡ false
none_long [] good = refl
none_long (value ∷ values) good = or_from (is_long_whom (entry_of value).whom) (list_any (λ (entry : AclEntry). is_long_whom entry.whom) (map entry_of values)) good.0.short (none_long values good.1)

all_sound : (values : List Data) → Each IsGoodEntry values → list_all is_sound_entry (map entry_of values) ≡ true
all_sound [] good = refl
all_sound (value ∷ values) good = and_from (is_sound_entry (entry_of value)) (list_all is_sound_entry (map entry_of values)) good.0.sound (all_sound values good.1)

-- ---- policies

-- what is given, or else nothing
listed : {X : Type 0} (f : Data → X) (found : Option Data) → unwrap_or (option_map (map f) (option_map elements_of found)) [] ≡ map f (unwrap_or (option_map elements_of found) [])
listed f None = refl
listed f (Some values) = refl

sound_parts : (inherit : Bool) (groups : List GroupRow) (acls : List AclEntry) → nat_lt 64 (length groups) ≡ false → nat_lt 128 (length acls) ≡ false
    → list_any is_large_group groups ≡ false → list_any (λ (entry : AclEntry). is_long_whom entry.whom) acls ≡ false
    → list_all (λ (group : GroupRow). is_name group.name) groups ≡ true → list_all is_sound_entry acls ≡ true
    → is_sound_policy (record { inherit_acls = inherit; groups = groups; acls = acls }) ≡ true
sound_parts inherit groups acls few few-2 small short named sound =
    and_from _ _ (and_from _ _ (not_from_false _ (or_from _ _ (or_from _ _ (or_from _ _ few few-2) small) short)) named) sound

sound_lists : (inherit : Bool) (groups other : List GroupRow) (acls also : List AclEntry) → groups ≡ other → acls ≡ also
    → is_sound_policy (record { inherit_acls = inherit; groups = other; acls = also }) ≡ true → is_sound_policy (record { inherit_acls = inherit; groups = groups; acls = acls }) ≡ true
sound_lists inherit groups other acls also same same_acls sound =
    ap (λ (list : List GroupRow). is_sound_policy (record { inherit_acls = inherit; groups = list; acls = acls })) same
    ∙ ap (λ (list : List AclEntry). is_sound_policy (record { inherit_acls = inherit; groups = other; acls = list })) same_acls
    ∙ sound

pub sound_policy : (dot : List ℕ) (value : Data) → rows_fault dot (policy_rows value) ≡ None → is_sound_policy (policy_of (given_policy value)) ≡ true
sound_policy dot value none =
    let rows : Each (λ row. row.1 ≡ None) (policy_rows value) = each_row dot (policy_rows value) none in
    let groups : List Data = elements_at (codes "groups") value in
    let acls : List Data = elements_at (codes "acls") value in
    let good : Each IsGoodGroup groups = each_element group_fault with_group_met IsGoodGroup good_group [] 0 groups rows.1.1.0 in
    let fine : Each IsGoodEntry acls = each_alone entry_fault IsGoodEntry good_entry 0 acls rows.1.1.1.1.0 in
    let policy : ChannelPolicy = policy_of (given_policy value) in
    sound_lists policy.inherit_acls policy.groups (map group_of groups) policy.acls (map entry_of acls) (listed group_of (get (codes "groups") value)) (listed entry_of (get (codes "acls") value))
    (sound_parts policy.inherit_acls (map group_of groups) (map entry_of acls)
    (ap (nat_lt 64) (length-map groups group_of) ∙ list_short 64 (get (codes "groups") value) refl rows.1.0)
    (ap (nat_lt 128) (length-map acls entry_of) ∙ list_short 128 (get (codes "acls") value) refl rows.1.1.1.0)
    (none_large groups good)
    (none_long acls fine)
    (all_named groups good)
    (all_sound acls fine))
