-- The laws of cuts, of a state.
use Rattle.mum_why.proofs.Common.{◌≡◌, ℕ, ◌^◌, ◌<◌, ◌≤◌, ◌&&◌, Bool, true, false, cond, not, List, [], ◌∷◌, refl, sym, ap, subst, ◌∙◌, arith, bit_and, Option, Some, None, ◌==◌, find, is_some, All, list_all, option_map, option_map_or, and_parts, eqb-true, All-cons, All-nil, and_le_l, none-some, same_Some, ChannelId, AclEntry, ChannelPolicy, AreDeniesIn32Bits, is_large_policy, Actor, holds, path, actor_in, granted_to, are_permissions, is_name, is_sound_entry, is_sound_policy, IsProper, PolicyRow, StateValue, policy_of, Cut, cut, CutHolds, CutsAreGiven, CutsHold}
use Rattle.mum_why.proofs.Cuts.{cut_holds}

-- ---- where one is given

given_where_lacking : (found : Option Actor) (granted : Actor → ℕ) (taken : Actor → Cut) (p held : ℕ) → option_map granted found ≡ Some held
    → is_some (cond (option_map_or (λ set. holds set p) (option_map granted found) false) None (option_map taken found)) ≡ not (holds held p)
given_where_lacking None granted taken p held e = absurd (none-some held e)
given_where_lacking (Some who) granted taken p held e = by_held (holds (granted who) p) ∙ ap (λ (set : ℕ). not (holds set p)) (same_Some (granted who) held e)
  where
    by_held : (b : Bool) → is_some (cond b None (Some (taken who))) ≡ not b
    by_held true = refl
    by_held false = refl

none_where_absent : (found : Option Actor) (granted : Actor → ℕ) (taken : Actor → Cut) (p : ℕ) → option_map granted found ≡ None
    → cond (option_map_or (λ set. holds set p) (option_map granted found) false) None (option_map taken found) ≡ None
none_where_absent None granted taken p e = refl
none_where_absent (Some who) granted taken p e = absurd (none-some (granted who) (sym e))

pub cuts_are_given : CutsAreGiven
cuts_are_given state session channel permission =
    let granted : Actor → ℕ = λ who. granted_to state who channel in
    let taken : Actor → Cut = λ who. cut (policy_of state) (path state.tree.channels channel) who permission.0 in (
      (λ held is. given_where_lacking (actor_in state session channel) granted taken permission.0 held is),
      (λ is. none_where_absent (actor_in state session channel) granted taken permission.0 is),
    )

-- ---- denies of a proper state

entry_fits : (entry : AclEntry) → is_sound_entry entry ≡ true → entry.deny.0 < 2 ^ 32
entry_fits entry sound =
    let parts = and_parts (are_permissions entry.grant) (are_permissions entry.deny) sound in
    let same : bit_and 2035711 entry.deny.0 ≡ entry.deny.0 = eqb-true (bit_and 2035711 entry.deny.0) entry.deny.0 parts.1 in
    let least : bit_and 2035711 entry.deny.0 ≤ 2035711 = and_le_l 2035711 entry.deny.0 in
    omega (arith, same, least)

entries_fit : (entries : List AclEntry) → list_all is_sound_entry entries ≡ true → All (λ entry. entry.deny.0 < 2 ^ 32) entries
entries_fit [] sound = All-nil (λ (entry : AclEntry). entry.deny.0 < 2 ^ 32)
entries_fit (entry ∷ entries) sound =
    let parts = and_parts (is_sound_entry entry) (list_all is_sound_entry entries) sound in
    All-cons (λ (one : AclEntry). one.deny.0 < 2 ^ 32) entry entries (entry_fits entry parts.0) (entries_fit entries parts.1)

found_sound : (p : PolicyRow → Bool) (rows : List PolicyRow) (policy : ChannelPolicy) → option_map (λ row. row.policy) (find p rows) ≡ Some policy
    → list_all (λ row. is_sound_policy row.policy) rows ≡ true → is_sound_policy policy ≡ true
found_sound p [] policy found sound = absurd (none-some policy found)
found_sound p (row ∷ rows) policy found sound =
    let parts = and_parts (is_sound_policy row.policy) (list_all (λ (one : PolicyRow). is_sound_policy one.policy) rows) sound in
    by_first (p row) found parts.0 (λ later. found_sound p rows policy later parts.1)
  where
    by_first : (b : Bool) → option_map (λ (one : PolicyRow). one.policy) (cond b (Some row) (find p rows)) ≡ Some policy → is_sound_policy row.policy ≡ true
        → (option_map (λ (one : PolicyRow). one.policy) (find p rows) ≡ Some policy → is_sound_policy policy ≡ true) → is_sound_policy policy ≡ true
    by_first true e first later = subst (λ (one : ChannelPolicy). is_sound_policy one ≡ true) (same_Some row.policy policy e) first
    by_first false e first later = later e

denies_fit : (state : StateValue) → IsProper state → AreDeniesIn32Bits (policy_of state)
denies_fit state proper id policy found =
    let sound = found_sound (λ row. row.channel.0 == id.0) state.policies policy found proper.sound_policies in
    entries_fit policy.acls (and_parts (not (is_large_policy policy) && list_all (λ group. is_name group.name) policy.groups) (list_all is_sound_entry policy.acls) sound).1

-- a cut that is given is of a permission that is lacking
lacked : (held : Bool) (one found : Cut) → cond held None (Some one) ≡ Some found → (held ≡ false) × (one ≡ found)
lacked true one found e = absurd (none-some found e)
lacked false one found e = (refl, same_Some one found e)

pub cuts_hold : CutsHold
cuts_hold state session channel permission who found proper is there given =
    let policies = policy_of state in
    let way : List ChannelId = path state.tree.channels channel in
    let one : Cut = cut policies way who permission.0 in
    let lacks = lacked (holds (granted_to state who channel) permission.0) one found
    (sym (ap (λ (o : Option Actor). cond (option_map_or (λ set. holds set permission.0) (option_map (λ a. granted_to state a channel) o) false) None
    (option_map (λ a. cut policies way a permission.0) o)) there)
    ∙ given) in
    subst (CutHolds policies way who permission.0) lacks.1 (cut_holds policies way who permission.0 (denies_fit state proper) is lacks.0)
