-- A permission that is had is had by the lists.
use Rattle.mum_rights_laws.proofs.Common.{◌≡◌, ℕ, ◌^◌, ◌<◌, ◌≤◌, ◌==◌, ◌&&◌, ◌||◌, not, Bool, true, false, cond, List, [], ◌∷◌, ◌++◌, Some, refl, ap, sym, ◌∙◌, arith, bit_and, inl, inr, ⊎_elim, ◌⊎◌, bit_or, All, find, list_all, option_map, and_parts, both_ways, cases_Bool, eqb-true, All-cons, All-nil, and_le_l, without_bits, ChannelId, ALL, ROOT_ONLY, SPEAK, START, TRAVERSE, WHISPER, WRITE, AclEntry, ChannelPolicy, AreDeniesIn32Bits, IsPermission, IsWayOpen, counting, held_after, is_held, is_super_user, matching, names_permission, passes, is_large_policy, Actor, PolicyMap, full_set, holds, marked, on_root, walked, holds_and, holds_none, held_after-append, held_after-one, entries_decide, no_way, nothing_elsewhere, super_may_all, is_there, path, actor_with, granted_to, IsProper, are_permissions, is_name, is_sound_entry, is_sound_policy, PolicyRow, StateValue, policy_of, HasByLists, IsBrought, IsGranted, IsLeft, LeadsOn, NoneNames, RightsAreByLists}

-- ---- the last entry that names a permission

left_of : (p : ℕ) (at_first : Bool) (entries : List AclEntry) → held_after p at_first entries ≡ true → IsLeft p at_first entries
left_of p at_first [] on = inr (All-nil (λ entry. names_permission p entry ≡ false), on)
left_of p at_first (entry ∷ later) on =
    step (left_of p (marked at_first entry p) later
    (sym (ap (λ (b : Bool). held_after p b later) (held_after-one p at_first entry)) ∙ sym (held_after-append p at_first (entry ∷ []) later) ∙ on))
  where
    here : (grants denies first : Bool) → holds entry.grant.0 p ≡ grants → holds entry.deny.0 p ≡ denies → at_first ≡ first → NoneNames p later
        → ((first || grants) && not denies) ≡ true → IsLeft p at_first (entry ∷ later)
    here true false first grants denies is none kept =
        inl (record { earlier = []; entry = entry; later = later; whole = refl; grants = grants; denies_not = denies; none_later = none })
    here false false true grants denies is none kept =
        inr (
          All-cons (λ one. names_permission p one ≡ false) entry later
              (ap (λ (b : Bool). b || holds entry.deny.0 p) grants ∙ denies) none,
          is,
        )
    here false false false grants denies is none kept = cc
    here grants true first granted denies is none kept = absurd (both_ways ((first || grants) && false) (off (first || grants)) kept)
      where
        off : (b : Bool) → (b && false) ≡ false
        off true = refl
        off false = refl

    step : IsLeft p (marked at_first entry p) later → IsLeft p at_first (entry ∷ later)
    step (inl last) =
        inl (record {
          earlier = entry ∷ last.earlier;
          entry = last.entry;
          later = last.later;
          whole = ap (λ (es : List AclEntry). entry ∷ es) last.whole;
          grants = last.grants;
          denies_not = last.denies_not;
          none_later = last.none_later;
        })
    step (inr (none, kept)) = here (holds entry.grant.0 p) (holds entry.deny.0 p) at_first refl refl refl none kept

-- ---- the way

module _ (policies : PolicyMap) (way : List ChannelId) (who : Actor) where
  leads_where : IsWayOpen policies way who → LeadsOn policies way who
  leads_where open_so above below channel is =
      either (held_after TRAVERSE.0 true (matching policies way who 0 (above ++ channel ∷ []))) (held_after WRITE.0 false (matching policies way who 0 (above ++ channel ∷ [])))
      refl refl (open_so above below channel is)
    where
      either : (a b : Bool) → held_after TRAVERSE.0 true (matching policies way who 0 (above ++ channel ∷ [])) ≡ a
          → held_after WRITE.0 false (matching policies way who 0 (above ++ channel ∷ [])) ≡ b → (a || b) ≡ true
          → IsLeft TRAVERSE.0 true (matching policies way who 0 (above ++ channel ∷ [])) ⊎ IsLeft WRITE.0 false (matching policies way who 0 (above ++ channel ∷ []))
      either true b traverse write on = inl (left_of TRAVERSE.0 true (matching policies way who 0 (above ++ channel ∷ [])) traverse)
      either false true traverse write on = inr (left_of WRITE.0 false (matching policies way who 0 (above ++ channel ∷ [])) write)
      either false false traverse write on = cc

  -- whoever has something at the end of the way passes each channel of it
  open_where : (p : ℕ) → IsPermission p → is_super_user who ≡ false → holds (walked policies way who) p ≡ true → IsWayOpen policies way who
  open_where p is other had above below channel whole =
      ⊎_elim
      (λ (on : passes policies way who (above ++ channel ∷ []) ≡ true). on)
      (λ (off : passes policies way who (above ++ channel ∷ []) ≡ false).
      let none = no_way policies way who above below channel other whole off in
      absurd (both_ways (holds 0 p) (holds_none p is) (ap (λ (set : ℕ). holds set p) (sym none) ∙ had)))
      (cases_Bool (passes policies way who (above ++ channel ∷ [])))

  not_of_full : (b : Bool) (p : ℕ) → holds (full_set b) p ≡ true → IsBrought p
  not_of_full true p on = (
    λ speak. both_ways (holds (full_set true) SPEAK.0) refl (ap (holds (full_set true)) (sym speak) ∙ on),
    λ whisper. both_ways (holds (full_set true) WHISPER.0) refl (ap (holds (full_set true)) (sym whisper) ∙ on),
  )
  not_of_full false p on = (
    λ speak. both_ways (holds (full_set false) SPEAK.0) refl (ap (holds (full_set false)) (sym speak) ∙ on),
    λ whisper. both_ways (holds (full_set false) WHISPER.0) refl (ap (holds (full_set false)) (sym whisper) ∙ on),
  )

  -- what means something on the root alone is had there alone
  at_home : (p : ℕ) → IsPermission p → holds (walked policies way who) p ≡ true → (on_root way || not (holds ROOT_ONLY.0 p)) ≡ true
  at_home p is had = step (on_root way) (holds ROOT_ONLY.0 p) refl refl
    where
      step : (root only : Bool) → on_root way ≡ root → holds ROOT_ONLY.0 p ≡ only → (root || not only) ≡ true
      step true only at means = refl
      step false false at means = refl
      step false true at means =
          let both : holds (bit_and (walked policies way who) ROOT_ONLY.0) p ≡ true =
          holds_and (walked policies way who) ROOT_ONLY.0 p is ∙ ap (λ (b : Bool). b && holds ROOT_ONLY.0 p) had ∙ means in
          absurd (both_ways (holds 0 p) (holds_none p is) (ap (λ (set : ℕ). holds set p) (sym (nothing_elsewhere policies way who at)) ∙ both))

  pub by_lists : (p : ℕ) → AreDeniesIn32Bits policies → IsPermission p → holds (walked policies way who) p ≡ true → HasByLists policies way who p
  by_lists p fit is had = (at_home p is had, by_who (is_super_user who) refl)
    where
      by_held : is_super_user who ≡ false → IsWayOpen policies way who → (held write full : Bool) → is_held policies way who p ≡ held
          → is_held policies way who WRITE.0 ≡ write → holds (full_set (on_root way)) p ≡ full → (held || (write && full)) ≡ true
          → IsGranted policies way who p ⊎ (IsBrought p × (IsGranted policies way who WRITE.0 ⊎ (is_super_user who ≡ true)))
      by_held other open_so true write full held wrote brings on =
          inl (record { other = other; way = leads_where open_so; left = left_of p (holds START.0 p) (counting policies way who 0 way) held })
      by_held other open_so false true true held wrote brings on =
          inr (
            not_of_full (on_root way) p brings,
            inl (record { other = other; way = leads_where open_so; left = left_of WRITE.0 (holds START.0 WRITE.0) (counting policies way who 0 way) wrote }),
          )
      by_held other open_so false true false held wrote brings on = cc
      by_held other open_so false false full held wrote brings on = cc

      super_has : (root : Bool) → holds (without_bits (cond root ALL.0 (without_bits ALL.0 ROOT_ONLY.0)) (bit_or SPEAK.0 WHISPER.0)) p ≡ true → IsBrought p
      super_has true on =
          let set = without_bits ALL.0 (bit_or SPEAK.0 WHISPER.0) in
          (λ speak. both_ways (holds set SPEAK.0) refl (ap (holds set) (sym speak) ∙ on), λ whisper. both_ways (holds set WHISPER.0) refl (ap (holds set) (sym whisper) ∙ on))
      super_has false on =
          let set = without_bits (without_bits ALL.0 ROOT_ONLY.0) (bit_or SPEAK.0 WHISPER.0) in
          (λ speak. both_ways (holds set SPEAK.0) refl (ap (holds set) (sym speak) ∙ on), λ whisper. both_ways (holds set WHISPER.0) refl (ap (holds set) (sym whisper) ∙ on))

      by_who : (super : Bool) → is_super_user who ≡ super → IsGranted policies way who p ⊎ (IsBrought p × (IsGranted policies way who WRITE.0 ⊎ (is_super_user who ≡ true)))
      by_who true on =
          inr (super_has (on_root way) (ap (λ (set : ℕ). holds set p) (sym (super_may_all policies way who on)) ∙ had), inr on)
      by_who false other =
          let open_so = open_where p is other had in
          let decided = sym (entries_decide policies way who p fit is other open_so) ∙ had in
          by_held other open_so (is_held policies way who p) (is_held policies way who WRITE.0) (holds (full_set (on_root way)) p) refl refl refl
          (and_parts (on_root way || not (holds ROOT_ONLY.0 p)) (is_held policies way who p || (is_held policies way who WRITE.0 && holds (full_set (on_root way)) p)) decided).1

-- ---- denies of a proper state

entry_fits : (entry : AclEntry) → is_sound_entry entry ≡ true → entry.deny.0 < 2 ^ 32
entry_fits entry sound =
    let parts = and_parts (are_permissions entry.grant) (are_permissions entry.deny) sound in
    let same : bit_and 2035711 entry.deny.0 ≡ entry.deny.0 = eqb-true (bit_and 2035711 entry.deny.0) entry.deny.0 parts.1 in
    let least : bit_and 2035711 entry.deny.0 ≤ 2035711 = and_le_l 2035711 entry.deny.0 in
    omega (arith, same, least)

entries_fit : (entries : List AclEntry) → list_all is_sound_entry entries ≡ true → All (λ entry. entry.deny.0 < 2 ^ 32) entries
entries_fit [] sound = All-nil (λ (entry : AclEntry). entry.deny.0 < 2 ^ 32)
entries_fit (entry ∷ entries) sound =
    let parts = and_parts (is_sound_entry entry) (list_all is_sound_entry entries) sound in
    All-cons (λ (one : AclEntry). one.deny.0 < 2 ^ 32) entry entries (entry_fits entry parts.0) (entries_fit entries parts.1)

sound_of : (p : PolicyRow → Bool) (rows : List PolicyRow) (policy : ChannelPolicy) → option_map (λ row. row.policy) (find p rows) ≡ Some policy
    → list_all (λ row. is_sound_policy row.policy) rows ≡ true → is_sound_policy policy ≡ true
sound_of p [] policy found sound = cc
sound_of p (row ∷ rows) policy found sound =
    let (first, rest) = and_parts (is_sound_policy row.policy) (list_all (λ (one : PolicyRow). is_sound_policy one.policy) rows) sound in
    step (p row) found first (λ later. sound_of p rows policy later rest)
  where
    some_is : (one other : ChannelPolicy) → Some one ≡ Some other → one ≡ other
    some_is one other same = cc

    step : (b : Bool) → option_map (λ (one : PolicyRow). one.policy) (cond b (Some row) (find p rows)) ≡ Some policy → is_sound_policy row.policy ≡ true
        → (option_map (λ (one : PolicyRow). one.policy) (find p rows) ≡ Some policy → is_sound_policy policy ≡ true) → is_sound_policy policy ≡ true
    step true here first later = ap is_sound_policy (sym (some_is row.policy policy here)) ∙ first
    step false there first later = later there

denies_fit : (state : StateValue) → IsProper state → AreDeniesIn32Bits (policy_of state)
denies_fit state proper id policy found =
    let sound = sound_of (λ row. row.channel.0 == id.0) state.policies policy found proper.sound_policies in
    entries_fit policy.acls (and_parts (not (is_large_policy policy) && list_all (λ group. is_name group.name) policy.groups) (list_all is_sound_entry policy.acls) sound).1

pub rights_are_by_lists_lem : RightsAreByLists
rights_are_by_lists_lem state user tokens perm channel proper is had =
    by_lists (policy_of state) (path state.tree.channels channel) (actor_with state.tree user tokens) perm.0 (denies_fit state proper) is
    (and_parts (is_there state.tree.channels channel) (holds (granted_to state (actor_with state.tree user tokens) channel) perm.0) had).1
