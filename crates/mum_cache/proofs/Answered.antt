-- An answer about a permission, and what is kept with it.
use Rattle.mum_cache.proofs.Common.{◌≡◌, ℕ, zero, suc, ◌+◌, ◌*◌, ◌<◌, ◌≤◌, Bool, true, false, cond, List, [], ◌∷◌, length, get_or, is_some, set, slice_get, refl, sym, ap, subst, ◌∙◌, arith, Option, Some, inl, inr, ◌==◌, ◌&&◌, option_map, and_parts, cases_eq, eq-eqb, eqb-true, get_or-set_other, get_or-set_same, same_Some, slice_get-get_or, ChannelId, SessionId, Slot, Perm, row_of, root_row, Row, User, session_of, perm_of, visits_of, IsProper, StateValue, shown, session_known, place_within, row_at, slot_below, Key, PermEntry, IsKey, answers_key, ArePermsSound, PermSound, PermStands, answers, index_of, kept_at, no_perm, perm_at, perm_entry, perm_index, visits_at, count_of, place_of, slot_of}
use Rattle.mum_cache.proofs.{Others.is_placed, Others.is_seated, Others.place_is, Others.slot_at, Others.slot_is, Staying.one_of}

pub set_itself : {X : Type 0} (xs : List X) (i : ℕ) (d : X) → i < length xs → set xs i (get_or xs i d) ≡ xs
set_itself [] i d within = absurd (omega arith)
set_itself (x ∷ xs) zero d within = refl
set_itself (x ∷ xs) (suc i) d within = ap (λ (ys : List _). x ∷ ys) (set_itself xs i d (omega arith))

pub get_same : {X : Type 0} (xs : List X) (i : ℕ) (d e : X) → i < length xs → get_or xs i d ≡ get_or xs i e
get_same [] i d e within = absurd (omega arith)
get_same (x ∷ xs) zero d e within = refl
get_same (x ∷ xs) (suc i) d e within = get_same xs i d e (omega arith)

-- the key of a session and a channel that are there
pub key_is : (state : StateValue) (session : SessionId) (channel : ChannelId) (user : User) (place policy count : ℕ) → IsProper state
    → session_of state.roster session ≡ Some user → option_map (λ row. row.place) (row_of state.tree.channels channel) ≡ Some place
    → policy ≡ state.counts.policy → slice_get state.counts.slots user.slot.0 ≡ Some count
    → IsKey state session channel (record { index = place * 512 + user.slot.0; policy = policy; count = count })
key_is state session channel user place policy count proper found placed same counted =
    let (row, known, at) = shown (λ (one : Row). one.place) (row_of state.tree.channels channel) place placed in
    let low : user.slot.0 < 512 = slot_below state.roster session user proper.roster found in
    let near : place < 2048 = place_within state channel place proper placed in
    let slot : slot_of state session ≡ user.slot.0 = slot_is state session user found in
    let spot : place_of state channel ≡ place = place_is state channel row known ∙ at in
    let each : length state.counts.slots ≡ 512 = proper.counts.one_each in
    let told : get_or state.counts.slots user.slot.0 0 ≡ count =
    same_Some _ _ (sym (slice_get-get_or state.counts.slots user.slot.0 0 (omega (arith, low, each))) ∙ counted) in
    record {
      proper = proper;
      there = record { session_there = ap (λ (o : Option User). is_some o) found; channel_there = ap (λ (o : Option Row). is_some o) known };
      slot = omega (arith, slot, low);
      place = omega (arith, spot, near);
      index = omega (arith, slot, spot);
      policy = same;
      count = sym (ap (λ (n : ℕ). get_or state.counts.slots n 0) slot ∙ told);
    }

module _ (state : StateValue) (session : SessionId) (channel : ChannelId) (key : Key) (is : IsKey state session channel key) where
  pub index_within : index_of state session channel < 1048576
  index_within = let slot = is.slot in let place = is.place in omega (arith, slot, place)

  -- ---- the entry that answers

  pub answers_is : (entry : PermEntry) → answers_key session channel key entry ≡ answers state session channel entry
  answers_is entry = λ i.
      entry.used && (entry.session.0 == session.0) && (entry.channel.0 == channel.0) && (entry.policy == is.policy i) && (entry.count == is.count i)

  pub entry_is : (entry : PermEntry) → answers state session channel entry ≡ true → entry ≡ perm_entry state session channel entry.value
  entry_is entry so =
      let (first, count) = and_parts _ _ so in
      let (second, policy) = and_parts _ _ first in
      let (third, at) = and_parts _ _ second in
      let (used, own) = and_parts _ _ third in
      let counts = eqb-true _ _ count in
      let policies = eqb-true _ _ policy in
      let channels = eqb-true _ _ at in
      let sessions = eqb-true _ _ own in
      λ i. record { used = used i; session = record { 0 = sessions i }; channel = record { 0 = channels i }; policy = policies i; count = counts i; value = entry.value }

  own_stands : (value : Perm) → PermStands state (slot_of state session) (perm_entry state session channel value)
  own_stands value =
      let (user, found) = one_of (session_of state.roster session) is.there.session_there in
      record {
        seated = is_seated state session user found ∙ ap (λ (n : ℕ). Some (slot_at n)) (sym (slot_is state session user found));
        there = is.there.channel_there;
        policy = refl;
        count = refl;
      }

  own_answers : (value : Perm) → answers state session channel (perm_entry state session channel value) ≡ true
  own_answers value = λ i.
      true && eq-eqb session.0 session.0 refl i && eq-eqb channel.0 channel.0 refl i
      && eq-eqb state.counts.policy state.counts.policy refl i && eq-eqb (count_of state (slot_of state session)) (count_of state (slot_of state session)) refl i

  -- where it is sound, its value is right
  pub kept_is : (entries : List PermEntry) → ArePermsSound state entries → answers state session channel (kept_at state session channel entries) ≡ true
      → perm_of state session channel ≡ Some (kept_at state session channel entries).value.0
  kept_is entries sound so =
      let entry = kept_at state session channel entries in
      let same : entry ≡ perm_entry state session channel entry.value = entry_is entry so in
      let right : PermSound state (slot_of state session) (place_of state channel) (perm_entry state session channel entry.value) =
      subst (λ (one : PermEntry). PermSound state (slot_of state session) (place_of state channel) one) same
      (sound (slot_of state session) (place_of state channel) is.slot is.place (ap (λ (one : PermEntry). one.used) same)) in
      right.value (own_stands entry.value)

  -- ---- what is kept

  own_sound : (value : Perm) → perm_of state session channel ≡ Some value.0
      → PermSound state (slot_of state session) (place_of state channel) (perm_entry state session channel value)
  own_sound value told =
      let (user, found) = one_of (session_of state.roster session) is.there.session_there in
      let (row, known) = one_of (row_of state.tree.channels channel) is.there.channel_there in
      let (at, so) = row_at state.tree.channels channel row.place (is_placed state channel row known) in
      record {
        policy = omega arith;
        count = omega arith;
        session_given = session_known state session user is.proper found;
        channel_given = subst (λ (one : ChannelId). one.0 ≤ state.tree.greatest) (so.same root_row) (is.proper.tree.known at root_row so.within);
        seated = λ own in_it.
            ap (λ (s : Slot). s.0) (same_Some _ _ (sym in_it ∙ is_seated state session user found)) ∙ sym (slot_is state session user found);
        placed = λ own in_it.
            same_Some _ _ (sym in_it ∙ is_placed state channel row known) ∙ sym (place_is state channel row known);
        value = λ stands. told;
      }

  pub answered_sound : (entries : List PermEntry) (value : Perm) → length entries ≡ 1048576 → perm_of state session channel ≡ Some value.0 → ArePermsSound state entries
      → ArePermsSound state (set entries (index_of state session channel) (perm_entry state session channel value))
  answered_sound entries value room told sound slot place within inside used =
      let new = perm_entry state session channel value in
      let here = index_of state session channel in
      let near : here < 1048576 = index_within in
      let low : slot_of state session < 512 = is.slot in
      elim (cases_eq (perm_index slot place) (index_of state session channel)) [
        | inl same ↦
            let at : perm_at (set entries here new) slot place ≡ new =
            ap (λ (i : ℕ). get_or (set entries here new) i no_perm) same ∙ get_or-set_same entries here new no_perm (omega (arith, room, near)) in
            let slots : slot_of state session ≡ slot = omega (arith, same, within, low) in
            let places : place_of state channel ≡ place = omega (arith, same, within, low) in
            subst (λ (one : PermEntry). PermSound state slot place one) (sym at)
            (subst (λ (s : ℕ). PermSound state s place new) slots
            (subst (λ (p : ℕ). PermSound state (slot_of state session) p new) places (own_sound value told)))
        | inr off ↦
            let stays : perm_at (set entries here new) slot place ≡ perm_at entries slot place =
            get_or-set_other entries here (perm_index slot place) new no_perm off in
            subst (λ (one : PermEntry). PermSound state slot place one) (sym stays)
            (sound slot place within inside (sym (ap (λ (one : PermEntry). one.used) stays) ∙ used))
      ]

  -- an answer that is kept answers
  pub answered_answers : (entries : List PermEntry) (value : Perm) → length entries ≡ 1048576
      → answers state session channel (kept_at state session channel (set entries (index_of state session channel) (perm_entry state session channel value))) ≡ true
  answered_answers entries value room =
      let near : index_of state session channel < 1048576 = index_within in
      ap (answers state session channel) (get_or-set_same entries (index_of state session channel) (perm_entry state session channel value) no_perm (omega (arith, room, near)))
      ∙ own_answers value

  -- ---- the steps

  pub none_read : (entries : List PermEntry) → answers state session channel (kept_at state session channel entries) ≡ true → visits_at state session channel entries ≡ 0
  none_read entries so = ap (λ (b : Bool). cond b 0 (visits_of state session channel)) so

  pub all_read : (entries : List PermEntry) → answers state session channel (kept_at state session channel entries) ≡ false
      → visits_at state session channel entries ≡ visits_of state session channel
  all_read entries so = ap (λ (b : Bool). cond b 0 (visits_of state session channel)) so
