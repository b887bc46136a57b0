-- A call is refused exactly where it would not leave a proper roster.
use Rattle.mum_users.proofs.Common.{◌≡◌, ℕ, ◌+◌, ◌-◌, ◌<◌, ◌≤◌, ◌^◌, ◌↔◌, Bool, true, false, not, cond, eqb, leb, ltb, List, [], ◌∷◌, length, Some, None, refl, sym, ap, subst, ◌∙◌, arith, count_by, filter, list_any, bytes_eq, le-ltb, leb-false, lt-leb, ne_eqb, nat_tests, length-insert, bytes_eq-Decides, ChannelId, SessionId, ListenerPair, CHANNEL_LISTENERS, LISTENED_CHANNELS, Full, ListenerLimit, NameInUse, SessionsUsedUp, TargetId, TargetSize, UserListenerLimit, Target, TargetRow, LAST_TARGET, edit_fault, edited, is_crowded, pairs_after, EditsWhereProper, JoinsWhereProper, ListensWhereProper, TargetsWhereProper, UnsetStaysProper, free_slot, join_fault, joined, next_number, next_slot, listen_fault, listening, listens, pair_below, with_pair, IsProper, is_sound, RosterState, has_name, is_of_channel, is_of_session, is_target, joining, is_oversize, target_below, target_fault, targeted, with_target}
use Rattle.mum_users.proofs.{Edits.IsProper-edited_allowed, PairCounts.count-put_new, PairCounts.listed-stays, Counts.count_by-cons, Counts.count_by-insert, Counts.some_from, Rosters.IsProper-fewer_targets, Rosters.IsProper-joined, Rosters.IsProper-listening, Rosters.IsProper-with_target, Slots.SlotsRise-within, Slots.free_slot_from-le}

-- ---- several parts at once

none_crowded : (pairs : List ListenerPair) (channels : List ChannelId) → ((channel : ChannelId) → count_by (is_of_channel channel) pairs ≤ CHANNEL_LISTENERS) → list_any (is_crowded pairs) channels ≡ false
none_crowded pairs [] few = refl
none_crowded pairs (channel ∷ channels) few = let head : is_crowded pairs channel ≡ false = le-ltb _ _ (few channel) in rw head (none_crowded pairs channels few)

pub edits_where_proper_lem : EditsWhereProper
edits_where_proper_lem state session change proper here = (IsProper-edited_allowed state session change proper here, from)
  where
    from : IsProper (edited state session change) → edit_fault state session change ≡ None
    from after = rw (here, none_crowded (pairs_after session change state.listeners) change.listen after.few_listeners, le-ltb _ _ (after.few_channels session)) refl

-- ---- listening

pub listens_where_proper_lem : ListensWhereProper
listens_where_proper_lem state session channel proper here = cases (listens state session channel) refl
  where
    cases : (b : Bool) → listens state session channel ≡ b → (listen_fault state session channel ≡ None) ↔ IsProper (listening state session channel)
    cases true e = (
      λ none. subst (λ (ps : List ListenerPair). IsProper (record state { listeners = ps })) (sym (listed-stays (record { session = session; channel = channel }) state.listeners proper.listeners_rise e)) proper,
      λ after. rw (here, e) refl,
    )
    cases false e = (to _ _ refl refl, from)
      where
        of_channel : is_of_channel channel (record { session = session; channel = channel }) ≡ true
        of_channel = grind (arith, nat_tests)

        of_session : is_of_session session (record { session = session; channel = channel }) ≡ true
        of_session = grind (arith, nat_tests)

        to : (full many : Bool) → leb CHANNEL_LISTENERS (count_by (is_of_channel channel) state.listeners) ≡ full → leb LISTENED_CHANNELS (count_by (is_of_session session) state.listeners) ≡ many → listen_fault state session channel ≡ None → IsProper (listening state session channel)
        to true many f g none = let refused : listen_fault state session channel ≡ Some ListenerLimit = rw (here, e, f) refl in absurd (cc)
        to false true f g none = let refused : listen_fault state session channel ≡ Some UserListenerLimit = rw (here, e, f, g) refl in absurd (cc)
        to false false f g none = IsProper-listening state session channel proper here e (leb-false _ _ f) (leb-false _ _ g)

        one_more : (p : ListenerPair → Bool) → p (record { session = session; channel = channel }) ≡ true → count_by p (with_pair pair_below (record { session = session; channel = channel }) state.listeners) ≡ count_by p state.listeners + 1
        one_more p is = count-put_new p (record { session = session; channel = channel }) state.listeners proper.listeners_rise e ∙ ap (λ (b : Bool). count_by p state.listeners + cond b 1 0) is

        from : IsProper (listening state session channel) → listen_fault state session channel ≡ None
        from after =
            let room : leb CHANNEL_LISTENERS (count_by (is_of_channel channel) state.listeners) ≡ false = below _ _ (omega (arith, one_more (is_of_channel channel) of_channel, after.few_listeners channel)) in
            let own_room : leb LISTENED_CHANNELS (count_by (is_of_session session) state.listeners) ≡ false = below _ _ (omega (arith, one_more (is_of_session session) of_session, after.few_channels session)) in
            rw (here, e, room, own_room) refl
          where
            below : (n m : ℕ) → m < n → leb n m ≡ false
            below n m lt = grind (arith, nat_tests)

-- ---- joining

pub joins_where_proper_lem : JoinsWhereProper
joins_where_proper_lem state name account tokens proper = (to _ _ _ refl refl refl, from)
  where
    to : (named full used : Bool) → list_any (has_name name) state.sessions ≡ named → leb state.limit (length state.sessions) ≡ full → leb (2 ^ 32 - 1) state.last ≡ used → join_fault state name ≡ None → IsProper (joined state name account tokens)
    to true full used e f g none = let refused : join_fault state name ≡ Some NameInUse = rw e refl in absurd (cc)
    to false true used e f g none = let refused : join_fault state name ≡ Some Full = rw (e, f) refl in absurd (cc)
    to false false true e f g none = let refused : join_fault state name ≡ Some SessionsUsedUp = rw (e, f, g) refl in absurd (cc)
    to false false false e f g none = IsProper-joined state name account tokens proper e (leb-false _ _ f) (leb-false _ _ g)

    itself : bytes_eq name name ≡ true
    itself = (bytes_eq-Decides name name).1 refl

    from : IsProper (joined state name account tokens) → join_fault state name ≡ None
    from after =
        let named_count : count_by (has_name name) (joined state name account tokens).sessions ≡ count_by (has_name name) state.sessions + cond (bytes_eq name name) 1 0 =
        count_by-insert (has_name name) state.sessions (free_slot state) (joining (next_number state) (next_slot state) name account tokens) in
        let unnamed : list_any (has_name name) state.sessions ≡ false = unused (list_any (has_name name) state.sessions) refl (omega (arith, named_count, after.names name, ap (λ (b : Bool). cond {A = ℕ} b 1 0) itself)) in
        let room : leb state.limit (length state.sessions) ≡ false = lt-leb _ _ (omega (arith, SlotsRise-within state.limit 0 (joined state name account tokens).sessions after.slots, length-insert state.sessions (free_slot state) (joining (next_number state) (next_slot state) name account tokens) (omega (arith, free_slot_from-le 0 state.sessions)))) in
        let left : leb (2 ^ 32 - 1) state.last ≡ false = lt-leb _ _ (omega (arith, after.last_fits)) in
        rw (unnamed, room, left) refl
      where
        unused : (b : Bool) → list_any (has_name name) state.sessions ≡ b → count_by (has_name name) state.sessions ≤ 0 → b ≡ false
        unused true e none = absurd (omega (arith, some_from (has_name name) state.sessions e, none))
        unused false e none = refl

-- ---- voice targets

new_counts : (p : TargetRow → Bool) (new : TargetRow) (rows : List TargetRow) → cond (p new) 1 0 ≤ count_by p (with_target new rows)
new_counts p new [] = omega (arith, count_by-cons p new [])
new_counts p new (row ∷ rows) = split (target_below new.session new.id row) (is_target new.session new.id row) refl refl (new_counts p new rows)
  where
    split : (b s : Bool) → target_below new.session new.id row ≡ b → is_target new.session new.id row ≡ s → cond (p new) 1 0 ≤ count_by p (with_target new rows) → cond (p new) 1 0 ≤ count_by p (with_target new (row ∷ rows))
    split true s e f rest = rw e (omega (arith, rest, count_by-cons p row (with_target new rows)))
    split false true e f rest = rw (e, f) (omega (arith, count_by-cons p new rows))
    split false false e f rest = rw (e, f) (omega (arith, count_by-cons p new (row ∷ rows)))

abbrev row_of : SessionId → ℕ → Target → TargetRow
row_of session id target = record { session = session; id = id; target = target }

pub targets_where_proper_lem : TargetsWhereProper
targets_where_proper_lem state session id target proper here some = (to _ _ _ refl refl refl, from)
  where
    items : eqb (length target.items) 0 ≡ false
    items = ne_eqb _ _ (λ none. omega arith)

    set_is : targeted state session id target ≡ record state { targets = with_target (row_of session id target) state.targets }
    set_is = rw items refl

    to : (zero last big : Bool) → eqb id 0 ≡ zero → ltb LAST_TARGET id ≡ last → is_oversize target ≡ big → target_fault state session id target ≡ None → IsProper (targeted state session id target)
    to true last big e f g none = let refused : target_fault state session id target ≡ Some TargetId = rw (here, e) refl in absurd (cc)
    to false true big e f g none = let refused : target_fault state session id target ≡ Some TargetId = rw (here, e, f) refl in absurd (cc)
    to false false true e f g none = let refused : target_fault state session id target ≡ Some TargetSize = rw (here, e, f, g) refl in absurd (cc)
    to false false false e f g none =
        let sound : is_sound (row_of session id target) ≡ true = rw (e, f, items, g) refl in
        subst (λ (s : RosterState). IsProper s) (sym set_is) (IsProper-with_target state (row_of session id target) proper here sound)

    sound_after : IsProper (targeted state session id target) → (b : Bool) → is_sound (row_of session id target) ≡ b → b ≡ true
    sound_after after true e = refl
    sound_after after false e =
        let kept : IsProper (record state { targets = with_target (row_of session id target) state.targets }) = subst (λ (s : RosterState). IsProper s) set_is after in
        absurd (omega (arith, new_counts (λ r. not (is_sound r)) (row_of session id target) state.targets, kept.targets_sound, ap (λ (b : Bool). cond {A = ℕ} (not b) 1 0) e))

    allowed : (zero last big : Bool) → eqb id 0 ≡ zero → ltb LAST_TARGET id ≡ last → is_oversize target ≡ big → is_sound (row_of session id target) ≡ true → target_fault state session id target ≡ None
    allowed true last big e f g sound = let unsound : is_sound (row_of session id target) ≡ false = rw e refl in absurd (cc)
    allowed false true big e f g sound = let unsound : is_sound (row_of session id target) ≡ false = rw (e, f) refl in absurd (cc)
    allowed false false true e f g sound = let unsound : is_sound (row_of session id target) ≡ false = rw (e, f, items, g) refl in absurd (cc)
    allowed false false false e f g sound = rw (here, e, f, g) refl

    from : IsProper (targeted state session id target) → target_fault state session id target ≡ None
    from after = allowed _ _ _ refl refl refl (sound_after after (is_sound (row_of session id target)) refl)

pub unset_stays_proper_lem : UnsetStaysProper
unset_stays_proper_lem state session id target proper none =
    let items : eqb (length target.items) 0 ≡ true = rw none refl in
    let unset : targeted state session id target ≡ record state { targets = filter (λ row. not (is_target session id row)) state.targets } = rw items refl in
    subst (λ (s : RosterState). IsProper s) (sym unset) (IsProper-fewer_targets state (λ row. not (is_target session id row)) proper)
