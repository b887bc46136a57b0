-- The masks of listeners after a call, as code finds the row of its session.
use Rattle.mum_users.proofs.Common.{◌≡◌, ℕ, Bool, true, false, ◌&&◌, ◌||◌, not, eqb, List, [], ◌∷◌, get_or, set, Some, refl, sym, ap, subst, ◌∙◌, arith, filter, find, list_any, position, eqb-true, nat_tests, any-filter_same, ChannelId, SessionId, is_among, ListenerPair, MaskRow, SessionSlot, SLOTS, User, UserEdit, changed_user, not_listening, pairs_after, staying, listening, pair_below, with_pair, IsKept, left, AreMasks, has_listener_at, with_pairs, with_slot, without_pairs, without_slot, RosterState, has_number, is_of_session, is_pair}
use Rattle.mum_users.proofs.{Edits.listed-put, Edits.listed-staying, ListenerMasks.AreMasks-listening, ListenerMasks.AreMasks-not_listening, ListenerMasks.AreMasks-relistened, ListenerMasks.AreMasks-unlistened, ListenerMasks.among_same, ListenerMasks.listens_in, Members.AreMasks-same, Members.among, Rosters.found_row, Rosters.listeners-mapped, Rosters.set-changed, Silence.changed_user_keeps, Told.listed-left, Told.others-staying, Told.others_listen_as_before_lem}

find_passes : (session : SessionId) (users : List User) (row : User) → find (has_number session) users ≡ Some row → has_number session row ≡ true
find_passes session [] row found = absurd (cc)
find_passes session (user ∷ users) row found = split (has_number session user) refl (find_passes session users row)
  where
    split : (b : Bool) → has_number session user ≡ b → (find (has_number session) users ≡ Some row → has_number session row ≡ true) → has_number session row ≡ true
    split true e rest =
        let is : Some user ≡ Some row = rw e at found in
        let same : user ≡ row = cc in
        subst (λ (u : User). has_number session u ≡ true) same e
    split false e rest = let is : find (has_number session) users ≡ Some row = rw e at found in rest is

no_more : (b : Bool) → (b || false) ≡ b
no_more true = refl
no_more false = refl

-- a session that goes leaves what the others listen to
others_stay : (session : SessionId) (pairs : List ListenerPair) (c : ChannelId) (user : User) → has_number session user ≡ false → listens_in (filter (λ pair. not (is_of_session session pair)) pairs) c user ≡ listens_in pairs c user
others_stay session pairs c user apart =
    any-filter_same (is_pair user.session c) (λ pair. not (is_of_session session pair)) true (λ pair is. differ pair is) pairs
  where
    differ : (pair : ListenerPair) → is_pair user.session c pair ≡ true → not (is_of_session session pair) ≡ true
    differ pair is = grind (arith, nat_tests)

module _ (state : RosterState) (slots : List SessionSlot) (members : List MaskRow) (room : ℕ) (listening_rows : List MaskRow) (session : SessionId) (seen : List User) (i : ℕ) (user : User) (kept : IsKept state slots members room listening_rows) (e : seen ≡ state.sessions) (found : Some i ≡ position (has_number session) seen) (is : user ≡ get_or state.sessions i user) where
  found_is : find (has_number session) state.sessions ≡ Some user
  found_is = found_row state session seen i user e found is

  own : user.session.0 ≡ session.0
  own = eqb-true _ _ (find_passes session state.sessions user found_is)

  own_id : user.session ≡ session
  own_id = ap (λ (n : ℕ). record { 0 = n }) own

  pub listeners-left : AreMasks (has_listener_at (left state session)) (without_pairs user.slot.0 (filter (is_of_session session) state.listeners) listening_rows)
  listeners-left =
      AreMasks-same _ _ _ (AreMasks-unlistened SLOTS session state.sessions user kept.rise (kept.proper.numbers session) found_is own state.listeners listening_rows kept.listener_masks)
      (among_same (listens_in state.listeners) (listens_in (filter (λ pair. not (is_of_session session pair)) state.listeners)) session (others_stay session state.listeners) state.sessions)

  pub listeners-more : (channel : ChannelId) → AreMasks (has_listener_at (listening state session channel)) (with_slot channel user.slot.0 listening_rows)
  listeners-more channel =
      AreMasks-listening SLOTS session state.sessions user kept.rise (kept.proper.numbers session) found_is own state.listeners listening_rows kept.listener_masks
      (with_pair pair_below (record { session = session; channel = channel }) state.listeners)
      (λ c u apart. listed-put u.session c (record { session = session; channel = channel }) state.listeners ∙ ap (λ (b : Bool). listens_in state.listeners c u || b) (other c u apart) ∙ no_more (listens_in state.listeners c u))
      channel
      (λ c. listed-put user.session c (record { session = session; channel = channel }) state.listeners ∙ ap (λ (b : Bool). listens_in state.listeners c user || b) (its_own c))
    where
      other : (c : ChannelId) (u : User) → has_number session u ≡ false → is_pair u.session c (record { session = session; channel = channel }) ≡ false
      other c u apart = grind (arith, nat_tests)

      its_own : (c : ChannelId) → is_pair user.session c (record { session = session; channel = channel }) ≡ eqb channel.0 c.0
      its_own c = ap (λ (k : SessionId). is_pair k c (record { session = session; channel = channel })) own_id ∙ itself c
        where
          itself : (c : ChannelId) → is_pair session c (record { session = session; channel = channel }) ≡ eqb channel.0 c.0
          itself c = grind (arith, nat_tests)

  pub listeners-fewer : (channel : ChannelId) → AreMasks (has_listener_at (not_listening state session channel)) (without_slot channel user.slot.0 listening_rows)
  listeners-fewer channel =
      AreMasks-not_listening SLOTS session state.sessions user kept.rise (kept.proper.numbers session) found_is own state.listeners listening_rows kept.listener_masks
      (staying session (channel ∷ []) state.listeners)
      (λ c u apart. others-staying session u.session (turned u apart) (channel ∷ []) c state.listeners)
      channel
      (λ c. ap (λ (k : SessionId). list_any (is_pair k c) (staying session (channel ∷ []) state.listeners)) own_id ∙ step c (eqb channel.0 c.0) refl)
    where
      turned : (u : User) → has_number session u ≡ false → eqb session.0 u.session.0 ≡ false
      turned u apart = grind (arith, nat_tests)

      none : (b : Bool) → (b && not true) ≡ false
      none true = refl
      none false = refl

      all : (b : Bool) → (b && not false) ≡ b
      all true = refl
      all false = refl

      step : (c : ChannelId) (b : Bool) → eqb channel.0 c.0 ≡ b → list_any (is_pair session c) (staying session (channel ∷ []) state.listeners) ≡ (listens_in state.listeners c user && not (eqb channel.0 c.0))
      step c true f =
          let among_it : is_among (channel ∷ []) c ≡ true = rw f refl in
          rw f (listed-left session (channel ∷ []) c state.listeners among_it ∙ sym (none (listens_in state.listeners c user)))
      step c false f =
          let not_it : is_among (channel ∷ []) c ≡ false = rw f refl in
          rw f (listed-staying session (channel ∷ []) c state.listeners not_it ∙ ap (λ (k : SessionId). list_any (is_pair k c) state.listeners) (sym own_id) ∙ sym (all (listens_in state.listeners c user)))

  pub listeners-edited : (change : UserEdit) → AreMasks (among (listens_in (pairs_after session change state.listeners)) state.sessions)
      (with_pairs user.slot.0 (filter (is_of_session session) (pairs_after session change state.listeners)) (without_pairs user.slot.0 (filter (is_of_session session) state.listeners) listening_rows))
  listeners-edited change =
      AreMasks-relistened SLOTS session state.sessions user kept.rise (kept.proper.numbers session) found_is own state.listeners listening_rows kept.listener_masks
      (pairs_after session change state.listeners)
      (λ c u apart. others_listen_as_before_lem state session change u.session c (λ same. cc (differ u apart same)))
    where
      differ : (u : User) → has_number session u ≡ false → session.0 ≡ u.session.0 → true ≡ false
      differ u apart same = grind (arith, nat_tests)

  -- the same, where code keeps what the session listened to before
  pub listeners-changed : (change : UserEdit) (pairs before : List ListenerPair) (rows : List MaskRow) → pairs ≡ pairs_after session change state.listeners → before ≡ filter (is_of_session session) state.listeners
      → rows ≡ with_pairs user.slot.0 (filter (is_of_session session) pairs) (without_pairs user.slot.0 before listening_rows)
      → AreMasks (has_listener_at (record state { sessions = set state.sessions i (changed_user change user); listeners = pairs })) rows
  listeners-changed change pairs before rows pairs_is before_is rows_is =
      subst (λ (users : List User). AreMasks (among (listens_in pairs) users) rows) (sym (set-changed state session (changed_user change) seen i user kept.proper e found is))
      (listeners-mapped state session (changed_user change) (changed_user_keeps change) pairs rows
      (rw (rows_is, before_is, pairs_is) (listeners-edited change)))
