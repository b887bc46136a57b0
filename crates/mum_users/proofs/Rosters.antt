-- What each call leaves is a proper roster.
use Rattle.mum_users.proofs.Common.{◌≡◌, ℕ, ◌+◌, ◌-◌, ◌<◌, ◌≤◌, ◌^◌, Bool, true, false, not, cond, eqb, leb, ltb, List, [], ◌∷◌, length, get_or, set, map, Option, Some, None, refl, sym, ap, subst, ◌∙◌, arith, inl, inr, count_by, filter, find, list_any, position, position_or_len, bytes_eq, cases_Bool, eqb-true, le-leb, le-ltb, leb-false, lt-leb, ne_eqb, nat_tests, bytes_eq-Decides, SessionId, ChannelId, AccountId, Slot, ROOT, SessionSlot, SLOTS, User, CHANNEL_LISTENERS, LISTENED_CHANNELS, ListenerPair, BySession, TargetRow, AreMasks, has_listener_at, has_member_at, masks_of, with_slot, without_slot, MaskRow, RosterState, has_name, has_number, is_in, is_of, is_of_channel, is_of_session, is_pair, is_target, joining, Full, ListenerLimit, NameInUse, NoSession, SessionsUsedUp, UserListenerLimit, Placement, is_moved, with_placement, with_placements, absent_fault, changed, free_slot, join_fault, joined, left, next_number, next_slot, listen_fault, listening, listens, pair_below, with_pair, LAST_TARGET, is_oversize, target_below, with_target, IsKept, IsNumbered, session_slot, IsProper, SlotsRise, deaf_is_mute, is_sound, row_below}
use Rattle.mum_users.proofs.{Counts.count_by-cons, Counts.count_by-insert, Counts.count_by-filter-le, Counts.count_by-filter_others, Counts.count_by-filter_none, Counts.count_by-map, Counts.none_from, Counts.some_from, ListenerMasks.AreMasks-join_listeners, ListenerMasks.listens_in, Members.AreMasks-joined, Members.AreMasks-masks_of, Members.AreMasks-moved, Members.AreMasks-out, Members.AreMasks-same, Members.among, Members.among-mapped, Members.among-stayed, Members.few_member_rows, Members.room_out, Numbers.IsNumbered-map, Places.absent_from, Places.find-found, Places.present_from, Places.set-position, Slots.SlotsRise-filter, Slots.SlotsRise-higher, Slots.SlotsRise-within, Slots.SlotsRise-map, Slots.SlotsRise-with_placement, Slots.free_slot_from-le, Orders.Rises-filter, Orders.Rises-with_target, Pairs.Rises-put, PairCounts.count-put_new, PairCounts.listed-stays}

-- a change of a row that leaves what the row is found by, and who is deaf stays mute
pub record KeepsIdentity (change : User → User) : Type 0 where
  pub session : (user : User) → (change user).session ≡ user.session
  pub slot : (user : User) → (change user).slot ≡ user.slot
  pub name : (user : User) → (change user).name ≡ user.name
  pub silence : (user : User) → deaf_is_mute user ≡ true → deaf_is_mute (change user) ≡ true

either : {A : Type 0} (g : User → A) (change : User → User) (user : User) (b : Bool) → g (change user) ≡ g user → g (cond b (change user) user) ≡ g user
either g change user true e = e
either g change user false e = refl

either_mute : (change : User → User) (user : User) (b : Bool) → (deaf_is_mute user ≡ true → deaf_is_mute (change user) ≡ true) → deaf_is_mute user ≡ true → deaf_is_mute (cond b (change user) user) ≡ true
either_mute change user true keeps e = keeps e
either_mute change user false keeps e = e

-- where each is mute that is deaf, each is after changes that keep it
mute-mapped : (f : User → User) → ((user : User) → deaf_is_mute user ≡ true → deaf_is_mute (f user) ≡ true) → (users : List User) → count_by (λ user. not (deaf_is_mute user)) users ≡ 0 → count_by (λ user. not (deaf_is_mute user)) (map f users) ≡ 0
mute-mapped f keeps [] none = refl
mute-mapped f keeps (user ∷ users) none = step (deaf_is_mute user) refl (mute-mapped f keeps users)
  where
    counted : count_by (λ u. not (deaf_is_mute u)) (user ∷ users) ≡ cond (not (deaf_is_mute user)) 1 0 + count_by (λ u. not (deaf_is_mute u)) users
    counted = count_by-cons (λ u. not (deaf_is_mute u)) user users

    step : (b : Bool) → deaf_is_mute user ≡ b → (count_by (λ u. not (deaf_is_mute u)) users ≡ 0 → count_by (λ u. not (deaf_is_mute u)) (map f users) ≡ 0) → count_by (λ u. not (deaf_is_mute u)) (map f (user ∷ users)) ≡ 0
    step true e rest =
        omega (arith, rest (omega (arith, counted, none)), count_by-cons (λ u. not (deaf_is_mute u)) (f user) (map f users), ap (λ (b : Bool). cond {A = ℕ} (not b) 1 0) (keeps user e))
    step false e rest = absurd (omega (arith, counted, none, ap (λ (b : Bool). cond {A = ℕ} (not b) 1 0) e))

pub IsProper-mapped : (state : RosterState) (f : User → User) → KeepsIdentity f → IsProper state → IsProper (record state { sessions = map f state.sessions })
IsProper-mapped state f keeps proper =
    let counts : (s : SessionId) → count_by (has_number s) (map f state.sessions) ≡ count_by (has_number s) state.sessions =
    λ s. count_by-map (has_number s) f (λ user. ap (λ (n : SessionId). eqb n.0 s.0) (keeps.session user)) state.sessions in
    let names : (n : List ℕ) → count_by (has_name n) (map f state.sessions) ≡ count_by (has_name n) state.sessions =
    λ n. count_by-map (has_name n) f (λ user. ap (λ (m : List ℕ). bytes_eq m n) (keeps.name user)) state.sessions in
    record {
      limit_fits = proper.limit_fits;
      deaf_are_mute = mute-mapped f keeps.silence state.sessions proper.deaf_are_mute;
      slots = SlotsRise-map state.limit f (λ user. ap (λ s. s.0) (keeps.slot user)) 0 state.sessions proper.slots;
      numbers = λ s. rw (counts s) (proper.numbers s);
      names = λ n. rw (names n) (proper.names n);
      given = λ s lt. counts s ∙ proper.given s lt;
      last_fits = proper.last_fits;
      listeners_here = λ s none. proper.listeners_here s (sym (counts s) ∙ none);
      few_listeners = proper.few_listeners;
      few_channels = proper.few_channels;
      listeners_rise = proper.listeners_rise;
      targets_here = λ s none. proper.targets_here s (sym (counts s) ∙ none);
      targets_sound = proper.targets_sound;
      targets_rise = proper.targets_rise;
    }

pub IsProper-changed : (state : RosterState) (session : SessionId) (change : User → User) → KeepsIdentity change → IsProper state → IsProper (changed state session change)
IsProper-changed state session change keeps proper =
    IsProper-mapped state (λ user. cond (has_number session user) (change user) user) (record {
      session = λ user. either (λ u. u.session) change user (has_number session user) (keeps.session user);
      slot = λ user. either (λ u. u.slot) change user (has_number session user) (keeps.slot user);
      name = λ user. either (λ u. u.name) change user (has_number session user) (keeps.name user);
      silence = λ user. either_mute change user (has_number session user) (keeps.silence user);
    }) proper

-- the slots of a proper roster are below the greatest limit
pub slots_below_greatest : (state : RosterState) → IsProper state → SlotsRise SLOTS 0 state.sessions
slots_below_greatest state proper = SlotsRise-higher state.limit SLOTS proper.limit_fits 0 state.sessions proper.slots

-- a higher limit leaves a proper roster
pub IsProper-limited : (state : RosterState) (limit : ℕ) → state.limit ≤ limit → limit ≤ SLOTS → IsProper state → IsProper (record state { limit = limit })
IsProper-limited state limit rises within proper = record {
  limit_fits = within;
  slots = SlotsRise-higher state.limit limit rises 0 state.sessions proper.slots;
  numbers = proper.numbers;
  names = proper.names;
  given = proper.given;
  last_fits = proper.last_fits;
  deaf_are_mute = proper.deaf_are_mute;
  listeners_here = proper.listeners_here;
  few_listeners = proper.few_listeners;
  few_channels = proper.few_channels;
  listeners_rise = proper.listeners_rise;
  targets_here = proper.targets_here;
  targets_sound = proper.targets_sound;
  targets_rise = proper.targets_rise;
}

pub IsKept-of : (state : RosterState) (slots : List SessionSlot) (members : List MaskRow) (room : ℕ) (listening : List MaskRow) → IsProper state → IsNumbered state.sessions slots → AreMasks (has_member_at state) members → SLOTS ≤ room → AreMasks (has_listener_at state) listening → IsKept state slots members room listening
IsKept-of state slots members room listening proper numbered masks enough listeners = record { proper = proper; rise = slots_below_greatest state proper; numbered = numbered; member_masks = masks; enough = enough; listener_masks = listeners }

-- each session with its placement
pub IsProper-with_placement : (state : RosterState) (placement_of : User → Placement) → IsProper state → IsProper (with_placements placement_of state)
IsProper-with_placement state placement_of proper = IsProper-mapped state (with_placement placement_of) (record { session = λ _. refl; slot = λ _. refl; name = λ _. refl; silence = λ _ e. e }) proper

pub IsKept-with_placement : (state : RosterState) (slots : List SessionSlot) (members after : List MaskRow) (room now : ℕ) (listening : List MaskRow) (placement_of : User → Placement) → IsKept state slots members room listening
    → AreMasks (among is_in (map (with_placement placement_of) state.sessions)) after → room ≤ now → IsKept (with_placements placement_of state) slots after now listening
IsKept-with_placement state slots members after room now listening placement_of kept masks more = record {
  proper = IsProper-with_placement state placement_of kept.proper;
  rise = SlotsRise-map SLOTS (with_placement placement_of) (λ _. refl) 0 state.sessions kept.rise;
  numbered = IsNumbered-map (with_placement placement_of) (λ _. refl) state.sessions slots kept.numbered;
  member_masks = masks;
  enough = omega (arith, kept.enough, more);
  listener_masks = AreMasks-same (among (listens_in state.listeners) state.sessions) _ listening kept.listener_masks
      (among-mapped (listens_in state.listeners) (with_placement placement_of) (λ _. refl) (λ _ _. refl) state.sessions);
}

-- the masks are made again
pub IsKept-made : (state : RosterState) (slots : List SessionSlot) (members after : List MaskRow) (room now : ℕ) (listening : List MaskRow) (placement_of : User → Placement) → IsKept state slots members room listening
    → after ≡ masks_of (map (with_placement placement_of) state.sessions) → room ≤ now → IsKept (with_placements placement_of state) slots after now listening
IsKept-made state slots members after room now listening placement_of kept after_is more =
    IsKept-with_placement state slots members after room now listening placement_of kept (rw after_is (AreMasks-masks_of (map (with_placement placement_of) state.sessions))) more

-- where all stay in their channels, so do the masks
pub IsKept-stayed : (state : RosterState) (slots : List SessionSlot) (members : List MaskRow) (room : ℕ) (listening : List MaskRow) (placement_of : User → Placement) → IsKept state slots members room listening
    → list_any (is_moved placement_of) state.sessions ≡ false → IsKept (with_placements placement_of state) slots members room listening
IsKept-stayed state slots members room listening placement_of kept stayed =
    IsKept-with_placement state slots members members room room listening placement_of kept
    (AreMasks-same (among is_in state.sessions) _ members kept.member_masks (among-stayed placement_of state.sessions stayed)) (omega arith)

-- there is room for a row of each session
pub room_for_all : (state : RosterState) → IsProper state → length state.sessions ≤ SLOTS
room_for_all state proper = omega (arith, SlotsRise-within state.limit 0 state.sessions proper.slots, proper.limit_fits)

-- the same, of the row that code finds and changes at its place
pub set-changed : (state : RosterState) (session : SessionId) (change : User → User) (seen : List User) (i : ℕ) (user : User) → IsProper state → seen ≡ state.sessions → Some i ≡ position (has_number session) seen → user ≡ get_or state.sessions i user → set state.sessions i (change user) ≡ map (λ u. cond (has_number session u) (change u) u) state.sessions
set-changed state session change seen i user proper e found is =
    let place = present_from (has_number session) state.sessions i (rw e at found) in
    let at = place.first in
    let here : change user ≡ change (get_or state.sessions (position_or_len (has_number session) state.sessions) user) = ap change (is ∙ ap (λ (k : ℕ). get_or state.sessions k user) at) in
    ap (λ (x : User). set state.sessions i x) here
    ∙ ap (λ (k : ℕ). set state.sessions k (change (get_or state.sessions (position_or_len (has_number session) state.sessions) user))) at
    ∙ set-position (has_number session) change state.sessions user (proper.numbers session) place.within

pub IsProper-set : (state : RosterState) (session : SessionId) (change : User → User) (seen : List User) (i : ℕ) (user : User) → KeepsIdentity change → IsProper state → seen ≡ state.sessions → Some i ≡ position (has_number session) seen → user ≡ get_or state.sessions i user → IsProper (record state { sessions = set state.sessions i (change user) })
IsProper-set state session change seen i user keeps proper e found is =
    subst (λ (users : List User). IsProper (record state { sessions = users })) (sym (set-changed state session change seen i user proper e found is)) (IsProper-changed state session change keeps proper)

pub IsNumbered-set : (state : RosterState) (slots : List SessionSlot) (session : SessionId) (change : User → User) (seen : List User) (i : ℕ) (user : User) → KeepsIdentity change → IsProper state → IsNumbered state.sessions slots → seen ≡ state.sessions → Some i ≡ position (has_number session) seen → user ≡ get_or state.sessions i user → IsNumbered (set state.sessions i (change user)) slots
IsNumbered-set state slots session change seen i user keeps proper numbered e found is =
    let made : SessionId → Slot → SessionSlot = λ s t. record { session = s; slot = t } in
    let same : (u : User) → session_slot (cond (has_number session u) (change u) u) ≡ session_slot u =
    λ u. either session_slot change u (has_number session u) (ap (λ s. made s (change u).slot) (keeps.session u) ∙ ap (λ t. made u.session t) (keeps.slot u)) in
    subst (λ (users : List User). IsNumbered users slots) (sym (set-changed state session change seen i user proper e found is))
    (IsNumbered-map (λ u. cond (has_number session u) (change u) u) same state.sessions slots numbered)

either_in : (change : User → User) (c : ChannelId) (user : User) (b : Bool) → (change user).channel ≡ user.channel → is_in c (cond b (change user) user) ≡ is_in c user
either_in change c user true e = ap (λ (k : ChannelId). eqb k.0 c.0) e
either_in change c user false e = refl

-- who listens to what stays
pub listeners-mapped : (state : RosterState) (session : SessionId) (change : User → User) → KeepsIdentity change → (pairs : List ListenerPair) (listening : List MaskRow) → AreMasks (among (listens_in pairs) state.sessions) listening → AreMasks (among (listens_in pairs) (map (λ u. cond (has_number session u) (change u) u) state.sessions)) listening
listeners-mapped state session change keeps pairs listening masks =
    AreMasks-same (among (listens_in pairs) state.sessions) _ listening masks
    (among-mapped (listens_in pairs) (λ u. cond (has_number session u) (change u) u) (λ u. ap (λ (k : Slot). k.0) (either (λ v. v.slot) change u (has_number session u) (keeps.slot u)))
    (λ c u. ap (λ (k : SessionId). list_any (is_pair k c) pairs) (either (λ v. v.session) change u (has_number session u) (keeps.session u))) state.sessions)

pub listeners-set : (state : RosterState) (session : SessionId) (change : User → User) (seen : List User) (i : ℕ) (user : User) → KeepsIdentity change → IsProper state → seen ≡ state.sessions → Some i ≡ position (has_number session) seen → user ≡ get_or state.sessions i user → (listening : List MaskRow) → AreMasks (has_listener_at state) listening → AreMasks (has_listener_at (record state { sessions = set state.sessions i (change user) })) listening
listeners-set state session change seen i user keeps proper e found is listening masks =
    subst (λ (users : List User). AreMasks (among (listens_in state.listeners) users) listening) (sym (set-changed state session change seen i user proper e found is))
    (listeners-mapped state session change keeps state.listeners listening masks)

-- where the session stays in its channel, the masks stay
pub IsKept-set : (state : RosterState) (slots : List SessionSlot) (members : List MaskRow) (room : ℕ) (listening : List MaskRow) (session : SessionId) (change : User → User) (seen : List User) (i : ℕ) (user : User) → KeepsIdentity change → ((u : User) → (change u).channel ≡ u.channel) → IsKept state slots members room listening → seen ≡ state.sessions → Some i ≡ position (has_number session) seen → user ≡ get_or state.sessions i user → IsKept (record state { sessions = set state.sessions i (change user) }) slots members room listening
IsKept-set state slots members room listening session change seen i user keeps stays kept e found is = record {
  proper = IsProper-set state session change seen i user keeps kept.proper e found is;
  rise = slots_below_greatest _ (IsProper-set state session change seen i user keeps kept.proper e found is);
  numbered = IsNumbered-set state slots session change seen i user keeps kept.proper kept.numbered e found is;
  member_masks = subst (λ (users : List User). AreMasks (among is_in users) members) (sym (set-changed state session change seen i user kept.proper e found is))
      (AreMasks-same (among is_in state.sessions) _ members kept.member_masks
      (among-mapped is_in (λ u. cond (has_number session u) (change u) u) (λ u. ap (λ (k : Slot). k.0) (either (λ v. v.slot) change u (has_number session u) (keeps.slot u))) (λ c u. either_in change c u (has_number session u) (stays u)) state.sessions));
  enough = kept.enough;
  listener_masks = listeners-set state session change seen i user keeps kept.proper e found is listening kept.listener_masks;
}

-- the row that code finds is the session's
pub found_row : (state : RosterState) (session : SessionId) (seen : List User) (i : ℕ) (user : User) → seen ≡ state.sessions → Some i ≡ position (has_number session) seen → user ≡ get_or state.sessions i user → find (has_number session) state.sessions ≡ Some user
found_row state session seen i user e found is =
    find-found (has_number session) state.sessions i user (rw e at found) ∙ sym (ap (λ (u : User). Some u) is)

module _ (state : RosterState) (slots : List SessionSlot) (members : List MaskRow) (room : ℕ) (listening : List MaskRow) (session : SessionId) (seen : List User) (i : ℕ) (user : User) (kept : IsKept state slots members room listening) (e : seen ≡ state.sessions) (found : Some i ≡ position (has_number session) seen) (is : user ≡ get_or state.sessions i user) where
  found_is : find (has_number session) state.sessions ≡ Some user
  found_is = found_row state session seen i user e found is

  pub room_to_move : length (without_slot user.channel user.slot.0 members) < room
  room_to_move =
      omega (arith, room_out SLOTS session state.sessions user kept.rise (kept.proper.numbers session) found_is members kept.member_masks, room_for_all state kept.proper, kept.enough)

  pub AreMasks-left : AreMasks (among is_in (filter (λ u. not (has_number session u)) state.sessions)) (without_slot user.channel user.slot.0 members)
  AreMasks-left = AreMasks-out SLOTS session state.sessions user kept.rise (kept.proper.numbers session) found_is members kept.member_masks

  -- a session that goes to another channel
  pub AreMasks-set : (change : User → User) → (change user).slot.0 ≡ user.slot.0 → AreMasks (among is_in (set state.sessions i (change user))) (with_slot (change user).channel user.slot.0 (without_slot user.channel user.slot.0 members))
  AreMasks-set change slot =
      subst (λ (users : List User). AreMasks (among is_in users) (with_slot (change user).channel user.slot.0 (without_slot user.channel user.slot.0 members))) (sym (set-changed state session change seen i user kept.proper e found is))
      (AreMasks-moved SLOTS session state.sessions user kept.rise (kept.proper.numbers session) found_is members kept.member_masks change slot)

  pub IsKept-moved : (change : User → User) (after : List MaskRow) (now : ℕ) → KeepsIdentity change → after ≡ with_slot (change user).channel user.slot.0 (without_slot user.channel user.slot.0 members) → room ≤ now → IsKept (record state { sessions = set state.sessions i (change user) }) slots after now listening
  IsKept-moved change after now keeps after_is more =
      IsKept-of _ slots after now listening
      (IsProper-set state session change seen i user keeps kept.proper e found is)
      (IsNumbered-set state slots session change seen i user keeps kept.proper kept.numbered e found is)
      (rw after_is (AreMasks-set change (ap (λ (k : Slot). k.0) (keeps.slot user))))
      (omega (arith, kept.enough, more))
      (listeners-set state session change seen i user keeps kept.proper e found is listening kept.listener_masks)

-- what a call that changes a row answers, where code finds the row, and where it finds none
pub found : (state now : RosterState) (session : SessionId) (change : User → User) (seen : List User) (i : ℕ) (user : User) → state ≡ now → IsProper state → seen ≡ state.sessions → Some i ≡ position (has_number session) seen → user ≡ get_or state.sessions i user → (absent_fault now session ≡ None) × (record state { sessions = set state.sessions i (change user) } ≡ changed now session change)
found state now session change seen i user same proper e spot is =
    let there : list_any (has_number session) state.sessions ≡ true = (present_from (has_number session) state.sessions i (rw e at spot)).there in
    rw (← same) (
      ap (λ (b : Bool). cond b None (Some NoSession)) there,
      ap (λ (users : List User). record state { sessions = users }) (set-changed state session change seen i user proper e spot is),
    )

pub here_from : (state now : RosterState) (session : SessionId) (seen : List User) (i : ℕ) → state ≡ now → seen ≡ state.sessions → Some i ≡ position (has_number session) seen → absent_fault now session ≡ None
here_from state now session seen i same e spot =
    rw (← same) (ap (λ (b : Bool). cond b None (Some NoSession)) ((present_from (has_number session) state.sessions i (rw e at spot)).there))

pub there_from : (users : List User) (session : SessionId) (seen : List User) (i : ℕ) → seen ≡ users → Some i ≡ position (has_number session) seen → list_any (has_number session) users ≡ true
there_from users session seen i e spot = (present_from (has_number session) users i (rw e at spot)).there

pub not_found : (state now : RosterState) (session : SessionId) (seen : List User) → state ≡ now → seen ≡ state.sessions → None ≡ position (has_number session) seen → absent_fault now session ≡ Some NoSession
not_found state now session seen same e none =
    rw (← same) (ap (λ (b : Bool). cond b None (Some NoSession)) (absent_from (has_number session) state.sessions (rw e at none)))

pub IsProper-left : (state : RosterState) (session : SessionId) → IsProper state → IsProper (left state session)
IsProper-left state session proper =
    let others : User → Bool = λ user. not (has_number session user) in
    let fewer : (p : User → Bool) → count_by p (filter others state.sessions) ≤ count_by p state.sessions = λ p. count_by-filter-le p others state.sessions in
    let stays : (s : SessionId) → eqb s.0 session.0 ≡ false → count_by (has_number s) (filter others state.sessions) ≡ count_by (has_number s) state.sessions =
    λ s apart. count_by-filter_others (has_number s) others (λ user taken. grind (arith, nat_tests)) state.sessions in
    record {
      limit_fits = proper.limit_fits;
      deaf_are_mute = omega (arith, fewer (λ user. not (deaf_is_mute user)), proper.deaf_are_mute);
      slots = SlotsRise-filter state.limit others 0 state.sessions proper.slots;
      numbers = λ s. omega (arith, fewer (has_number s), proper.numbers s);
      names = λ n. omega (arith, fewer (has_name n), proper.names n);
      given = λ s lt. omega (arith, fewer (has_number s), proper.given s lt);
      last_fits = proper.last_fits;
      listeners_here = λ s none. elim (cases_Bool (eqb s.0 session.0)) [
        | inl same ↦ count_by-filter_none (is_of_session s) (λ pair. not (is_of_session session pair)) (λ pair kept. grind (arith, nat_tests)) state.listeners
        | inr apart ↦ omega (arith, count_by-filter-le (is_of_session s) (λ pair. not (is_of_session session pair)) state.listeners, proper.listeners_here s (sym (stays s apart) ∙ none))
      ];
      few_listeners = λ channel. omega (arith, count_by-filter-le (is_of_channel channel) (λ pair. not (is_of_session session pair)) state.listeners, proper.few_listeners channel);
      few_channels = λ s. omega (arith, count_by-filter-le (is_of_session s) (λ pair. not (is_of_session session pair)) state.listeners, proper.few_channels s);
      listeners_rise = Rises-filter pair_below (λ pair. not (is_of_session session pair)) state.listeners proper.listeners_rise;
      targets_here = λ s none. elim (cases_Bool (eqb s.0 session.0)) [
        | inl same ↦ count_by-filter_none (is_of s) (λ row. not (is_of session row)) (λ row kept. grind (arith, nat_tests)) state.targets
        | inr apart ↦ omega (arith, count_by-filter-le (is_of s) (λ row. not (is_of session row)) state.targets, proper.targets_here s (sym (stays s apart) ∙ none))
      ];
      targets_sound = omega (arith, count_by-filter-le (λ row. not (is_sound row)) (λ row. not (is_of session row)) state.targets, proper.targets_sound);
      targets_rise = Rises-filter row_below (λ row. not (is_of session row)) state.targets proper.targets_rise;
    }

-- what holds where a join is allowed
pub join_parts : (state : RosterState) (name : List ℕ) → join_fault state name ≡ None
    → (list_any (has_name name) state.sessions ≡ false) × (length state.sessions < state.limit) × (state.last < 2 ^ 32 - 1)
join_parts state name allowed = parts _ _ _ refl refl refl
  where
    parts : (named full used : Bool) → list_any (has_name name) state.sessions ≡ named → leb state.limit (length state.sessions) ≡ full → leb (2 ^ 32 - 1) state.last ≡ used
        → (list_any (has_name name) state.sessions ≡ false) × (length state.sessions < state.limit) × (state.last < 2 ^ 32 - 1)
    parts true full used e f g = let refused : join_fault state name ≡ Some NameInUse = rw e refl in absurd (cc)
    parts false true used e f g = let refused : join_fault state name ≡ Some Full = rw (e, f) refl in absurd (cc)
    parts false false true e f g = let refused : join_fault state name ≡ Some SessionsUsedUp = rw (e, f, g) refl in absurd (cc)
    parts false false false e f g = (e, leb-false _ _ f, leb-false _ _ g)

module _ (state : RosterState) (name : List ℕ) (account : Option AccountId) (tokens : List (List ℕ)) (proper : IsProper state) (unnamed : list_any (has_name name) state.sessions ≡ false) (room : length state.sessions < state.limit) (left_over : state.last < 2 ^ 32 - 1) where
  counted : (p : User → Bool) → count_by p (joined state name account tokens).sessions ≡ count_by p state.sessions + cond (p (joining (next_number state) (next_slot state) name account tokens)) 1 0
  counted p = count_by-insert p state.sessions (free_slot state) (joining (next_number state) (next_slot state) name account tokens)

  none_named : (other : List ℕ) → bytes_eq name other ≡ true → count_by (has_name other) state.sessions ≡ 0
  none_named other same = subst (λ (n : List ℕ). count_by (has_name n) state.sessions ≡ 0) ((bytes_eq-Decides name other).0 same) (none_from (has_name name) state.sessions unnamed)

  pub IsProper-joined : IsProper (joined state name account tokens)
  IsProper-joined = record {
    limit_fits = proper.limit_fits;
    deaf_are_mute = omega (arith, counted (λ user. not (deaf_is_mute user)), proper.deaf_are_mute);
    slots = SlotsRise-with_placement state.limit 0 (free_slot state) state.sessions _ proper.slots refl (omega (arith, free_slot_from-le 0 state.sessions)) (omega arith);
    numbers = λ s. grind (arith, nat_tests, counted (has_number s), proper.numbers s, proper.given s);
    names = λ n. elim (cases_Bool (bytes_eq name n)) [
      | inl same ↦ omega (arith, counted (has_name n), none_named n same, ap (λ (b : Bool). cond {A = ℕ} b 1 0) same)
      | inr other ↦ omega (arith, counted (has_name n), proper.names n, ap (λ (b : Bool). cond {A = ℕ} b 1 0) other)
    ];
    given = λ s above. grind (arith, nat_tests, counted (has_number s), proper.given s);
    last_fits = omega arith;
    listeners_here = λ s none. proper.listeners_here s (omega (arith, counted (has_number s)));
    few_listeners = proper.few_listeners;
    few_channels = proper.few_channels;
    listeners_rise = proper.listeners_rise;
    targets_here = λ s none. proper.targets_here s (omega (arith, counted (has_number s)));
    targets_sound = proper.targets_sound;
    targets_rise = proper.targets_rise;
  }

-- a session that is here is none of those that are not
pub apart_from : (users : List User) (session other : SessionId) → list_any (has_number session) users ≡ true → count_by (has_number other) users ≡ 0 → eqb session.0 other.0 ≡ false
apart_from users session other here none = elim (cases_Bool (eqb session.0 other.0)) [
  | inl same ↦ absurd (omega (arith, some_from (has_number session) users here, ap (λ (k : ℕ). count_by (λ (user : User). eqb user.session.0 k) users) (eqb-true _ _ same)))
  | inr apart ↦ apart
]

pub IsProper-listening : (state : RosterState) (session : SessionId) (channel : ChannelId) → IsProper state → list_any (has_number session) state.sessions ≡ true → listens state session channel ≡ false → count_by (is_of_channel channel) state.listeners < CHANNEL_LISTENERS → count_by (is_of_session session) state.listeners < LISTENED_CHANNELS → IsProper (record state { listeners = with_pair pair_below (record { session = session; channel = channel }) state.listeners })
IsProper-listening state session channel proper here absent room own_room =
    let counted : (p : ListenerPair → Bool) → count_by p (with_pair pair_below (record { session = session; channel = channel }) state.listeners) ≡ count_by p state.listeners + cond (p (record { session = session; channel = channel })) 1 0 =
    λ p. count-put_new p (record { session = session; channel = channel }) state.listeners proper.listeners_rise absent in
    record {
      limit_fits = proper.limit_fits;
      deaf_are_mute = proper.deaf_are_mute;
      slots = proper.slots;
      numbers = proper.numbers;
      names = proper.names;
      given = proper.given;
      last_fits = proper.last_fits;
      listeners_here = λ s none. omega (arith, counted (is_of_session s), proper.listeners_here s none, ap (λ (b : Bool). cond {A = ℕ} b 1 0) (apart_from state.sessions session s here none));
      few_listeners = λ other. elim (cases_Bool (eqb channel.0 other.0)) [
        | inl same ↦ omega (arith, counted (is_of_channel other), ap (λ (b : Bool). cond {A = ℕ} b 1 0) same, ap (λ (k : ℕ). count_by (λ (pair : ListenerPair). eqb pair.channel.0 k) state.listeners) (eqb-true _ _ same))
        | inr apart ↦ omega (arith, counted (is_of_channel other), ap (λ (b : Bool). cond {A = ℕ} b 1 0) apart, proper.few_listeners other)
      ];
      few_channels = λ other. elim (cases_Bool (eqb session.0 other.0)) [
        | inl same ↦ omega (arith, counted (is_of_session other), ap (λ (b : Bool). cond {A = ℕ} b 1 0) same, ap (λ (k : ℕ). count_by (λ (pair : ListenerPair). eqb pair.session.0 k) state.listeners) (eqb-true _ _ same))
        | inr apart ↦ omega (arith, counted (is_of_session other), ap (λ (b : Bool). cond {A = ℕ} b 1 0) apart, proper.few_channels other)
      ];
      listeners_rise = Rises-put BySession (record { session = session; channel = channel }) state.listeners proper.listeners_rise;
      targets_here = proper.targets_here;
      targets_sound = proper.targets_sound;
      targets_rise = proper.targets_rise;
    }

-- the first cause against listening, as code tests for it
pub absent_listener : (state now : RosterState) (session : SessionId) (channel : ChannelId) (seen : List User) → state ≡ now → seen ≡ state.sessions → None ≡ position (has_number session) seen → listen_fault now session channel ≡ Some NoSession
absent_listener state now session channel seen same e none =
    let gone : list_any (has_number session) state.sessions ≡ false = absent_from (has_number session) state.sessions (rw e at none) in
    rw (← same) (rw gone refl)

module _ (state now : RosterState) (session : SessionId) (channel : ChannelId) (same : state ≡ now) (here : list_any (has_number session) state.sessions ≡ true) (absent : listens state session channel ≡ false) (crowd : ℕ) (crowd_is : crowd ≡ count_by (is_of_channel channel) state.listeners) where
  pub listen_crowded : CHANNEL_LISTENERS ≤ crowd → listen_fault now session channel ≡ Some ListenerLimit
  listen_crowded full =
      let crowded : leb CHANNEL_LISTENERS (count_by (is_of_channel channel) state.listeners) ≡ true = rw crowd_is at (le-leb _ _ full) in
      rw (← same) (rw (here, absent, crowded) refl)

  module _ (few : crowd < CHANNEL_LISTENERS) (own : ℕ) (own_is : own ≡ count_by (is_of_session session) state.listeners) where
    uncrowded : leb CHANNEL_LISTENERS (count_by (is_of_channel channel) state.listeners) ≡ false
    uncrowded = rw crowd_is at (lt-leb _ _ few)

    pub listen_too_many : LISTENED_CHANNELS ≤ own → listen_fault now session channel ≡ Some UserListenerLimit
    listen_too_many many =
        let full : leb LISTENED_CHANNELS (count_by (is_of_session session) state.listeners) ≡ true = rw own_is at (le-leb _ _ many) in
        rw (← same) (rw (here, absent, uncrowded, full) refl)

    pub listen_allowed : own < LISTENED_CHANNELS → listen_fault now session channel ≡ None
    listen_allowed room =
        let left_over : leb LISTENED_CHANNELS (count_by (is_of_session session) state.listeners) ≡ false = rw own_is at (lt-leb _ _ room) in
        rw (← same) (rw (here, absent, uncrowded, left_over) refl)

-- a session that listens already is allowed to, and nothing changes
pub listed_already : (state now : RosterState) (session : SessionId) (channel : ChannelId) → state ≡ now → IsProper state → list_any (has_number session) state.sessions ≡ true → listens state session channel ≡ true → (listen_fault now session channel ≡ None) × (now ≡ listening now session channel)
listed_already state now session channel same proper here there =
    let allowed : listen_fault state session channel ≡ None = rw (here, there) refl in
    let stays = listed-stays (record { session = session; channel = channel }) state.listeners proper.listeners_rise there in
    rw (← same) (allowed, ap (λ (pairs : List ListenerPair). record state { listeners = pairs }) (sym stays))

pub IsProper-fewer_listeners : (state : RosterState) (q : ListenerPair → Bool) → IsProper state → IsProper (record state { listeners = filter q state.listeners })
IsProper-fewer_listeners state q proper = record {
  limit_fits = proper.limit_fits;
  deaf_are_mute = proper.deaf_are_mute;
  slots = proper.slots;
  numbers = proper.numbers;
  names = proper.names;
  given = proper.given;
  last_fits = proper.last_fits;
  listeners_here = λ s none. omega (arith, count_by-filter-le (is_of_session s) q state.listeners, proper.listeners_here s none);
  few_listeners = λ channel. omega (arith, count_by-filter-le (is_of_channel channel) q state.listeners, proper.few_listeners channel);
  few_channels = λ s. omega (arith, count_by-filter-le (is_of_session s) q state.listeners, proper.few_channels s);
  listeners_rise = Rises-filter pair_below q state.listeners proper.listeners_rise;
  targets_here = proper.targets_here;
  targets_sound = proper.targets_sound;
  targets_rise = proper.targets_rise;
}

pub IsProper-fewer_targets : (state : RosterState) (q : TargetRow → Bool) → IsProper state → IsProper (record state { targets = filter q state.targets })
IsProper-fewer_targets state q proper = record {
  limit_fits = proper.limit_fits;
  deaf_are_mute = proper.deaf_are_mute;
  slots = proper.slots;
  numbers = proper.numbers;
  names = proper.names;
  given = proper.given;
  last_fits = proper.last_fits;
  listeners_here = proper.listeners_here;
  few_listeners = proper.few_listeners;
  few_channels = proper.few_channels;
  listeners_rise = proper.listeners_rise;
  targets_here = λ s none. omega (arith, count_by-filter-le (is_of s) q state.targets, proper.targets_here s none);
  targets_sound = omega (arith, count_by-filter-le (λ row. not (is_sound row)) q state.targets, proper.targets_sound);
  targets_rise = Rises-filter row_below q state.targets proper.targets_rise;
}

count_by-with_target-le : (p : TargetRow → Bool) (new : TargetRow) (rows : List TargetRow) → count_by p (with_target new rows) ≤ count_by p rows + cond (p new) 1 0
count_by-with_target-le p new [] = omega (arith, count_by-cons p new [])
count_by-with_target-le p new (row ∷ rows) = split (target_below new.session new.id row) (is_target new.session new.id row) refl refl (count_by-with_target-le p new rows)
  where
    split : (b s : Bool) → target_below new.session new.id row ≡ b → is_target new.session new.id row ≡ s → count_by p (with_target new rows) ≤ count_by p rows + cond (p new) 1 0 → count_by p (with_target new (row ∷ rows)) ≤ count_by p (row ∷ rows) + cond (p new) 1 0
    split true s e f rest = rw e (omega (arith, rest, count_by-cons p row rows, count_by-cons p row (with_target new rows)))
    split false true e f rest = rw (e, f) (omega (arith, count_by-cons p row rows, count_by-cons p new rows))
    split false false e f rest = rw (e, f) (omega (arith, count_by-cons p new (row ∷ rows)))

pub IsProper-with_target : (state : RosterState) (new : TargetRow) → IsProper state → list_any (has_number new.session) state.sessions ≡ true → is_sound new ≡ true → IsProper (record state { targets = with_target new state.targets })
IsProper-with_target state new proper here sound = record {
  limit_fits = proper.limit_fits;
  deaf_are_mute = proper.deaf_are_mute;
  slots = proper.slots;
  numbers = proper.numbers;
  names = proper.names;
  given = proper.given;
  last_fits = proper.last_fits;
  listeners_here = proper.listeners_here;
  few_listeners = proper.few_listeners;
  few_channels = proper.few_channels;
  listeners_rise = proper.listeners_rise;
  targets_here = λ s none. omega (arith, count_by-with_target-le (is_of s) new state.targets, proper.targets_here s none, ap (λ (b : Bool). cond {A = ℕ} b 1 0) (apart_from state.sessions new.session s here none));
  targets_sound = omega (arith, count_by-with_target-le (λ row. not (is_sound row)) new state.targets, proper.targets_sound, ap (λ (b : Bool). cond {A = ℕ} (not b) 1 0) sound);
  targets_rise = Rises-with_target new state.targets proper.targets_rise;
}

pub is_sound-from : (row : TargetRow) → (row.id ≡ 0 → ⊥) → row.id ≤ LAST_TARGET → eqb (length row.target.items) 0 ≡ false → is_oversize row.target ≡ false → is_sound row ≡ true
is_sound-from row some few items size =
    let first : eqb row.id 0 ≡ false = ne_eqb _ _ some in
    let last : ltb LAST_TARGET row.id ≡ false = le-ltb _ _ few in
    rw (first, last, items, size) refl

-- a session that joins
module _ (state : RosterState) (slots : List SessionSlot) (members : List MaskRow) (room : ℕ) (listening : List MaskRow) (name : List ℕ) (account : Option AccountId) (tokens : List (List ℕ)) (kept : IsKept state slots members room listening) (unnamed : list_any (has_name name) state.sessions ≡ false) (under : length state.sessions < state.limit) (left_over : state.last < 2 ^ 32 - 1) where
  pub room_to_join : length members < room
  room_to_join = omega (arith, few_member_rows state.sessions members kept.member_masks, under, kept.proper.limit_fits, kept.enough)

  listens_to_nothing : (c : ChannelId) → list_any (is_pair (next_number state) c) state.listeners ≡ false
  listens_to_nothing c =
      none_of state.listeners (kept.proper.listeners_here (next_number state) (kept.proper.given (next_number state) (omega arith)))
    where
      none_of : (pairs : List ListenerPair) → count_by (is_of_session (next_number state)) pairs ≡ 0 → list_any (is_pair (next_number state) c) pairs ≡ false
      none_of [] none = refl
      none_of (pair ∷ pairs) none = split (is_of_session (next_number state) pair) refl (none_of pairs (omega (arith, none, count_by-cons (is_of_session (next_number state)) pair pairs)))
        where
          split : (b : Bool) → is_of_session (next_number state) pair ≡ b → list_any (is_pair (next_number state) c) pairs ≡ false → list_any (is_pair (next_number state) c) (pair ∷ pairs) ≡ false
          split true e rest = absurd (omega (arith, none, count_by-cons (is_of_session (next_number state)) pair pairs, ap (λ (b : Bool). cond {A = ℕ} b 1 0) e))
          split false e rest = rw (e, rest) refl

  pub IsKept-joined : (new_slots : List SessionSlot) → IsNumbered (joined state name account tokens).sessions new_slots → (after : List MaskRow) (now : ℕ) → after ≡ with_slot ROOT (free_slot state) members → room ≤ now → IsKept (joined state name account tokens) new_slots after now listening
  IsKept-joined new_slots numbered after now after_is more =
      IsKept-of _ new_slots after now listening
      (IsProper-joined state name account tokens kept.proper unnamed under left_over)
      numbered
      (rw after_is (AreMasks-joined state.sessions (free_slot state) (joining (next_number state) (next_slot state) name account tokens) members kept.member_masks))
      (omega (arith, kept.enough, more))
      (AreMasks-join_listeners state.listeners state.sessions (free_slot state) (joining (next_number state) (next_slot state) name account tokens) listening listens_to_nothing kept.listener_masks)
