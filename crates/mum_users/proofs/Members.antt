-- The masks of members: one session apart from the others, and how many rows there are at most.
use Rattle.mum_users.proofs.Common.{◌≡◌, ℕ, suc, ◌+◌, ◌-◌, ◌*◌, ◌/◌, ◌%◌, ◌<◌, ◌≤◌, ◌^◌, Bool, true, false, ◌&&◌, ◌||◌, not, cond, eqb, List, [], ◌∷◌, length, get_or, drop, drop-cons, map, Some, refl, sym, ap, subst, ◌∙◌, eq-eqb, arith, IsTrue, bit_at, trailing_zeros, bit_or, All, count_by, filter, find, insert, list_any, w128, eqb-true, or_parts, nat_tests, list_any_at, list_any_none, any-filter_same, bit_at-trailing_zeros, bit_at-zero, ChannelId, SessionId, MaskRow, ListenerPair, Placement, User, IsBelowAll, Rises, is_moved, with_placement, AreMasks, is_mask, is_mask_of, is_row_of, mask_at, mask_below, masks_of, with_pairs, with_slot, without_pairs, without_slot, SlotsRise, has_number, is_in, is_of_channel}
use Rattle.mum_users.proofs.{Counts.count_by-cons, Counts.count_by-insert, Counts.list_any-count_by, Counts.some_from, MaskRows.absent_above, MaskRows.length-with_mask, MaskSets.AreMasks-with_slot, MaskSets.AreMasks-without_slot}

-- ---- a test among users, one apart from the others

pub any-insert : (p : User → Bool) (users : List User) (i : ℕ) (new : User) → list_any p (insert users i new) ≡ (p new || list_any p users)
any-insert p users i new = grind (arith, nat_tests, list_any-count_by p (insert users i new), list_any-count_by p users, count_by-insert p users i new)

pub any-map_same : (p : User → Bool) (f : User → User) → ((user : User) → p (f user) ≡ p user) → (users : List User) → list_any p (map f users) ≡ list_any p users
any-map_same p f same [] = refl
any-map_same p f same (user ∷ users) = rw (same user, any-map_same p f same users) refl

abbrev pub others : SessionId → List User → List User
others session users = filter (λ user. not (has_number session user)) users

module _ (p : User → Bool) (session : SessionId) (change : User → User) where
  -- where nobody has the number, nobody changes
  none_changed : (users : List User) → count_by (has_number session) users ≡ 0 → list_any p (map (λ user. cond (has_number session user) (change user) user) users) ≡ list_any p (others session users)
  none_changed [] none = refl
  none_changed (user ∷ users) none = split (has_number session user) refl (none_changed users (omega (arith, none, count_by-cons (has_number session) user users)))
    where
      split : (b : Bool) → has_number session user ≡ b → list_any p (map (λ u. cond (has_number session u) (change u) u) users) ≡ list_any p (others session users) → list_any p (map (λ u. cond (has_number session u) (change u) u) (user ∷ users)) ≡ list_any p (others session (user ∷ users))
      split true e rest = absurd (omega (arith, none, count_by-cons (has_number session) user users, ap (λ (b : Bool). cond {A = ℕ} b 1 0) e))
      split false e rest = rw (e, rest) refl

  pub any_changed : (users : List User) (row : User) → count_by (has_number session) users ≤ 1 → find (has_number session) users ≡ Some row → list_any p (map (λ user. cond (has_number session user) (change user) user) users) ≡ (p (change row) || list_any p (others session users))
  any_changed [] row one found = absurd (cc)
  any_changed (user ∷ users) row one found = split (has_number session user) refl (any_changed users row)
    where
      counted : count_by (has_number session) (user ∷ users) ≡ cond (has_number session user) 1 0 + count_by (has_number session) users
      counted = count_by-cons (has_number session) user users

      split : (b : Bool) → has_number session user ≡ b → (count_by (has_number session) users ≤ 1 → find (has_number session) users ≡ Some row → list_any p (map (λ u. cond (has_number session u) (change u) u) users) ≡ (p (change row) || list_any p (others session users))) → list_any p (map (λ u. cond (has_number session u) (change u) u) (user ∷ users)) ≡ (p (change row) || list_any p (others session (user ∷ users)))
      split true e rest =
          let is : Some user ≡ Some row = rw e at found in
          let same : user ≡ row = cc in
          rw (e, none_changed users (omega (arith, one, counted, ap (λ (b : Bool). cond {A = ℕ} b 1 0) e))) (ap (λ (u : User). p (change u) || list_any p (others session users)) same)
      split false e rest =
          let is : find (has_number session) users ≡ Some row = rw e at found in
          rw (e, rest (omega (arith, one, counted)) is) (turned (p user) (p (change row)) (list_any p (others session users)))
        where
          turned : (a b c : Bool) → (a || (b || c)) ≡ (b || (a || c))
          turned true true c = refl
          turned true false c = refl
          turned false true c = refl
          turned false false c = refl

pub any_split : (p : User → Bool) (session : SessionId) (users : List User) (row : User) → count_by (has_number session) users ≤ 1 → find (has_number session) users ≡ Some row → list_any p users ≡ (p row || list_any p (others session users))
any_split p session users row one found = sym (unchanged users) ∙ any_changed p session (λ user. user) users row one found
  where
    same : (b : Bool) (user : User) → p (cond b user user) ≡ p user
    same true user = refl
    same false user = refl

    unchanged : (us : List User) → list_any p (map (λ user. cond (has_number session user) user user) us) ≡ list_any p us
    unchanged us = any-map_same p (λ user. cond (has_number session user) user user) (λ user. same (has_number session user) user) us

-- ---- nobody else is in the slot of a session

module _ (limit : ℕ) (session : SessionId) (row : User) where
  found_above : (low : ℕ) (users : List User) → SlotsRise limit low users → find (has_number session) users ≡ Some row → low ≤ row.slot.0
  found_above low [] rise found = absurd (cc)
  found_above low (user ∷ users) rise found = split (has_number session user) refl (found_above (user.slot.0 + 1) users rise.1)
    where
      split : (b : Bool) → has_number session user ≡ b → (find (has_number session) users ≡ Some row → user.slot.0 + 1 ≤ row.slot.0) → low ≤ row.slot.0
      split true e rest =
          let is : Some user ≡ Some row = rw e at found in
          let same : user ≡ row = cc in
          subst (λ (u : User). low ≤ u.slot.0) same rise.0
      split false e rest =
          let is : find (has_number session) users ≡ Some row = rw e at found in
          omega (arith, rest is, rise.0)

  none_below : (low slot : ℕ) (users : List User) → SlotsRise limit low users → slot < low → list_any (λ user. eqb user.slot.0 slot) (others session users) ≡ false
  none_below low slot [] rise lt = refl
  none_below low slot (user ∷ users) rise lt = split (has_number session user) refl (none_below (user.slot.0 + 1) slot users rise.1 (omega (arith, rise.0)))
    where
      apart : eqb user.slot.0 slot ≡ false
      apart = let le : low ≤ user.slot.0 = rise.0 in grind (arith, nat_tests)

      split : (b : Bool) → has_number session user ≡ b → list_any (λ u. eqb u.slot.0 slot) (others session users) ≡ false → list_any (λ u. eqb u.slot.0 slot) (others session (user ∷ users)) ≡ false
      split true e rest = rw e rest
      split false e rest = rw (e, apart) rest

  pub slot_alone : (low : ℕ) (users : List User) → SlotsRise limit low users → find (has_number session) users ≡ Some row → list_any (λ user. eqb user.slot.0 row.slot.0) (others session users) ≡ false
  slot_alone low [] rise found = refl
  slot_alone low (user ∷ users) rise found = split (has_number session user) refl (slot_alone (user.slot.0 + 1) users rise.1) (found_above (user.slot.0 + 1) users rise.1)
    where
      split : (b : Bool) → has_number session user ≡ b → (find (has_number session) users ≡ Some row → list_any (λ u. eqb u.slot.0 row.slot.0) (others session users) ≡ false) → (find (has_number session) users ≡ Some row → user.slot.0 + 1 ≤ row.slot.0) → list_any (λ u. eqb u.slot.0 row.slot.0) (others session (user ∷ users)) ≡ false
      split true e rest above =
          let is : Some user ≡ Some row = rw e at found in
          let same : user ≡ row = cc in
          rw e (none_below (user.slot.0 + 1) row.slot.0 users rise.1 (omega (arith, ap (λ (u : User). u.slot.0) same)))
      split false e rest above =
          let is : find (has_number session) users ≡ Some row = rw e at found in
          let far : user.slot.0 + 1 ≤ row.slot.0 = above is in
          let apart : eqb user.slot.0 row.slot.0 ≡ false = grind (arith, nat_tests) in
          rw (e, apart) (rest is)

-- a test that asks for a slot that nobody has
pub none_at : (q : User → Bool) (slot : ℕ) (users : List User) → list_any (λ user. eqb user.slot.0 slot) users ≡ false → list_any (λ user. eqb user.slot.0 slot && q user) users ≡ false
none_at q slot [] none = refl
none_at q slot (user ∷ users) none = split (eqb user.slot.0 slot) refl (none_at q slot users)
  where
    split : (b : Bool) → eqb user.slot.0 slot ≡ b → (list_any (λ u. eqb u.slot.0 slot) users ≡ false → list_any (λ u. eqb u.slot.0 slot && q u) users ≡ false) → list_any (λ u. eqb u.slot.0 slot && q u) (user ∷ users) ≡ false
    split true e rest = let never : true ≡ false = rw e at none in cc
    split false e rest = rw e (rest (rw e at none))

-- ---- those of a slot that have to do with a channel

-- one of these users is in the slot and has to do with the channel
abbrev pub among : (ChannelId → User → Bool) → List User → ChannelId → ℕ → Bool
among q users channel slot = list_any (λ user. eqb user.slot.0 slot && q channel user) users

module _ (limit : ℕ) (q : ChannelId → User → Bool) (session : SessionId) (users : List User) (row : User) (rise : SlotsRise limit 0 users) (one : count_by (has_number session) users ≤ 1) (found : find (has_number session) users ≡ Some row) where
  alone : list_any (λ user. eqb user.slot.0 row.slot.0) (others session users) ≡ false
  alone = slot_alone limit session row 0 users rise found

  pub none_here : (c : ChannelId) (s : ℕ) → eqb row.slot.0 s ≡ true → among q (others session users) c s ≡ false
  none_here c s e = none_at (q c) s (others session users) (subst (λ (k : ℕ). list_any (λ user. eqb user.slot.0 k) (others session users) ≡ false) (eqb-true _ _ e) alone)

  apart : (c : ChannelId) (s : ℕ) → among q users c s ≡ (eqb row.slot.0 s && q c row || among q (others session users) c s)
  apart c s = any_split (λ user. eqb user.slot.0 s && q c user) session users row one found

  -- without the session its slot is that of nobody
  pub among_others : (c : ChannelId) (s : ℕ) → among q (others session users) c s ≡ (not (q c row && eqb row.slot.0 s) && among q users c s)
  among_others c s = step (eqb row.slot.0 s) refl
    where
      ended : (b o : Bool) → o ≡ false → o ≡ (not (b && true) && (true && b || o))
      ended true o none = none
      ended false true none = cc
      ended false false none = refl

      kept : (b o : Bool) → o ≡ (not (b && false) && (false && b || o))
      kept true o = refl
      kept false o = refl

      step : (b : Bool) → eqb row.slot.0 s ≡ b → among q (others session users) c s ≡ (not (q c row && eqb row.slot.0 s) && among q users c s)
      step true e = rw (apart c s, e) (ended (q c row) (among q (others session users) c s) (none_here c s e))
      step false e = rw (apart c s, e) (kept (q c row) (among q (others session users) c s))

  -- the session after a change, beside the others
  pub among_changed : (change : User → User) (c : ChannelId) (s : ℕ) → among q (map (λ user. cond (has_number session user) (change user) user) users) c s ≡ (eqb (change row).slot.0 s && q c (change row) || among q (others session users) c s)
  among_changed change c s = any_changed (λ user. eqb user.slot.0 s && q c user) session change users row one found

pub AreMasks-same : (is_set after : ChannelId → ℕ → Bool) (rows : List MaskRow) → AreMasks is_set rows → ((c : ChannelId) (s : ℕ) → after c s ≡ is_set c s) → AreMasks after rows
AreMasks-same is_set after rows masks same = record {
  rise = masks.rise;
  none_empty = masks.none_empty;
  bits = λ c s. masks.bits c s ∙ ap (λ (b : Bool). cond {A = ℕ} b 1 0) (sym (same c s));
}

-- ---- members

pub AreMasks-none : AreMasks (λ _ _. false) []
AreMasks-none = record { rise = tt; none_empty = refl; bits = λ c s. bit_at-zero (s % 128) }

pub AreMasks-masks_of : (users : List User) → AreMasks (among is_in users) (masks_of users)
AreMasks-masks_of [] = AreMasks-none
AreMasks-masks_of (user ∷ users) =
    AreMasks-with_slot (among is_in users) (among is_in (user ∷ users)) user.channel user.slot.0 (masks_of users) (AreMasks-masks_of users)
    (λ c s. ap (λ (b : Bool). b || among is_in users c s) (turned (eqb user.slot.0 s) (eqb user.channel.0 c.0)))
  where
    turned : (a b : Bool) → (a && b) ≡ (b && a)
    turned true true = refl
    turned true false = refl
    turned false true = refl
    turned false false = refl

pub length-masks_of : (users : List User) → length (masks_of users) ≤ length users
length-masks_of [] = omega arith
length-masks_of (user ∷ users) = omega (arith, length-masks_of users, length-with_mask (record { channel = user.channel; word = user.slot.0 / 128; mask = bit_or (mask_at user.channel (user.slot.0 / 128) (masks_of users)) (1 * 2 ^ (user.slot.0 % 128) % 2 ^ 128) }) (masks_of users))

-- ---- as many rows as users at most

abbrev is_under : MaskRow → User → Bool
is_under row user = is_in row.channel user && eqb (user.slot.0 / 128) row.word

-- each row is that of one of these users
abbrev AreOf : List User → List MaskRow → Type 0
AreOf users [] = Unit {0}
AreOf users (row ∷ rows) = (list_any (is_under row) users ≡ true) × AreOf users rows

length-filter : (p : User → Bool) (users : List User) → length (filter (λ user. not (p user)) users) + count_by p users ≡ length users
length-filter p [] = refl
length-filter p (user ∷ users) = grind (arith, nat_tests, count_by-cons p user users, length-filter p users)

apart_rows : (row other : MaskRow) (user : User) → IsTrue (mask_below row other) → is_under other user ≡ true → not (is_under row user) ≡ true
apart_rows row other user lower is = grind (arith, nat_tests)

AreOf-rest : (row : MaskRow) (users : List User) (rows : List MaskRow) → IsBelowAll mask_below row rows → AreOf users rows → AreOf (filter (λ user. not (is_under row user)) users) rows
AreOf-rest row users [] all of = tt
AreOf-rest row users (other ∷ rows) all of =
    (any-filter_same (is_under other) (λ user. not (is_under row user)) true (λ user is. apart_rows row other user all.0 is) users ∙ of.0, AreOf-rest row users rows all.1 of.1)

few_rows : (rows : List MaskRow) (users : List User) → Rises mask_below rows → AreOf users rows → length rows ≤ length users
few_rows [] users rise of = omega arith
few_rows (row ∷ rows) users rise of =
    omega (arith, few_rows rows (filter (λ user. not (is_under row user)) users) rise.1 (AreOf-rest row users rows rise.0 of.1), length-filter (is_under row) users, some_from (is_under row) users of.0)

any_implies : (p q : User → Bool) → ((user : User) → p user ≡ true → q user ≡ true) → (users : List User) → list_any p users ≡ true → list_any q users ≡ true
any_implies p q implies [] some = some
any_implies p q implies (user ∷ users) some = split (p user) refl (any_implies p q implies users)
  where
    or_true : (b : Bool) → (b || true) ≡ true
    or_true true = refl
    or_true false = refl

    split : (b : Bool) → p user ≡ b → (list_any p users ≡ true → list_any q users ≡ true) → list_any q (user ∷ users) ≡ true
    split true e rest = rw (implies user e) refl
    split false e rest = let there : list_any q users ≡ true = rest (rw e at some) in rw there (or_true (q user))

row_itself : (row : MaskRow) → is_mask_of row.channel row.word row ≡ true
row_itself row = grind (arith, nat_tests)

AreOf-from : (users : List User) (rows : List MaskRow) → count_by (λ row. not (is_mask row.mask)) rows ≡ 0 → Rises mask_below rows
    → ((c : ChannelId) (s : ℕ) → bit_at (mask_at c (s / 128) rows) (s % 128) ≡ 1 → among is_in users c s ≡ true) → AreOf users rows
AreOf-from users [] none rise set_means = tt
AreOf-from users (row ∷ rows) none rise set_means =
    (under (is_mask row.mask) refl, AreOf-from users rows (omega (arith, counted, none)) rise.1 (λ c s is. set_means c s (later c s is)))
  where
    counted : count_by (λ r. not (is_mask r.mask)) (row ∷ rows) ≡ cond (not (is_mask row.mask)) 1 0 + count_by (λ r. not (is_mask r.mask)) rows
    counted = count_by-cons (λ r. not (is_mask r.mask)) row rows

    later : (c : ChannelId) (s : ℕ) → bit_at (mask_at c (s / 128) rows) (s % 128) ≡ 1 → bit_at (mask_at c (s / 128) (row ∷ rows)) (s % 128) ≡ 1
    later c s is = step (is_mask_of c (s / 128) row) refl
      where
        step : (b : Bool) → is_mask_of c (s / 128) row ≡ b → bit_at (mask_at c (s / 128) (row ∷ rows)) (s % 128) ≡ 1
        step true e =
            let zero_here : mask_at c (s / 128) rows ≡ 0 = absent_above row c (s / 128) row rows e rise.0 in
            let never : bit_at 0 (s % 128) ≡ 1 = subst (λ (m : ℕ). bit_at m (s % 128) ≡ 1) zero_here is in
            absurd (omega (arith, never, bit_at-zero (s % 128)))
        step false e = rw e is

    under : (m : Bool) → is_mask row.mask ≡ m → list_any (is_under row) users ≡ true
    under false e = absurd (omega (arith, counted, none, ap (λ (b : Bool). cond {A = ℕ} (not b) 1 0) e))
    under true e =
        any_implies _ _ (λ user there. grind (arith, nat_tests, word_is)) users
        (set_means row.channel slot (rw (word_is, bit_is, row_itself row) bits.1))
      where
        some : 0 < row.mask
        some = grind (arith, nat_tests)

        within : row.mask < 2 ^ 128
        within = grind (arith, nat_tests)

        bits : (trailing_zeros w128 row.mask < 128) × (bit_at row.mask (trailing_zeros w128 row.mask) ≡ 1) × ((i : ℕ) → i < trailing_zeros w128 row.mask → bit_at row.mask i ≡ 0)
        bits = bit_at-trailing_zeros w128 row.mask some within

        slot : ℕ
        slot = row.word * 128 + trailing_zeros w128 row.mask

        word_is : slot / 128 ≡ row.word
        word_is = omega (arith, bits.0)

        bit_is : slot % 128 ≡ trailing_zeros w128 row.mask
        bit_is = omega (arith, bits.0)

bit_from : (b : Bool) → cond {A = ℕ} b 1 0 ≡ 1 → b ≡ true
bit_from true e = refl
bit_from false e = absurd (omega (arith, e))

AreOf-masks : (users : List User) (rows : List MaskRow) → AreMasks (among is_in users) rows → AreOf users rows
AreOf-masks users rows masks = AreOf-from users rows masks.none_empty masks.rise (λ c s is. bit_from (among is_in users c s) (sym (masks.bits c s) ∙ is))

pub few_member_rows : (users : List User) (rows : List MaskRow) → AreMasks (among is_in users) rows → length rows ≤ length users
few_member_rows users rows masks = few_rows rows users masks.rise (AreOf-masks users rows masks)

-- ---- a channel has a row exactly where somebody is in it

row_in : (channel : ChannelId) (row : MaskRow) (user : User) → is_row_of channel row ≡ true → is_under row user ≡ true → is_in channel user ≡ true
row_in channel row user same is = grind (arith, nat_tests)

member_of_row : (channel : ChannelId) (users : List User) (rows : List MaskRow) → AreOf users rows → list_any (is_row_of channel) rows ≡ true → list_any (is_in channel) users ≡ true
member_of_row channel users [] of some = let never : false ≡ true = some in cc
member_of_row channel users (row ∷ rows) of some = split (is_row_of channel row) refl (member_of_row channel users rows of.1)
  where
    split : (b : Bool) → is_row_of channel row ≡ b → (list_any (is_row_of channel) rows ≡ true → list_any (is_in channel) users ≡ true) → list_any (is_in channel) users ≡ true
    split true e rest = any_implies (is_under row) (is_in channel) (λ user is. row_in channel row user e is) users of.0
    split false e rest = rest (rw e at some)

mask_at-no_row : (channel : ChannelId) (word : ℕ) (rows : List MaskRow) → list_any (is_row_of channel) rows ≡ false → mask_at channel word rows ≡ 0
mask_at-no_row channel word [] none = refl
mask_at-no_row channel word (row ∷ rows) none = split (is_row_of channel row) refl (mask_at-no_row channel word rows)
  where
    split : (b : Bool) → is_row_of channel row ≡ b → (list_any (is_row_of channel) rows ≡ false → mask_at channel word rows ≡ 0) → mask_at channel word (row ∷ rows) ≡ 0
    split true e rest = let never : true ≡ false = rw e at none in cc
    split false e rest = rw e (rest (rw e at none))

no_member : (channel : ChannelId) (users : List User) (rows : List MaskRow) → AreMasks (among is_in users) rows → list_any (is_row_of channel) rows ≡ false → list_any (is_in channel) users ≡ false
no_member channel users rows masks none = list_any_none (is_in channel) users other
  where
    other : All (λ user. is_in channel user ≡ false) users
    other j d lt = step (is_in channel (get_or users j d)) refl
      where
        slot : ℕ
        slot = (get_or users j d).slot.0

        step : (b : Bool) → is_in channel (get_or users j d) ≡ b → b ≡ false
        step true e =
            let there : among is_in users channel slot ≡ true = list_any_at (λ user. eqb user.slot.0 slot && is_in channel user) users j d lt (rw (eq-eqb slot slot refl, e) refl) in
            let set_here : bit_at (mask_at channel (slot / 128) rows) (slot % 128) ≡ 1 = masks.bits channel slot ∙ ap (λ (b : Bool). cond {A = ℕ} b 1 0) there in
            let never : bit_at 0 (slot % 128) ≡ 1 = subst (λ (m : ℕ). bit_at m (slot % 128) ≡ 1) (mask_at-no_row channel (slot / 128) rows none) set_here in
            absurd (omega (arith, never, bit_at-zero (slot % 128)))
        step false e = refl

pub has_row-member : (channel : ChannelId) (users : List User) (rows : List MaskRow) → AreMasks (among is_in users) rows → list_any (is_row_of channel) rows ≡ list_any (is_in channel) users
has_row-member channel users rows masks = split (list_any (is_row_of channel) rows) refl
  where
    split : (b : Bool) → list_any (is_row_of channel) rows ≡ b → b ≡ list_any (is_in channel) users
    split true e = sym (member_of_row channel users rows (AreOf-masks users rows masks) e)
    split false e = sym (no_member channel users rows masks e)

-- ---- several pairs of one session

pub AreMasks-without_pairs : (is_set : ChannelId → ℕ → Bool) (slot : ℕ) (pairs : List ListenerPair) (rows : List MaskRow) → AreMasks is_set rows
    → AreMasks (λ c s. not (list_any (is_of_channel c) pairs && eqb slot s) && is_set c s) (without_pairs slot pairs rows)
AreMasks-without_pairs is_set slot [] rows masks = masks
AreMasks-without_pairs is_set slot (pair ∷ pairs) rows masks =
    AreMasks-without_slot (λ c s. not (list_any (is_of_channel c) pairs && eqb slot s) && is_set c s) _ pair.channel slot (without_pairs slot pairs rows)
    (AreMasks-without_pairs is_set slot pairs rows masks)
    (λ c s. both (is_of_channel c pair) (list_any (is_of_channel c) pairs) (eqb slot s) (is_set c s))
  where
    both : (a b e i : Bool) → (not ((a || b) && e) && i) ≡ (not (a && e) && (not (b && e) && i))
    both true b true i = refl
    both true true false i = refl
    both true false false i = refl
    both false b e i = refl

pub AreMasks-with_pairs : (is_set : ChannelId → ℕ → Bool) (slot : ℕ) (pairs : List ListenerPair) (rows : List MaskRow) → AreMasks is_set rows
    → AreMasks (λ c s. list_any (is_of_channel c) pairs && eqb slot s || is_set c s) (with_pairs slot pairs rows)
AreMasks-with_pairs is_set slot [] rows masks = masks
AreMasks-with_pairs is_set slot (pair ∷ pairs) rows masks =
    AreMasks-with_slot (λ c s. list_any (is_of_channel c) pairs && eqb slot s || is_set c s) _ pair.channel slot (with_pairs slot pairs rows)
    (AreMasks-with_pairs is_set slot pairs rows masks)
    (λ c s. both (is_of_channel c pair) (list_any (is_of_channel c) pairs) (eqb slot s) (is_set c s))
  where
    both : (a b e i : Bool) → ((a || b) && e || i) ≡ (a && e || (b && e || i))
    both true b true i = refl
    both true true false i = refl
    both true false false i = refl
    both false b e i = refl

-- one pair more, from the last on
rest_is : (pairs : List ListenerPair) (rest : ℕ) (d : ListenerPair) → 0 < rest → rest - 1 < length pairs → drop (rest - 1) pairs ≡ get_or pairs (rest - 1) d ∷ drop rest pairs
rest_is pairs rest d some within =
    let next : suc (rest - 1) ≡ rest = omega arith in
    drop-cons pairs (rest - 1) d within ∙ ap (λ (k : ℕ). get_or pairs (rest - 1) d ∷ drop k pairs) next

pub one_more_set : (slot : ℕ) (pairs : List ListenerPair) (rows was new : List MaskRow) (rest : ℕ) (d : ListenerPair) → 0 < rest → rest - 1 < length pairs
    → was ≡ with_pairs slot (drop rest pairs) rows → new ≡ with_slot (get_or pairs (rest - 1) d).channel slot was → new ≡ with_pairs slot (drop (rest - 1) pairs) rows
one_more_set slot pairs rows was new rest d some within before after =
    after ∙ ap (λ (rs : List MaskRow). with_slot (get_or pairs (rest - 1) d).channel slot rs) before
    ∙ sym (ap (λ (ps : List ListenerPair). with_pairs slot ps rows) (rest_is pairs rest d some within))

pub one_more_clear : (slot : ℕ) (pairs : List ListenerPair) (rows was new : List MaskRow) (rest : ℕ) (d : ListenerPair) → 0 < rest → rest - 1 < length pairs
    → was ≡ without_pairs slot (drop rest pairs) rows → new ≡ without_slot (get_or pairs (rest - 1) d).channel slot was → new ≡ without_pairs slot (drop (rest - 1) pairs) rows
one_more_clear slot pairs rows was new rest d some within before after =
    after ∙ ap (λ (rs : List MaskRow). without_slot (get_or pairs (rest - 1) d).channel slot rs) before
    ∙ sym (ap (λ (ps : List ListenerPair). without_pairs slot ps rows) (rest_is pairs rest d some within))

-- one user more
pub one_more_user : (users : List User) (was new : List MaskRow) (rest : ℕ) (user : User) → 0 < rest → rest - 1 < length users → user ≡ get_or users (rest - 1) user
    → was ≡ masks_of (drop rest users) → new ≡ with_slot user.channel user.slot.0 was → new ≡ masks_of (drop (rest - 1) users)
one_more_user users was new rest user some within is before after =
    let next : suc (rest - 1) ≡ rest = omega arith in
    let front : drop (rest - 1) users ≡ get_or users (rest - 1) user ∷ drop rest users = drop-cons users (rest - 1) user within ∙ ap (λ (k : ℕ). get_or users (rest - 1) user ∷ drop k users) next in
    after ∙ ap (λ (rs : List MaskRow). with_slot user.channel user.slot.0 rs) before
    ∙ ap (λ (u : User). masks_of (u ∷ drop rest users)) is
    ∙ sym (ap masks_of front)

-- ---- a member comes, goes, or goes elsewhere

turned : (a b : Bool) → (a && b) ≡ (b && a)
turned true true = refl
turned true false = refl
turned false true = refl
turned false false = refl

-- changes that leave the slots and channels of sessions leave their masks
pub among-mapped : (q : ChannelId → User → Bool) (f : User → User) → ((user : User) → (f user).slot.0 ≡ user.slot.0) → ((c : ChannelId) (user : User) → q c (f user) ≡ q c user) → (users : List User) (c : ChannelId) (s : ℕ) → among q (map f users) c s ≡ among q users c s
among-mapped q f slots same users c s =
    any-map_same (λ user. eqb user.slot.0 s && q c user) f
    (λ user. ap (λ (k : ℕ). eqb k s && q c (f user)) (slots user) ∙ ap (λ (b : Bool). eqb user.slot.0 s && b) (same c user)) users

-- placements in the channels in which sessions are leave who is where
pub among-stayed : (placement_of : User → Placement) (users : List User) → list_any (is_moved placement_of) users ≡ false → (c : ChannelId) (s : ℕ) → among is_in (map (with_placement placement_of) users) c s ≡ among is_in users c s
among-stayed placement_of [] stayed c s = refl
among-stayed placement_of (user ∷ users) stayed c s =
    let parts = or_parts (is_moved placement_of user) (list_any (is_moved placement_of) users) stayed in
    ap (λ (k : ℕ). eqb user.slot.0 s && eqb k c.0 || among is_in (map (with_placement placement_of) users) c s) (eqb-true _ _ (same (eqb (placement_of user).channel.0 user.channel.0) parts.0))
    ∙ ap (λ (b : Bool). eqb user.slot.0 s && is_in c user || b) (among-stayed placement_of users parts.1 c s)
  where
    same : (b : Bool) → not b ≡ false → b ≡ true
    same true e = refl
    same false e = sym e

pub AreMasks-joined : (users : List User) (place : ℕ) (new : User) (rows : List MaskRow) → AreMasks (among is_in users) rows → AreMasks (among is_in (insert users place new)) (with_slot new.channel new.slot.0 rows)
AreMasks-joined users place new rows masks =
    AreMasks-with_slot (among is_in users) (among is_in (insert users place new)) new.channel new.slot.0 rows masks
    (λ c s. any-insert (λ user. eqb user.slot.0 s && is_in c user) users place new ∙ ap (λ (b : Bool). b || among is_in users c s) (turned (eqb new.slot.0 s) (eqb new.channel.0 c.0)))

module _ (limit : ℕ) (session : SessionId) (users : List User) (row : User) (rise : SlotsRise limit 0 users) (one : count_by (has_number session) users ≤ 1) (found : find (has_number session) users ≡ Some row) (rows : List MaskRow) (masks : AreMasks (among is_in users) rows) where
  pub AreMasks-out : AreMasks (among is_in (others session users)) (without_slot row.channel row.slot.0 rows)
  AreMasks-out =
      AreMasks-without_slot (among is_in users) (among is_in (others session users)) row.channel row.slot.0 rows masks
      (among_others limit is_in session users row rise one found)

  some_here : list_any (has_number session) users ≡ true
  some_here = here users found
    where
      here : (us : List User) → find (has_number session) us ≡ Some row → list_any (has_number session) us ≡ true
      here [] e = absurd (cc)
      here (user ∷ us) e = split (has_number session user) refl (here us)
        where
          split : (b : Bool) → has_number session user ≡ b → (find (has_number session) us ≡ Some row → list_any (has_number session) us ≡ true) → list_any (has_number session) (user ∷ us) ≡ true
          split true is rest = rw is refl
          split false is rest = let later : find (has_number session) us ≡ Some row = rw is at e in rw (is, rest later) refl

  -- there is room for one row more
  pub room_out : length (without_slot row.channel row.slot.0 rows) < length users
  room_out =
      omega (arith, few_member_rows (others session users) (without_slot row.channel row.slot.0 rows) AreMasks-out, length-filter (has_number session) users, some_from (has_number session) users some_here)

  pub AreMasks-moved : (change : User → User) → (change row).slot.0 ≡ row.slot.0
      → AreMasks (among is_in (map (λ user. cond (has_number session user) (change user) user) users)) (with_slot (change row).channel row.slot.0 (without_slot row.channel row.slot.0 rows))
  AreMasks-moved change slot =
      AreMasks-with_slot (among is_in (others session users)) _ (change row).channel row.slot.0 (without_slot row.channel row.slot.0 rows) AreMasks-out
      (λ c s. among_changed limit is_in session users row rise one found change c s
      ∙ ap (λ (k : ℕ). eqb k s && is_in c (change row) || among is_in (others session users) c s) slot
      ∙ ap (λ (b : Bool). b || among is_in (others session users) c s) (turned (eqb row.slot.0 s) (eqb (change row).channel.0 c.0)))

-- ---- the bits of one word

pub bits_of_word : (is_set : ChannelId → ℕ → Bool) (rows : List MaskRow) (channel : ChannelId) (word mask : ℕ) → AreMasks is_set rows → mask ≡ mask_at channel word rows
    → (bit : ℕ) → bit < 128 → bit_at mask bit ≡ cond {A = ℕ} (is_set channel (128 * word + bit)) 1 0
bits_of_word is_set rows channel word mask masks is bit within =
    let quotient : (128 * word + bit) / 128 ≡ word = omega arith in
    let rest : (128 * word + bit) % 128 ≡ bit = omega arith in
    ap (λ (m : ℕ). bit_at m bit) is ∙ rw (quotient, rest) at (masks.bits channel (128 * word + bit))
