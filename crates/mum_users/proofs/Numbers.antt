-- The slots of sessions stay with their rows, and lead to them.
use Rattle.mum_users.proofs.Common.{◌≡◌, ℕ, zero, suc, ◌+◌, ◌<◌, ◌≤◌, Bool, true, false, cond, ltb, List, [], ◌∷◌, ◌++◌, length, get_or, take, drop, map, Some, None, refl, sym, ap, ◌∙◌, arith, IsTrue, count_by, filter, insert, position, position_or_len, eqb-true, ne_eqb, nat_tests, append-nil, map-append, take-append-drop, SessionId, Slot, SessionSlot, User, IsNumbered, is_slot_of, number_below, session_slot, IsBelowAll, Rises, SlotsRise, has_number, has_slot}
use Rattle.mum_users.proofs.{Counts.count_by-cons, Indexes.filter-swap, Orders.Rises-filter, Search.IsBelowAll-at, Search.Rises-at}

-- ---- the slot of a session is found by binary search

module _ (session : SessionId) where
  other_above : (own other : SessionSlot) → is_slot_of session own ≡ true → IsTrue (number_below own other) → is_slot_of session other ≡ false
  other_above own other here lower = grind (arith, nat_tests)

  other_below : (own other : SessionSlot) → other.session.0 ≡ session.0 → IsTrue (number_below own other) → is_slot_of session own ≡ false
  other_below own other here lower = grind (arith, nat_tests)

  own_slot : (own : SessionSlot) → own.session.0 ≡ session.0 → is_slot_of session own ≡ true
  own_slot own here = grind (arith, nat_tests)

  none_above : (own : SessionSlot) (slots : List SessionSlot) → is_slot_of session own ≡ true → IsBelowAll number_below own slots → filter (is_slot_of session) slots ≡ []
  none_above own [] here all = refl
  none_above own (other ∷ slots) here all = rw (other_above own other here all.0) (none_above own slots here all.1)

  pub slot-at : (slots : List SessionSlot) (i : ℕ) (d : SessionSlot) → Rises number_below slots → i < length slots → (get_or slots i d).session.0 ≡ session.0 → filter (is_slot_of session) slots ≡ get_or slots i d ∷ []
  slot-at [] i d rise within is = absurd (omega arith)
  slot-at (own ∷ slots) zero d rise within is = rw (own_slot own is) (ap (λ xs. own ∷ xs) (none_above own slots (own_slot own is) rise.0))
  slot-at (own ∷ slots) (suc i) d rise within is =
      let lower : IsTrue (number_below own (get_or slots i d)) = IsBelowAll-at number_below own slots i d rise.0 (omega arith) in
      rw (other_below own (get_or slots i d) is lower) (slot-at slots i d rise.1 (omega arith) is)

  pub no_slot : (slots : List SessionSlot) → ((i : ℕ) (d : SessionSlot) → i < length slots → (get_or slots i d).session.0 ≡ session.0 → ⊥) → filter (is_slot_of session) slots ≡ []
  no_slot [] apart = refl
  no_slot (own ∷ slots) apart =
      let other : is_slot_of session own ≡ false = ne_eqb _ _ (apart 0 own (omega arith)) in
      rw other (no_slot slots (λ i d lt. apart (suc i) d (omega arith)))

pub numbers_rise : (slots : List SessionSlot) → Rises number_below slots → (i j : ℕ) (d : SessionSlot) → i < j → j < length slots → (get_or slots i d).session.0 < (get_or slots j d).session.0
numbers_rise slots rise i j d lt within =
    let lower : IsTrue (number_below (get_or slots i d) (get_or slots j d)) = Rises-at number_below slots i j d rise lt within in
    grind (arith, nat_tests)

-- as code finds it
pub found_slot : (session : SessionId) (slots : List SessionSlot) (i : ℕ) (d : SessionSlot) → Rises number_below slots → i < length slots → (get_or slots i d).session.0 ≡ session.0 → filter (is_slot_of session) slots ≡ record { session = session; slot = (get_or slots i d).slot } ∷ []
found_slot session slots i d rise within here =
    let numbered : ℕ → SessionSlot = λ n. record { session = record { 0 = n }; slot = (get_or slots i d).slot } in
    slot-at session slots i d rise within here ∙ ap (λ (n : ℕ). numbered n ∷ []) here

-- ---- the slot leads to the row

module _ (limit : ℕ) (session : SessionId) (slot : Slot) where
  abbrev placed : SessionSlot
  placed = record { session = session; slot = slot }

  slot_is : (user : User) (rest : List SessionSlot) → session_slot user ∷ rest ≡ placed ∷ [] → user.slot.0 ≡ slot.0
  slot_is user rest only = let same : session_slot user ≡ placed = cc in ap (λ (x : SessionSlot). x.slot.0) same

  slot-ge : (low : ℕ) (users : List User) → SlotsRise limit low users → filter (is_slot_of session) (map session_slot users) ≡ placed ∷ [] → low ≤ slot.0
  slot-ge low [] rise only = cc
  slot-ge low (user ∷ users) rise only = split (has_number session user) refl (slot-ge (user.slot.0 + 1) users rise.1)
    where
      split : (b : Bool) → has_number session user ≡ b → (filter (is_slot_of session) (map session_slot users) ≡ placed ∷ [] → user.slot.0 + 1 ≤ slot.0) → low ≤ slot.0
      split true e rest =
          let only : session_slot user ∷ filter (is_slot_of session) (map session_slot users) ≡ placed ∷ [] = rw e at only in
          omega (arith, slot_is user (filter (is_slot_of session) (map session_slot users)) only, rise.0)
      split false e rest = let only : filter (is_slot_of session) (map session_slot users) ≡ placed ∷ [] = rw e at only in omega (arith, rest only, rise.0)

  same_place : (low : ℕ) (users : List User) → SlotsRise limit low users → filter (is_slot_of session) (map session_slot users) ≡ placed ∷ [] → position_or_len (has_slot slot) users ≡ position_or_len (has_number session) users
  same_place low [] rise only = refl
  same_place low (user ∷ users) rise only = split (has_number session user) refl (same_place (user.slot.0 + 1) users rise.1)
    where
      split : (b : Bool) → has_number session user ≡ b → (filter (is_slot_of session) (map session_slot users) ≡ placed ∷ [] → position_or_len (has_slot slot) users ≡ position_or_len (has_number session) users)
          → position_or_len (has_slot slot) (user ∷ users) ≡ position_or_len (has_number session) (user ∷ users)
      split true e rest =
          let only : session_slot user ∷ filter (is_slot_of session) (map session_slot users) ≡ placed ∷ [] = rw e at only in
          let here : has_slot slot user ≡ true = rw (slot_is user (filter (is_slot_of session) (map session_slot users)) only) (grind (arith, nat_tests)) in
          rw (e, here) refl
      split false e rest =
          let only : filter (is_slot_of session) (map session_slot users) ≡ placed ∷ [] = rw e at only in
          let above : user.slot.0 + 1 ≤ slot.0 = slot-ge (user.slot.0 + 1) users rise.1 only in
          let other : has_slot slot user ≡ false = ne_eqb _ _ (λ same. omega arith) in
          rw (e, other) (ap (λ (n : ℕ). 1 + n) (rest only))

  pub row_in_slot : (users : List User) (slots : List SessionSlot) → SlotsRise limit 0 users → IsNumbered users slots → filter (is_slot_of session) slots ≡ placed ∷ [] → position (has_slot slot) users ≡ position (has_number session) users
  row_in_slot users slots rise numbered found =
      ap (λ (n : ℕ). cond (ltb n (length users)) (Some n) None) (same_place 0 users rise (sym (numbered.same session) ∙ found))

module _ (session : SessionId) where
  none_of : (users : List User) → filter (is_slot_of session) (map session_slot users) ≡ [] → position_or_len (has_number session) users ≡ length users
  none_of [] none = refl
  none_of (user ∷ users) none = split (has_number session user) refl (none_of users)
    where
      split : (b : Bool) → has_number session user ≡ b → (filter (is_slot_of session) (map session_slot users) ≡ [] → position_or_len (has_number session) users ≡ length users) → position_or_len (has_number session) (user ∷ users) ≡ length (user ∷ users)
      split true e rest =
          let some : session_slot user ∷ filter (is_slot_of session) (map session_slot users) ≡ [] = rw e at none in
          cc
      split false e rest =
          let none : filter (is_slot_of session) (map session_slot users) ≡ [] = rw e at none in
          rw e (omega (arith, rest none))

  pub no_row : (users : List User) (slots : List SessionSlot) → IsNumbered users slots → filter (is_slot_of session) slots ≡ [] → None ≡ position (has_number session) users
  no_row users slots numbered none =
      let far : position_or_len (has_number session) users ≡ length users = none_of users (sym (numbered.same session) ∙ none) in
      grind (arith, nat_tests)

-- ---- what a change leaves

map-filter : (q : SessionSlot → Bool) (users : List User) → map session_slot (filter (λ user. q (session_slot user)) users) ≡ filter q (map session_slot users)
map-filter q [] = refl
map-filter q (user ∷ users) = split (q (session_slot user)) refl (map-filter q users)
  where
    split : (b : Bool) → q (session_slot user) ≡ b → map session_slot (filter (λ user. q (session_slot user)) users) ≡ filter q (map session_slot users) → map session_slot (filter (λ user. q (session_slot user)) (user ∷ users)) ≡ filter q (map session_slot (user ∷ users))
    split true e rest = rw e (ap (λ xs. session_slot user ∷ xs) rest)
    split false e rest = rw e rest

pub IsNumbered-filter : (q : SessionSlot → Bool) (users : List User) (slots : List SessionSlot) → IsNumbered users slots → IsNumbered (filter (λ user. q (session_slot user)) users) (filter q slots)
IsNumbered-filter q users slots numbered = record {
  rise = Rises-filter number_below q slots numbered.rise;
  same = λ session.
      filter-swap (is_slot_of session) q slots
      ∙ ap (filter q) (numbered.same session)
      ∙ filter-swap q (is_slot_of session) (map session_slot users)
      ∙ ap (filter (is_slot_of session)) (sym (map-filter q users));
}

same_slots : (f : User → User) → ((user : User) → session_slot (f user) ≡ session_slot user) → (users : List User) → map session_slot (map f users) ≡ map session_slot users
same_slots f same [] = refl
same_slots f same (user ∷ users) = rw (same user) (ap (λ xs. session_slot user ∷ xs) (same_slots f same users))

pub IsNumbered-map : (f : User → User) → ((user : User) → session_slot (f user) ≡ session_slot user) → (users : List User) (slots : List SessionSlot) → IsNumbered users slots → IsNumbered (map f users) slots
IsNumbered-map f same users slots numbered = record {
  rise = numbered.rise;
  same = λ session. numbered.same session ∙ ap (filter (is_slot_of session)) (sym (same_slots f same users));
}

module _ (last : ℕ) (new : SessionSlot) (is_next : last < new.session.0) where
  below_new : (own : SessionSlot) (slots : List SessionSlot) → ((session : SessionId) → last < session.0 → filter (is_slot_of session) (own ∷ slots) ≡ []) → IsTrue (number_below own new)
  below_new own slots none = split (ltb last own.session.0) refl
    where
      itself : is_slot_of own.session own ≡ true
      itself = grind (arith, nat_tests)

      split : (b : Bool) → ltb last own.session.0 ≡ b → IsTrue (number_below own new)
      split true e =
          let empty : own ∷ filter (is_slot_of own.session) slots ≡ [] = rw itself at (none own.session (grind (arith, nat_tests))) in
          cc
      split false e = grind (arith, nat_tests)

  rest_none : (own : SessionSlot) (slots : List SessionSlot) (session : SessionId) → filter (is_slot_of session) (own ∷ slots) ≡ [] → filter (is_slot_of session) slots ≡ []
  rest_none own slots session none = split (is_slot_of session own) refl
    where
      split : (b : Bool) → is_slot_of session own ≡ b → filter (is_slot_of session) slots ≡ []
      split true e = let empty : own ∷ filter (is_slot_of session) slots ≡ [] = rw e at none in cc
      split false e = rw e at none

  IsBelowAll-append : (own : SessionSlot) (slots : List SessionSlot) → IsTrue (number_below own new) → IsBelowAll number_below own slots → IsBelowAll number_below own (slots ++ new ∷ [])
  IsBelowAll-append own [] lower all = (lower, tt)
  IsBelowAll-append own (other ∷ slots) lower all = (all.0, IsBelowAll-append own slots lower all.1)

  Rises-append : (slots : List SessionSlot) → ((session : SessionId) → last < session.0 → filter (is_slot_of session) slots ≡ []) → Rises number_below slots → Rises number_below (slots ++ new ∷ [])
  Rises-append [] none rise = (tt, tt)
  Rises-append (own ∷ slots) none rise =
      (IsBelowAll-append own slots (below_new own slots none) rise.0, Rises-append slots (λ session lt. rest_none own slots session (none session lt)) rise.1)

  filter-front : (session : SessionId) (xs ys : List SessionSlot) → is_slot_of session new ≡ true → filter (is_slot_of session) (xs ++ ys) ≡ [] → filter (is_slot_of session) (xs ++ new ∷ ys) ≡ new ∷ []
  filter-front session [] ys here none = rw here (ap (λ zs. new ∷ zs) none)
  filter-front session (x ∷ xs) ys here none = split (is_slot_of session x) refl (filter-front session xs ys here)
    where
      split : (b : Bool) → is_slot_of session x ≡ b → (filter (is_slot_of session) (xs ++ ys) ≡ [] → filter (is_slot_of session) (xs ++ new ∷ ys) ≡ new ∷ []) → filter (is_slot_of session) (x ∷ (xs ++ new ∷ ys)) ≡ new ∷ []
      split true e rest = let empty : x ∷ filter (is_slot_of session) (xs ++ ys) ≡ [] = rw e at none in cc
      split false e rest = let none : filter (is_slot_of session) (xs ++ ys) ≡ [] = rw e at none in rw e (rest none)

  filter-others : (session : SessionId) (xs ys : List SessionSlot) → is_slot_of session new ≡ false → filter (is_slot_of session) (xs ++ new ∷ ys) ≡ filter (is_slot_of session) (xs ++ ys)
  filter-others session [] ys other = rw other refl
  filter-others session (x ∷ xs) ys other = ap (λ zs. cond (is_slot_of session x) (x ∷ zs) zs) (filter-others session xs ys other)

  -- a new row at any place, and its slot after the others
  either_place : (session : SessionId) (xs ys us vs : List SessionSlot) → (last < session.0 → filter (is_slot_of session) (xs ++ ys) ≡ []) → filter (is_slot_of session) (xs ++ ys) ≡ filter (is_slot_of session) (us ++ vs) → filter (is_slot_of session) (xs ++ new ∷ ys) ≡ filter (is_slot_of session) (us ++ new ∷ vs)
  either_place session xs ys us vs none same = split (is_slot_of session new) refl
    where
      split : (b : Bool) → is_slot_of session new ≡ b → filter (is_slot_of session) (xs ++ new ∷ ys) ≡ filter (is_slot_of session) (us ++ new ∷ vs)
      split true e =
          let above : last < session.0 = omega (arith, eqb-true _ _ e) in
          filter-front session xs ys e (none above) ∙ sym (filter-front session us vs e (sym same ∙ none above))
      split false e = filter-others session xs ys e ∙ same ∙ sym (filter-others session us vs e)

no_count : (session : SessionId) (users : List User) → count_by (has_number session) users ≡ 0 → filter (is_slot_of session) (map session_slot users) ≡ []
no_count session [] none = refl
no_count session (user ∷ users) none = split (has_number session user) refl (no_count session users)
  where
    split : (b : Bool) → has_number session user ≡ b → (count_by (has_number session) users ≡ 0 → filter (is_slot_of session) (map session_slot users) ≡ []) → filter (is_slot_of session) (map session_slot (user ∷ users)) ≡ []
    split true e rest = absurd (omega (arith, count_by-cons (has_number session) user users, ap (λ (b : Bool). cond {A = ℕ} b 1 0) e))
    split false e rest = rw e (rest (omega (arith, count_by-cons (has_number session) user users, ap (λ (b : Bool). cond {A = ℕ} b 1 0) e)))

pub IsNumbered-joined : (last : ℕ) (users : List User) (slots : List SessionSlot) (place : ℕ) (user : User) → ((session : SessionId) → last < session.0 → count_by (has_number session) users ≡ 0) → last < user.session.0 → IsNumbered users slots → IsNumbered (insert users place user) (slots ++ session_slot user ∷ [])
IsNumbered-joined last users slots place user given is_next numbered = record {
  rise = Rises-append last (session_slot user) is_next slots (λ session lt. numbered.same session ∙ no_count session users (given session lt)) numbered.rise;
  same = λ session.
      either_place last (session_slot user) is_next session slots [] (map session_slot (take place users)) (map session_slot (drop place users))
      (λ lt. ap (filter (is_slot_of session)) (append-nil slots) ∙ numbered.same session ∙ no_count session users (given session lt))
      (ap (filter (is_slot_of session)) (append-nil slots) ∙ numbered.same session ∙ ap (filter (is_slot_of session)) (whole session))
      ∙ ap (filter (is_slot_of session)) (sym (map-append session_slot (take place users) (user ∷ drop place users)));
}
  where
    whole : SessionId → map session_slot users ≡ map session_slot (take place users) ++ map session_slot (drop place users)
    whole session = ap (map session_slot) (sym (take-append-drop place users)) ∙ map-append session_slot (take place users) (drop place users)
