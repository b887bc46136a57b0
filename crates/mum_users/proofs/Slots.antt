-- Slots that rise, and the least that is free.
use Rattle.mum_users.proofs.Common.{◌≡◌, ℕ, zero, suc, ◌+◌, ◌<◌, ◌≤◌, Bool, true, false, eqb, List, [], ◌∷◌, ◌++◌, length, get_or, take, drop, map, Some, None, Result, Ok, Err, MatchResult, refl, sym, ap, ◌∙◌, arith, filter, list_any, position, position_or_len, IsSearchInRange, IsBinarySearchResult, nat_cmp, eqb-false, eqb-true, ne_eqb, nat_tests, Slot, User, free_slot_from, IsLeastFree, has_slot, SlotsRise}
use Rattle.mum_users.proofs.{Places.no_position, Places.position_is, Search.found_by_halving}

pub free_slot_from-ge : (slot : ℕ) (users : List User) → slot ≤ free_slot_from slot users
free_slot_from-ge slot [] = omega arith
free_slot_from-ge slot (user ∷ users) = grind (arith, nat_tests, free_slot_from-ge (slot + 1) users)

pub free_slot_from-le : (slot : ℕ) (users : List User) → free_slot_from slot users ≤ slot + length users
free_slot_from-le slot [] = omega arith
free_slot_from-le slot (user ∷ users) = grind (arith, nat_tests, free_slot_from-le (slot + 1) users)

-- the next row's slot is the next one
free_slot_from-held : (slot : ℕ) (user : User) (users : List User) → eqb user.slot.0 slot ≡ true → free_slot_from slot (user ∷ users) ≡ free_slot_from (user.slot.0 + 1) users
free_slot_from-held slot user users held = rw held (ap (λ (n : ℕ). free_slot_from (n + 1) users) (sym (eqb-true _ _ held)))

held_below : (low : ℕ) (users : List User) (below : ℕ) → low ≤ below → below < free_slot_from low users → list_any (λ user. eqb user.slot.0 below) users ≡ true
held_below low [] below le lt = absurd (omega arith)
held_below low (user ∷ users) below le lt = grind (arith, nat_tests, held_below (low + 1) users below)

no_slot : (users : List User) (slot : Slot) → ((i : ℕ) (d : User) → i < length users → (get_or users i d).slot.0 ≡ slot.0 → ⊥) → position_or_len (has_slot slot) users ≡ length users
no_slot [] slot apart = refl
no_slot (user ∷ users) slot apart =
    let other : has_slot slot user ≡ false = ne_eqb _ _ (apart 0 user (omega arith)) in
    rw other (omega (arith, no_slot users slot (λ i d lt. apart (suc i) d (omega arith))))

in_slot : (user : User) (slot : Slot) → user.slot.0 ≡ slot.0 → has_slot slot user ≡ true
in_slot user slot is = grind (arith, nat_tests)

-- where the slots are below this limit
module _ (limit : ℕ) where
  pub SlotsRise-from_lower : (low high : ℕ) (users : List User) → low ≤ high → SlotsRise limit high users → SlotsRise limit low users
  SlotsRise-from_lower low high [] le rise = omega arith
  SlotsRise-from_lower low high (user ∷ users) le rise = (omega arith, rise.1)

  pub SlotsRise-filter : (q : User → Bool) (low : ℕ) (users : List User) → SlotsRise limit low users → SlotsRise limit low (filter q users)
  SlotsRise-filter q low [] rise = rise
  SlotsRise-filter q low (user ∷ users) rise = split (q user) refl (SlotsRise-filter q (user.slot.0 + 1) users rise.1)
    where
      split : (b : Bool) → q user ≡ b → SlotsRise limit (user.slot.0 + 1) (filter q users) → SlotsRise limit low (filter q (user ∷ users))
      split true e rest = rw e (rise.0, rest)
      split false e rest = rw e (SlotsRise-from_lower low (user.slot.0 + 1) (filter q users) (omega arith) rest)

  pub SlotsRise-map : (f : User → User) → ((user : User) → (f user).slot.0 ≡ user.slot.0) → (low : ℕ) (users : List User) → SlotsRise limit low users → SlotsRise limit low (map f users)
  SlotsRise-map f same low [] rise = rise
  SlotsRise-map f same low (user ∷ users) rise = rw (same user) (rise.0, SlotsRise-map f same (user.slot.0 + 1) users rise.1)

  pub SlotsRise-within : (low : ℕ) (users : List User) → SlotsRise limit low users → low + length users ≤ limit
  SlotsRise-within low [] rise = omega arith
  SlotsRise-within low (user ∷ users) rise = omega (arith, SlotsRise-within (user.slot.0 + 1) users rise.1)

  absent_below : (low : ℕ) (users : List User) (slot : ℕ) → SlotsRise limit low users → slot < low → list_any (λ user. eqb user.slot.0 slot) users ≡ false
  absent_below low [] slot rise lt = refl
  absent_below low (user ∷ users) slot rise lt = grind (arith, nat_tests, absent_below (user.slot.0 + 1) users slot rise.1 (omega arith))

  free_from : (low : ℕ) (users : List User) (slot : ℕ) → slot ≡ free_slot_from low users → SlotsRise limit low users → list_any (λ user. eqb user.slot.0 slot) users ≡ false
  free_from low [] slot is rise = refl
  free_from low (user ∷ users) slot is rise = split (eqb user.slot.0 low) refl (free_from (user.slot.0 + 1) users slot)
    where
      split : (b : Bool) → eqb user.slot.0 low ≡ b → (slot ≡ free_slot_from (user.slot.0 + 1) users → SlotsRise limit (user.slot.0 + 1) users → list_any (λ u. eqb u.slot.0 slot) users ≡ false) → list_any (λ u. eqb u.slot.0 slot) (user ∷ users) ≡ false
      split true e rest =
          let next : slot ≡ free_slot_from (user.slot.0 + 1) users = is ∙ free_slot_from-held low user users e in
          let head : eqb user.slot.0 slot ≡ false = ne_eqb _ _ (λ same. omega (arith, free_slot_from-ge (user.slot.0 + 1) users)) in
          rw head (rest next rise.1)
      split false e rest =
          let first : free_slot_from low (user ∷ users) ≡ low = rw e refl in
          let here : slot ≡ low = is ∙ first in
          let head : eqb user.slot.0 slot ≡ false = ne_eqb _ _ (λ same. eqb-false _ _ e (omega arith)) in
          rw head (absent_below (user.slot.0 + 1) users slot rise.1 (omega arith))

  pub IsLeastFree-free_slot_from : (users : List User) → SlotsRise limit 0 users → IsLeastFree users (free_slot_from 0 users)
  IsLeastFree-free_slot_from users rise = record { free = free_from 0 users _ refl rise; least = λ below lt. held_below 0 users below (omega arith) lt }

  -- the new row goes where its slot comes in order
  pub SlotsRise-with_placement : (low k : ℕ) (users : List User) (new : User) → SlotsRise limit low users → new.slot.0 ≡ free_slot_from low users → free_slot_from low users < limit → low + k ≡ free_slot_from low users → SlotsRise limit low (take k users ++ new ∷ drop k users)
  SlotsRise-with_placement low zero [] new rise is few at = (omega arith, omega arith)
  SlotsRise-with_placement low (suc k) [] new rise is few at = (omega arith, omega arith)
  SlotsRise-with_placement low zero (user ∷ users) new rise is few at = split (eqb user.slot.0 low) refl
    where
      split : (b : Bool) → eqb user.slot.0 low ≡ b → SlotsRise limit low (new ∷ user ∷ users)
      split true e = absurd (omega (arith, rw e at at, free_slot_from-ge (low + 1) users))
      split false e = grind (arith, nat_tests)
  SlotsRise-with_placement low (suc k) (user ∷ users) new rise is few at =
      split (eqb user.slot.0 low) refl (SlotsRise-with_placement (user.slot.0 + 1) k users new rise.1)
    where
      split : (b : Bool) → eqb user.slot.0 low ≡ b → (new.slot.0 ≡ free_slot_from (user.slot.0 + 1) users → free_slot_from (user.slot.0 + 1) users < limit → user.slot.0 + 1 + k ≡ free_slot_from (user.slot.0 + 1) users → SlotsRise limit (user.slot.0 + 1) (take k users ++ new ∷ drop k users)) → SlotsRise limit low (user ∷ (take k users ++ new ∷ drop k users))
      split true e rest =
          let same : user.slot.0 ≡ low = eqb-true _ _ e in
          let next : free_slot_from low (user ∷ users) ≡ free_slot_from (user.slot.0 + 1) users = rw e (ap (λ (n : ℕ). free_slot_from (n + 1) users) (sym same)) in
          (rise.0, rest (is ∙ next) (omega arith) (omega arith))
      split false e rest = absurd (omega (arith, rw e at at))

  -- the rows from a place on have no lower slot
  pub SlotsRise-at : (low : ℕ) (users : List User) (i : ℕ) (d : User) → SlotsRise limit low users → i < length users → low ≤ (get_or users i d).slot.0
  SlotsRise-at low [] i d rise within = absurd (omega arith)
  SlotsRise-at low (user ∷ users) zero d rise within = rise.0
  SlotsRise-at low (user ∷ users) (suc i) d rise within = omega (arith, SlotsRise-at (user.slot.0 + 1) users i d rise.1 (omega arith))

  pub slots_rise_by_place : (low : ℕ) (users : List User) (i j : ℕ) (d : User) → SlotsRise limit low users → i < j → j < length users → (get_or users i d).slot.0 < (get_or users j d).slot.0
  slots_rise_by_place low [] i j d rise lt within = absurd (omega arith)
  slots_rise_by_place low (user ∷ users) i zero d rise lt within = absurd (omega arith)
  slots_rise_by_place low (user ∷ users) zero (suc j) d rise lt within = omega (arith, SlotsRise-at (user.slot.0 + 1) users j d rise.1 (omega arith))
  slots_rise_by_place low (user ∷ users) (suc i) (suc j) d rise lt within = slots_rise_by_place (user.slot.0 + 1) users i j d rise.1 (omega arith) (omega arith)

  place-at_slot : (low : ℕ) (users : List User) (slot : Slot) (i : ℕ) (d : User) → SlotsRise limit low users → i < length users → (get_or users i d).slot.0 ≡ slot.0 → position_or_len (has_slot slot) users ≡ i
  place-at_slot low [] slot i d rise within is = absurd (omega arith)
  place-at_slot low (user ∷ users) slot zero d rise within is = rw (in_slot user slot is) refl
  place-at_slot low (user ∷ users) slot (suc i) d rise within is =
      let above : user.slot.0 + 1 ≤ (get_or users i d).slot.0 = SlotsRise-at (user.slot.0 + 1) users i d rise.1 (omega arith) in
      let other : has_slot slot user ≡ false = ne_eqb _ _ (λ same. omega arith) in
      rw other (omega (arith, place-at_slot (user.slot.0 + 1) users slot i d rise.1 (omega arith) is))

module _ (limit : ℕ) (users : List User) (rise : SlotsRise limit 0 users) (slot : Slot) where
  pub place_of_slot : (r : Result ℕ ℕ) → IsSearchInRange r (length users) → IsBinarySearchResult (λ user. nat_cmp user.slot.0 slot.0) users r → MatchResult r (λ i. Some i ≡ position (has_slot slot) users) (λ i. None ≡ position (has_slot slot) users)
  place_of_slot (Ok i) within equal =
      let d : User = first users within in
      sym (position_is (has_slot slot) users i (place-at_slot limit 0 users slot i d rise within (found_by_halving (λ user. user.slot.0) slot.0 users slots (Ok i) within equal d)) within)
    where
      first : (us : List User) → i < length us → User
      first [] lt = absurd (omega arith)
      first (user ∷ us) lt = user

      slots : (i j : ℕ) (d : User) → i < j → j < length users → (get_or users i d).slot.0 < (get_or users j d).slot.0
      slots i j d = slots_rise_by_place limit 0 users i j d rise
  place_of_slot (Err i) within parted =
      sym (no_position (has_slot slot) users (no_slot users slot (found_by_halving (λ user. user.slot.0) slot.0 users slots (Err i) within parted)))
    where
      slots : (i j : ℕ) (d : User) → i < j → j < length users → (get_or users i d).slot.0 < (get_or users j d).slot.0
      slots i j d = slots_rise_by_place limit 0 users i j d rise

-- slots below a limit are below a higher one
pub SlotsRise-higher : (limit higher : ℕ) → limit ≤ higher → (low : ℕ) (users : List User) → SlotsRise limit low users → SlotsRise higher low users
SlotsRise-higher limit higher le low [] rise = omega arith
SlotsRise-higher limit higher le low (user ∷ users) rise = (rise.0, SlotsRise-higher limit higher le (user.slot.0 + 1) users rise.1)
