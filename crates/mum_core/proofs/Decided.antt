-- The seat that an accepted edit gives is below the limit.
use Rattle.mum_core.proofs.Common.{◌≡◌, ℕ, ◌<◌, ◌≤◌, ◌&&◌, Bool, true, false, List, length, None, Some, refl, arith, ◌==◌, IfSome, is_none, if◌then◌else◌, list_any, and_parts, eqb-true, leb-false, NameInUse, Full, SessionsUsedUp, free_slot, is_full, is_used_up, join_fault, next_number, next_slot, RosterState, are_tokens, has_name, free_slot_from-le, Edit, Join, Verdict, Accepted, gives_right_numbers, is_countable, sets_properly, names_there, IsProper, is_short, StateValue, FitsWhereAccepted, SLOTS, seat_of}

not_full : (a b c : Bool) → is_none (if a then Some NameInUse else if b then Some Full else if c then Some SessionsUsedUp else None) ≡ true → b ≡ false
not_full true b c none = cc
not_full false true c none = cc
not_full false false c none = refl

free_below : (roster : RosterState) (name : List ℕ) → roster.limit ≤ SLOTS → is_none (join_fault roster name) ≡ true → free_slot roster < SLOTS
free_below roster name within none =
    let room = not_full (list_any (has_name name) roster.sessions) (is_full roster) (is_used_up roster) none in
    let few : length roster.sessions < roster.limit = leb-false roster.limit (length roster.sessions) room in
    let low = free_slot_from-le 0 roster.sessions in
    omega arith

-- a session that joins takes the least free slot
pub fitting_seat : (state : StateValue) (decided : Verdict) → IsProper state → FitsWhereAccepted state decided → IfSome (seat_of decided) (λ seat. seat.slot.0 < SLOTS)
fitting_seat state (Accepted (Join session slot name account tokens)) proper fit =
    let edit : Edit = Join session slot name account tokens in
    let counted = and_parts (names_there state edit && gives_right_numbers state edit && sets_properly state edit) (is_countable state edit) fit in
    let sets = and_parts (names_there state edit && gives_right_numbers state edit) (sets_properly state edit) counted.0 in
    let right = and_parts (names_there state edit) (gives_right_numbers state edit) sets.0 in
    let numbers = and_parts (session.0 == (next_number state.roster).0) (slot.0 == (next_slot state.roster).0) right.1 in
    let named = and_parts (is_none (join_fault state.roster name) && is_short name) (are_tokens tokens) sets.1 in
    let none = and_parts (is_none (join_fault state.roster name)) (is_short name) named.0 in
    let at : slot.0 ≡ free_slot state.roster = eqb-true slot.0 (next_slot state.roster).0 numbers.1 in
    let low = free_below state.roster name proper.roster.limit_fits none.0 in
    omega arith
fitting_seat state (Accepted other) proper fit = tt
fitting_seat state others proper fit = tt
