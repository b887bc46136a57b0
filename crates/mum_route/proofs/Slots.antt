-- The slots of the sessions of a proper roster.
use Rattle.mum_route.proofs.Common.{◌≡◌, ℕ, zero, suc, ◌+◌, ◌<◌, ◌≤◌, Bool, true, false, cond, List, [], ◌∷◌, length, get_or, Option, Some, arith, find, SessionId, User, SlotsRise, session_of, RosterState, has_number}
use Rattle.mum_users.specs.Proper.{IsProper}

low_limit : (limit low : ℕ) (users : List User) → SlotsRise limit low users → low ≤ limit
low_limit limit low [] rise = rise
low_limit limit low (user ∷ users) rise = let rest = low_limit limit (user.slot.0 + 1) users rise.1 in let first = rise.0 in omega arith

-- the first one or a later one is found
of_found : (P : User → Type 0) (x user : User) (later : Option User) (b : Bool) → cond b (Some x) later ≡ Some user → P x → (later ≡ Some user → P user) → P user
of_found P x user later true e first rest = let same : x ≡ user = cc in rw same at first
of_found P x user later false e first rest = rest e

found_below : (p : User → Bool) (limit low : ℕ) (users : List User) (user : User) → SlotsRise limit low users → find p users ≡ Some user → user.slot.0 < limit
found_below p limit low [] user rise found = cc
found_below p limit low (x ∷ users) user rise found =
    let next = low_limit limit (x.slot.0 + 1) users rise.1 in
    of_found (λ one. one.slot.0 < limit) x user (find p users) (p x) found (omega arith)
    (found_below p limit (x.slot.0 + 1) users user rise.1)

-- the slot of a session that is found
pub slot_below : (roster : RosterState) (session : SessionId) (user : User) → IsProper roster → session_of roster session ≡ Some user → user.slot.0 < 512
slot_below roster session user proper found =
    let below = found_below (has_number session) roster.limit 0 roster.sessions user proper.slots found in omega (arith, below, proper.limit_fits)

each_low : (limit low : ℕ) (users : List User) (k : ℕ) (d : User) → SlotsRise limit low users → k < length users → (get_or users k d).slot.0 < limit
each_low limit low [] k d rise within = absurd (omega arith)
each_low limit low (user ∷ users) zero d rise within = let next = low_limit limit (user.slot.0 + 1) users rise.1 in omega arith
each_low limit low (user ∷ users) (suc k) d rise within = each_low limit (user.slot.0 + 1) users k d rise.1 (omega arith)

-- the slot of each
pub slots_below : (roster : RosterState) (k : ℕ) (d : User) → IsProper roster → k < length roster.sessions → (get_or roster.sessions k d).slot.0 < 512
slots_below roster k d proper within =
    let below = each_low roster.limit 0 roster.sessions k d proper.slots within in omega (arith, below, proper.limit_fits)
