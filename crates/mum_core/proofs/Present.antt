-- What is known of the sessions of a proper state.
use Rattle.mum_core.proofs.Common.{◌≡◌, ℕ, ◌+◌, ◌<◌, ◌≤◌, Bool, true, false, cond, List, [], ◌∷◌, Option, Some, arith, find, AllByRecursion, SessionId, User, SlotsRise, has_number, IsProper, StateValue, SLOTS}
use Rattle.mum_users.specs.Sessions.{session_of}

-- ---- slots are below the limit

pub low_limit : (limit low : ℕ) (users : List User) → SlotsRise limit low users → low ≤ limit
low_limit limit low [] rise = rise
low_limit limit low (user ∷ users) rise = let rest = low_limit limit (user.slot.0 + 1) users rise.1 in let first = rise.0 in omega arith

-- slots below a limit are below a greater one
rise_within : (limit more low : ℕ) (users : List User) → limit ≤ more → SlotsRise limit low users → SlotsRise more low users
rise_within limit more low [] few rise = omega (arith, few, rise)
rise_within limit more low (user ∷ users) few rise = (rise.0, rise_within limit more (user.slot.0 + 1) users few rise.1)

pub each_below : (limit low : ℕ) (users : List User) → SlotsRise limit low users → AllByRecursion (λ user. user.slot.0 < limit) users
each_below limit low [] rise = tt
each_below limit low (user ∷ users) rise =
    let rest = low_limit limit (user.slot.0 + 1) users rise.1 in
    (omega arith, each_below limit (user.slot.0 + 1) users rise.1)

-- ---- whoever is found is one of them

holds_by : (P : User → Type 0) (x user : User) (rest : Option User) (b : Bool) → cond b (Some x) rest ≡ Some user → P x → (rest ≡ Some user → P user) → P user
holds_by P x user rest true e here later = let same : x ≡ user = cc in rw same at here
holds_by P x user rest false e here later = later e

found_holds : (P : User → Type 0) (p : User → Bool) (users : List User) (user : User) → find p users ≡ Some user → AllByRecursion P users → P user
found_holds P p [] user found all = cc
found_holds P p (x ∷ users) user found all = holds_by P x user (find p users) (p x) found all.0 (λ later. found_holds P p users user later all.1)

-- no session of a proper state has a slot that there cannot be
pub each_in_server : (state : StateValue) → IsProper state → AllByRecursion (λ user. user.slot.0 < SLOTS) state.roster.sessions
each_in_server state proper = each_below SLOTS 0 state.roster.sessions (rise_within state.roster.limit SLOTS 0 state.roster.sessions proper.roster.limit_fits proper.roster.slots)

-- a session that is found has a slot that there is
pub slot_below : (state : StateValue) (session : SessionId) (user : User) → IsProper state → session_of state.roster session ≡ Some user → user.slot.0 < SLOTS
slot_below state session user proper found =
    found_holds (λ user. user.slot.0 < SLOTS) (has_number session) state.roster.sessions user found (each_in_server state proper)
