-- One frame goes out by slots.
use Rattle.mum_notify.proofs.Common.{ℕ, zero, suc, ◌+◌, ◌<◌, ◌≤◌, List, [], ◌∷◌, length, get_or, arith, AllPairs, SlotsRise, User, IsProper, StateValue, to_each, Notice}

at_least : (frame : List ℕ) (limit low : ℕ) (users : List User) → SlotsRise limit low users → (j : ℕ) (d : Notice) → j < length (to_each users frame) → low ≤ (get_or (to_each users frame) j d).slot.0
at_least frame limit low [] rise j d within = absurd (omega arith)
at_least frame limit low (user ∷ users) rise zero d within = rise.0
at_least frame limit low (user ∷ users) rise (suc j) d within =
    let later : user.slot.0 + 1 ≤ (get_or (to_each users frame) j d).slot.0 = at_least frame limit (user.slot.0 + 1) users rise.1 j d (omega arith) in
    let here : low ≤ user.slot.0 = rise.0 in
    omega arith

rising : (frame : List ℕ) (limit low : ℕ) (users : List User) → SlotsRise limit low users → AllPairs (λ one later. one.slot.0 < later.slot.0) (to_each users frame)
rising frame limit low [] rise i j d less within = absurd (omega arith)
rising frame limit low (user ∷ users) rise zero zero d less within = absurd (omega arith)
rising frame limit low (user ∷ users) rise zero (suc j) d less within =
    let later : user.slot.0 + 1 ≤ (get_or (to_each users frame) j d).slot.0 = at_least frame limit (user.slot.0 + 1) users rise.1 j d (omega arith) in
    omega arith
rising frame limit low (user ∷ users) rise (suc i) zero d less within = absurd (omega arith)
rising frame limit low (user ∷ users) rise (suc i) (suc j) d less within = rising frame limit (user.slot.0 + 1) users rise.1 i j d (omega arith) (omega arith)

pub goes_by_slots_lem : (state : StateValue) (frame : List ℕ) → IsProper state → AllPairs (λ one later. one.slot.0 < later.slot.0) (to_each state.roster.sessions frame)
goes_by_slots_lem state frame proper = rising frame state.roster.limit 0 state.roster.sessions proper.roster.slots
