-- At a door with a rate no more connections come in than it allows.
use Rattle.mum_pace.proofs.Common.{◌≡◌, ℕ, ◌+◌, ◌-◌, ◌*◌, ◌^◌, ◌<◌, ◌≤◌, List, [], ◌∷◌, length, max, subst, arith, ArrivalsState, ComeIn, arrivals_at, counts_one, last_of, used_with, Rate}
use Rattle.mum_pace.proofs.Kept.{IsGivenBack, at_most, one_more}

no_earlier : (rate : Rate) (state : ArrivalsState) (times : List ℕ) → ComeIn rate state times → state.milliseconds ≤ last_of state.milliseconds times
no_earlier rate state [] come = omega arith
no_earlier rate state (time ∷ times) come =
    let now : max state.milliseconds time ≡ time = omega (arith, come.0) in
    let rest = no_earlier rate (counts_one (arrivals_at rate state time)) times come.2 in
    let later : time ≤ last_of time times = subst (λ (t : ℕ). t ≤ last_of t times) now rest in
    omega (arith, come.0, later)

-- what is used up at the end is no less than what all that came in take, without what time gave back
pub all_come_in : (rate : Rate) → rate.at_once < 2 ^ 32 → (times : List ℕ) (state : ArrivalsState) → state.used ≤ rate.at_once * 1000 → ComeIn rate state times
    → IsGivenBack rate state.used (last_of state.milliseconds times - state.milliseconds) (length times)
all_come_in rate few [] state fits come = omega (arith, fits)
all_come_in rate few (time ∷ times) state fits come =
    let next = counts_one (arrivals_at rate state time) in
    let now : max state.milliseconds time ≡ time = omega (arith, come.0) in
    let given : ℕ = state.used - (time - state.milliseconds) * rate.each_second in
    let fit = at_most rate.at_once given 1 (omega (arith, fits)) (omega (arith, come.1)) in
    let more = all_come_in rate few times next (omega (arith, fit)) come.2 in
    let later : time ≤ last_of time times = subst (λ (t : ℕ). t ≤ last_of t times) now (no_earlier rate next times come.2) in
    let behind = subst (λ (t : ℕ). used_with given 1 + length times * 1000 ≤ rate.at_once * 1000 + (last_of t times - max state.milliseconds time) * rate.each_second) now more in
    let all = one_more state.used rate.each_second rate.at_once state.milliseconds time (last_of time times) 1 (length times) later few fit behind in
    omega (arith, all)
