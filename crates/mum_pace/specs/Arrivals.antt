-- How fast connections come in.
use Rattle.std.specs.Prelude.{ℕ, ◌-◌, ◌<◌, ◌≤◌, max, List, [], ◌∷◌}
use Rattle.mum_pace.specs.Meters.{given_back, room, used_with}
use Rattle.mum_pace.specs.declared.{arrivals.Arrivals.Arrivals, pace.Rate.Rate}

-- what those that came have used up of a rate, in thousandths, and since when time gives back
pub record ArrivalsState : Type 0 where
  pub used : ℕ
  pub milliseconds : ℕ

abbrev pub state_of : Arrivals → ArrivalsState
state_of arrivals = record { used = arrivals.used.thousandths; milliseconds = arrivals.milliseconds }

-- where none came
abbrev pub no_arrivals : ArrivalsState
no_arrivals = record { used = 0; milliseconds = 0 }

-- at this time
abbrev pub arrivals_at : Rate → ArrivalsState → ℕ → ArrivalsState
arrivals_at rate state time =
    record { used = given_back rate (time - state.milliseconds) state.used; milliseconds = max state.milliseconds time }

-- one more came in
abbrev pub counts_one : ArrivalsState → ArrivalsState
counts_one state = record { used = used_with state.used 1; milliseconds = state.milliseconds }

-- one came in at each of these times, of which none is before the one before it, and there was room for it then
abbrev pub ComeIn : Rate → ArrivalsState → List ℕ → Type 0
ComeIn rate state [] = Unit {0}
ComeIn rate state (time ∷ times) =
    (state.milliseconds ≤ time) × (0 < room rate (arrivals_at rate state time).used)
    × ComeIn rate (counts_one (arrivals_at rate state time)) times

-- the last of these times, or this one if there is none
abbrev pub last_of : ℕ → List ℕ → ℕ
last_of time [] = time
last_of time (next ∷ times) = last_of next times
