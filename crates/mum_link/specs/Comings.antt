-- How fast connections come in.
use Rattle.std.specs.Prelude.{◌≡◌, ℕ, ◌<◌, Bool, true, false, Option, Some, None, nat_lt}
use Rattle.mum_pace.specs.{Arrivals.arrivals_at, Arrivals.counts_one, Arrivals.state_of, Meters.room}
use Rattle.mum_pace.specs.declared.arrivals.Arrivals.{Arrivals}

-- at this time the rate has room for one more, or it has not; where there is no rate, there is room
abbrev pub HaveRoom : Bool → ℕ → Option Arrivals → Option Arrivals → Type 0
HaveRoom answer now None new = (answer ≡ true) × (new ≡ None)
HaveRoom answer now (Some old) None = ⊥
HaveRoom answer now (Some old) (Some new) =
    (new.rate ≡ old.rate) × (state_of new ≡ arrivals_at old.rate (state_of old) now)
    × (answer ≡ nat_lt 0 (room old.rate (state_of new).used))

-- one more came in
abbrev pub CountsOne : Option Arrivals → Option Arrivals → Type 0
CountsOne None new = new ≡ None
CountsOne (Some old) None = ⊥
CountsOne (Some old) (Some new) = (new.rate ≡ old.rate) × (state_of new ≡ counts_one (state_of old))

-- a connection comes in at this time, or none does: where there is a rate, one comes in only where that has room for it, and is
-- counted
abbrev pub LetsIn : Bool → ℕ → Option Arrivals → Option Arrivals → Type 0
LetsIn comes now None new = new ≡ None
LetsIn comes now (Some old) None = ⊥
LetsIn false now (Some old) (Some new) =
    (new.rate ≡ old.rate) × (state_of new ≡ arrivals_at old.rate (state_of old) now)
LetsIn true now (Some old) (Some new) =
    (new.rate ≡ old.rate) × (state_of new ≡ counts_one (arrivals_at old.rate (state_of old) now))
    × (0 < room old.rate (arrivals_at old.rate (state_of old) now).used)
