-- A connection that is alone in its slot is sent all that leaves the slot's outbox for its session.
use Rattle.mum_core.proofs.Common.{◌≡◌, ℕ, ◌-◌, Bool, true, false, cond, List, [], ◌∷◌, ◌++◌, take, Option, Some, None, refl, sym, ap, ◌∙◌, inl, inr, ◌⊎◌, filter, ◌==◌, AllByRecursion, cases_eq, eq-eqb, eqb-true, same_Some, IsProper, StateValue, Connection, Seat, Parcel, Version, Step, Drain, CoreState, start, connection_at, outbox_at, state_at, IsRun, front, front_for, gathered, heard, own_front, ran, removed, does}
use Rattle.mum_core.proofs.{Arrivals.seats_present, Copies.AllLooked, Copies.looks_before, Fitted.lawful_all, Fitted.lawful_start, Orders.Fits, Orders.fits_start, Orders.fits_step, Orders.looks_fit, Places.conn, Places.placed, Settled.AreSettled, Settled.seat_on, Settled.seat_placed, Settled.settled_start, Settled.settled_step, Told.own_is_removed}

-- the copies of all looks at a state are for the session in this slot alone
abbrev LooksFit : ℕ → ℕ → StateValue → Type 0
LooksFit n slot state = AllLooked (λ copy. copy.to.0 ≡ n → copy.slot.0 ≡ slot) state

-- each seat is of the session, or in another slot
abbrev AreApart : ℕ → ℕ → CoreState → Type 0
AreApart n slot core = (d : ℕ) (other : Seat) → (connection_at core d).seat ≡ Some other → (other.session.0 ≡ n) ⊎ (other.slot.0 ≡ slot → ⊥)

none_of : (n slot at : ℕ) (box : List Parcel) → AllByRecursion (λ parcel. parcel.to.0 ≡ n → at ≡ slot) box → (at ≡ slot → ⊥) → filter (λ (parcel : Parcel). parcel.to.0 == n) (take 1 box) ≡ []
none_of n slot at [] all far = refl
none_of n slot at (parcel ∷ box) all far = from (parcel.to.0 == n) refl
  where
    from : (b : Bool) → (parcel.to.0 == n) ≡ b → cond b (parcel ∷ []) [] ≡ []
    from true e = absurd (far (all.0 (eqb-true parcel.to.0 n e)))
    from false e = refl

drain_alone : (n slot : ℕ) (core : CoreState) (seat : Option Seat) → Fits n slot core → ((other : Seat) → seat ≡ Some other → (other.session.0 ≡ n) ⊎ (other.slot.0 ≡ slot → ⊥))
    → front_for n core seat ≡ filter (λ (parcel : Parcel). parcel.to.0 == n) (front core seat)
drain_alone n slot core None fits apart = refl
drain_alone n slot core (Some other) fits apart = from (other.session.0 == n) refl (apart other refl)
  where
    from : (b : Bool) → (other.session.0 == n) ≡ b → (other.session.0 ≡ n) ⊎ (other.slot.0 ≡ slot → ⊥)
        → cond b (own_front core (Some other)) [] ≡ filter (λ (parcel : Parcel). parcel.to.0 == n) (front core (Some other))
    from true e either = own_is_removed n core other (eqb-true other.session.0 n e)
    from false e (inl same) = let never : (other.session.0 == n) ≡ true = eq-eqb other.session.0 n same in cc
    from false e (inr far) = sym (none_of n slot other.slot.0 (outbox_at core other.slot.0) (fits.parcels other.slot.0) far)

step_alone : (n slot : ℕ) (core : CoreState) (step : Step) → Fits n slot core → AreApart n slot core → heard n core step ≡ removed n core step
step_alone n slot core (Drain d) fits apart = drain_alone n slot core (connection_at core d).seat fits (apart d)
step_alone n slot core others fits apart = refl

all_alone : (n slot : ℕ) (core : CoreState) (run : List Step) → AreSettled core → Fits n slot core → ((revision : ℕ) → LooksFit n slot (state_at (ran core run) revision))
    → AreApart n slot (ran core run) → gathered (heard n) core run ≡ gathered (removed n) core run
all_alone n slot core [] settled fits looks apart = refl
all_alone n slot core (step ∷ run) settled fits looks apart =
    let first = step_alone n slot core step fits (λ d other is. apart d other (seat_on core (step ∷ run) d other settled is)) in
    let next = fits_step n slot core step (looks_before (λ copy. copy.to.0 ≡ n → copy.slot.0 ≡ slot) core (step ∷ run) looks) fits in
    let later = all_alone n slot (does core step) run (settled_step core step settled) next looks apart in
    ap (λ (xs : List Parcel). xs ++ gathered (heard n) (does core step) run) first ∙ ap (λ (xs : List Parcel). removed n core step ++ xs) later

pub alone_hears_all : (version : Version) (opening : StateValue) (workers c : ℕ) (seat : Seat) (run : List Step) → IsProper opening → IsRun (start version opening workers) run
    → (connection_at (ran (start version opening workers) run) c).seat ≡ Some seat
    → ((d : ℕ) (other : Seat) → (connection_at (ran (start version opening workers) run) d).seat ≡ Some other → other.slot.0 ≡ seat.slot.0 → d ≡ c)
    → gathered (heard seat.session.0) (start version opening workers) run ≡ gathered (removed seat.session.0) (start version opening workers) run
alone_hears_all version opening workers c seat run proper is_run is alone =
    let first : CoreState = start version opening workers in
    let core : CoreState = ran first run in
    let begun = lawful_start version opening workers proper in
    let here : (conn core (c - 1)).seat ≡ Some seat = sym (ap (λ (x : Connection). x.seat) (placed core c (seat_placed core c seat is))) ∙ is in
    let present = seats_present version opening workers run (c - 1) begun seat (inl here) in
    all_alone seat.session.0 seat.slot.0 first run (settled_start version opening workers) (fits_start seat.session.0 seat.slot.0 version opening workers)
    (looks_fit core present.0 seat.session seat.slot (lawful_all first run begun) present.1) (λ d other there. from d other there (cases_eq other.slot.0 seat.slot.0))
  where
    from : (d : ℕ) (other : Seat) → (connection_at (ran (start version opening workers) run) d).seat ≡ Some other → (other.slot.0 ≡ seat.slot.0) ⊎ (other.slot.0 ≡ seat.slot.0 → ⊥)
        → (other.session.0 ≡ seat.session.0) ⊎ (other.slot.0 ≡ seat.slot.0 → ⊥)
    from d other there (inl same) =
        let mine : Some other ≡ Some seat = sym there ∙ ap (λ (n : ℕ). (connection_at (ran (start version opening workers) run) n).seat) (alone d other there same) ∙ is in
        inl (ap (λ (one : Seat). one.session.0) (same_Some other seat mine))
    from d other there (inr far) = inr far
