-- A core at rest: nothing is underway, and each session is of the connection of its number.
use Rattle.mum_laws.proofs.Common.{◌≡◌, ℕ, ◌+◌, ◌-◌, ◌≤◌, ◌<◌, ◌%◌, Bool, true, false, cond, List, [], length, Option, Some, None, refl, sym, ap, subst, ◌∙◌, arith, is_none, is_some, nat_lt, not, slice_index_or, lt-ltb, SessionId, Slot, User, Each, Connection, Stays, Seat, first_that_stands, fresh, CoreState, at_connection, connection_at, current, is_opened, posts_at, worker_at, forbids, changed_at, WorkerState, in_hand, changed_other, changed_same, length-changed, at_place, conn, placed, WORKERS}

-- ---- what is at rest

-- a connection that asked for nothing that is not answered, and was not rejected
abbrev pub at_rest : ℕ → Option ℕ → Option Seat → Bool → Connection
at_rest worker version seat lagged = record {
  worker = worker;
  version = version;
  seat = seat;
  rejected = false;
  lagged = lagged;
  waiting = None;
  decided = None;
  leave = Stays;
  closed = None;
}

abbrev pub Rests : Connection → Type 0
Rests x = x ≡ at_rest x.worker x.version x.seat x.lagged

-- a worker with nothing in hand, that needs no revision that is not published
pub record IsFree (published : ℕ) (worker : WorkerState) : Type 0 where
  pub held : worker.held ≡ None
  pub copies : worker.copies ≡ []
  pub seen : worker.seen ≤ published
  pub told : worker.told ≤ published

-- the seat of this user
abbrev pub seat_as : SessionId → Slot → Seat
seat_as session slot = record { session = session; slot = slot }

-- a session whose connection is one of n, by the seats at their places
pub record HasSeat (n : ℕ) (seats : ℕ → Option Seat) (session : SessionId) (slot : Slot) : Type 0 where
  pub least : 1 ≤ session.0
  pub most : session.0 ≤ n
  pub seat : seats (session.0 - 1) ≡ Some (seat_as session slot)

abbrev pub AreSeated : ℕ → (ℕ → Option Seat) → List User → Type 0
AreSeated n seats users = Each (λ user. HasSeat n seats user.session user.slot) users

abbrev pub seats_of : CoreState → ℕ → Option Seat
seats_of core i = (conn core i).seat

pub record Rest (n : ℕ) (core : CoreState) : Type 0 where
  pub many : length core.connections ≡ n
  pub each : (i : ℕ) → Rests (conn core i)
  pub at : (i : ℕ) → i < n → (conn core i).worker ≡ i % WORKERS
  pub workers : length core.workers ≡ WORKERS
  pub free : (w : ℕ) → IsFree core.published (worker_at core w)
  pub published : core.published ≡ length core.accepted
  pub pending : core.pending ≡ []
  pub posts : (slot : ℕ) → posts_at core slot ≡ []
  pub seated : AreSeated n (seats_of core) (current core).roster.sessions

-- each of these connections has the session of its number
abbrev pub AllIn : ℕ → (ℕ → Option Seat) → Type 0
AllIn n seats = (i : ℕ) → i < n → (slot : Slot) × (seats i ≡ Some (seat_as (record { 0 = i + 1 }) slot))

-- ---- one connection changes

pub record OnlyAt (i : ℕ) (change : Connection → Connection) (old new : List Connection) : Type 0 where
  pub many : length new ≡ length old
  pub own : slice_index_or new i (fresh 0) ≡ change (slice_index_or old i (fresh 0))
  pub other : (j : ℕ) → (j ≡ i → ⊥) → slice_index_or new j (fresh 0) ≡ slice_index_or old j (fresh 0)

only_changed : (i : ℕ) (change : Connection → Connection) (xs : List Connection) → i < length xs → OnlyAt i change xs (changed_at i change xs)
only_changed i change xs within = record {
  many = length-changed xs i change;
  own = changed_same xs i change (fresh 0) within;
  other = λ j other. changed_other xs i j change (fresh 0) other;
}

pub only_at : (i : ℕ) (change : Connection → Connection) (core : CoreState) → i < length core.connections → OnlyAt i change core.connections (at_connection (i + 1) change core).connections
only_at i change core within =
    let first : nat_lt 0 (i + 1) ≡ true = lt-ltb 0 (i + 1) (omega arith) in
    let place : i + 1 - 1 ≡ i = omega arith in
    subst (OnlyAt i change core.connections)
    (sym (ap (λ (b : Bool). cond b (changed_at (i + 1 - 1) change core.connections) core.connections) first ∙ ap (λ (k : ℕ). changed_at k change core.connections) place))
    (only_changed i change core.connections within)

-- ---- a case that does not apply

pub passed : (b : Bool) (numbers : ℕ × ℕ) (rest : Option (ℕ × ℕ)) → b ≡ false → rest ≡ None → cond b (Some numbers) rest ≡ None
passed true numbers rest off none = cc
passed false numbers rest off none = none

pub is_there : (core : CoreState) (i : ℕ) → i < length core.connections → not (is_opened core (i + 1)) ≡ false
is_there core i within =
    let first : nat_lt 0 (i + 1) ≡ true = lt-ltb 0 (i + 1) (omega arith) in
    let second : nat_lt (i + 1 - 1) (length core.connections) ≡ true = lt-ltb (i + 1 - 1) (length core.connections) (omega (arith, within)) in
    rw (first, second) refl

pub here : (core : CoreState) (i : ℕ) → connection_at core (i + 1) ≡ conn core i
here core i = at_place core (i + 1) i refl

pub no_hands : (worker : WorkerState) → worker.held ≡ None → worker.copies ≡ [] → nat_lt 0 (in_hand worker) ≡ false
no_hands worker none empty = rw (none, empty) refl

-- who has a seat at rest may take what waits for it
pub may_take : (core : CoreState) (session : SessionId) (slot : Slot) → ((i : ℕ) → Rests (slice_index_or core.connections i (fresh 0)))
    → HasSeat (length core.connections) (λ i. (slice_index_or core.connections i (fresh 0)).seat) session slot → first_that_stands (forbids core session.0) ≡ None
may_take core session slot rest has =
    let c : ℕ = session.0 in
    let least = has.least in
    let most = has.most in
    let first : nat_lt 0 c ≡ true = lt-ltb 0 c (omega (arith, least)) in
    let second : nat_lt (c - 1) (length core.connections) ≡ true = lt-ltb (c - 1) (length core.connections) (omega (arith, least, most)) in
    let opened : not (is_opened core c) ≡ false = rw (first, second) refl in
    let at : connection_at core c ≡ slice_index_or core.connections (c - 1) (fresh 0) = placed core c first in
    let closed : is_some (connection_at core c).closed ≡ false = ap (λ (x : Connection). is_some x.closed) (at ∙ rest (c - 1)) in
    let seated : is_none (connection_at core c).seat ≡ false = ap (λ (x : Connection). is_none x.seat) at ∙ ap (λ (o : Option Seat). is_none o) has.seat in
    passed (not (is_opened core c)) _ _ opened (passed (is_some (connection_at core c).closed) _ _ closed (passed (is_none (connection_at core c).seat) _ _ seated refl))
