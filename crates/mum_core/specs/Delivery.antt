-- A connection takes the oldest of what waits in its slot. What is for another session is dropped, and counted as
-- stale.
use Rattle.std.specs.Prelude.{ℕ, ◌==◌, Bool, List, [], ◌∷◌, Option, Some, None, is_none, codes, decimal, if◌then◌else◌}
use Rattle.mum_base.specs.declared.number.SessionId.{SessionId}
use Rattle.mum_core.specs.declared.connection.Seat.{Seat}
use Rattle.mum_core.specs.{Case.Case, Case.is_closed, Case.not_opened, Core.CoreState, Core.connection_at, Core.up}
use Rattle.mum_core.specs.Line.{wire_words}

-- what waits for a session, and the frame by which it comes on the wire
pub record Delivery : Type 0 where
  pub to : SessionId
  pub frame : List ℕ

-- what waits in the slots of the core: the oldest in a slot, if there is one, and the core without it
pub record Queues : Type 0 where
  pub oldest : CoreState → ℕ → Option Delivery
  pub without : ℕ → CoreState → CoreState

-- a connection that is closed or has no seat takes nothing
abbrev pub forbids : CoreState → ℕ → List Case
forbids core c =
    not_opened core c ∷ is_closed core c
    ∷ record { stands = is_none (connection_at core c).seat; given = c; against = 0 } ∷ []

abbrev pub is_for : SessionId → Seat → Bool
is_for to seat = to.0 == seat.session.0

-- one that was stale is counted
abbrev pub with_stale : CoreState → CoreState
with_stale core = record core { totals = record core.totals { stale = up core.totals.stale } }

-- the oldest goes, if there is one
abbrev pub takes : Queues → CoreState → Seat → Option Delivery → CoreState
takes queues core seat None = core
takes queues core seat (Some oldest) =
    let rest = queues.without seat.slot.0 core in
    if is_for oldest.to seat then rest else with_stale rest

abbrev pub does_from : Queues → CoreState → Option Seat → CoreState
does_from queues core None = core
does_from queues core (Some seat) = takes queues core seat (queues.oldest core seat.slot.0)

abbrev pub does : Queues → CoreState → ℕ → CoreState
does queues core c = does_from queues core (connection_at core c).seat

abbrev pub line : ℕ → Seat → Option Delivery → List (List ℕ)
line c seat None = codes "empty" ∷ decimal c ∷ []
line c seat (Some oldest) = if is_for oldest.to seat then wire_words c oldest.frame else codes "stale" ∷ decimal c ∷ []

abbrev pub line_from : Queues → CoreState → ℕ → Option Seat → List (List ℕ)
line_from queues core c None = []
line_from queues core c (Some seat) = line c seat (queues.oldest core seat.slot.0)

abbrev pub lines : Queues → CoreState → ℕ → List (List (List ℕ))
lines queues core c = line_from queues core c (connection_at core c).seat ∷ []
