-- A worker offers its next copy to the outbox of its slot, where that has room.
use Rattle.std.specs.Prelude.{ℕ, Bool, true, false, List, [], ◌∷◌, ◌++◌, length, drop, Option, Some, None, is_none, nat_lt, slice_get, codes, decimal, if◌then◌else◌}
use Rattle.mum_base.specs.declared.number.TheConstants.{VOICE_CAPACITY}
use Rattle.mum_core.specs.declared.{outbox.Parcel.Parcel, worker.Outgoing.Outgoing}
use Rattle.mum_core.specs.{Case.Case, Case.no_worker, Worker.WorkerState}
use Rattle.mum_core.specs.Core.{CoreState, worker_at, outbox_at, at_worker, at_outbox, up}

-- the copy that a worker offers next, if one is left
abbrev pub next_copy : CoreState → ℕ → Option Outgoing
next_copy core w = slice_get (worker_at core w).copies 0

abbrev pub forbids : CoreState → ℕ → List Case
forbids core w = no_worker core w ∷ record { stands = is_none (next_copy core w); given = w; against = 0 } ∷ []

abbrev pub has_room : CoreState → ℕ → Bool
has_room core slot = nat_lt (length (outbox_at core slot)) VOICE_CAPACITY

-- a worker that has offered its next copy
abbrev pub left : WorkerState → WorkerState
left worker = record worker { copies = drop 1 worker.copies }

-- an outbox after an offer that found room in it, or none: the copy goes to its back
abbrev pub put : Bool → Outgoing → List Parcel → List Parcel
put true next parcels = parcels ++ record { to = next.to; bytes = next.bytes } ∷ []
put false next parcels = parcels

-- the copy goes to the back of the outbox and is counted, or is counted as one that found it full
abbrev pub puts : CoreState → Option Outgoing → CoreState
puts core None = core
puts core (Some next) =
    if has_room core next.slot.0
    then record (at_outbox next.slot.0 (λ parcels. put true next parcels) core)
    { totals = record core.totals { copies = up core.totals.copies } }
    else record core { totals = record core.totals { full = up core.totals.full } }

abbrev pub does : CoreState → ℕ → CoreState
does core w = puts (at_worker w (λ worker. left worker) core) (next_copy core w)

abbrev pub line_of : CoreState → ℕ → Option Outgoing → List (List ℕ)
line_of core w None = []
line_of core w (Some next) =
    (if has_room core next.slot.0 then codes "sent" else codes "full") ∷ decimal w ∷ decimal next.to.0 ∷ decimal next.context ∷ []

abbrev pub lines : CoreState → ℕ → List (List (List ℕ))
lines core w = line_of core w (next_copy core w) ∷ []
