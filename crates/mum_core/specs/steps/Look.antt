-- A worker enters the published state for the packet that it holds.
use Rattle.std.specs.Prelude.{ℕ, List, [], ◌∷◌, ◌++◌, length, map, Option, Some, None, is_none, nat_lt, codes, decimal}
use Rattle.mum_state.specs.State.{StateValue}
use Rattle.mum_route.specs.declared.hearer.Hearer.{Hearer}
use Rattle.mum_route.specs.Hearers.{copy_for, hearers_at}
use Rattle.mum_core.specs.declared.worker.Outgoing.{Outgoing}
use Rattle.mum_core.specs.{Case.Case, Case.no_worker, Worker.HeldPacket, Worker.WorkerState, Worker.least_look}
use Rattle.mum_core.specs.Core.{CoreState, worker_at, state_at, at_worker, up}

abbrev pub forbids : CoreState → ℕ → ℕ → List Case
forbids core w revision =
    let worker = worker_at core w in
    no_worker core w
    ∷ record { stands = is_none worker.held; given = w; against = 0 }
    ∷ record { stands = nat_lt revision (least_look worker); given = revision; against = least_look worker }
    ∷ record { stands = nat_lt core.published revision; given = revision; against = core.published }
    ∷ []

-- who hears the packet, if there is one
abbrev pub audience : StateValue → Option HeldPacket → List Hearer
audience state None = []
audience state (Some held) = hearers_at state held.speaker held.parts.target

-- the copy that is offered to one who hears the packet, for its slot
abbrev pub outgoing : HeldPacket → Hearer → Outgoing
outgoing held hearer = record {
  to = hearer.session;
  slot = hearer.slot;
  context = hearer.context;
  bytes = copy_for held.speaker held.parts hearer;
}

abbrev pub copies : StateValue → Option HeldPacket → List Outgoing
copies state None = []
copies state (Some held) = map (outgoing held) (audience state (Some held))

-- a worker whose look at a revision found these copies: it holds no packet, and has them to offer
abbrev pub looked : ℕ → List Outgoing → WorkerState → WorkerState
looked revision found worker = record worker { seen = revision; held = None; copies = found }

abbrev pub does : CoreState → ℕ → ℕ → CoreState
does core w revision =
    let found = copies (state_at core revision) (worker_at core w).held in
    record (at_worker w (λ worker. looked revision found worker) core)
    { totals = record core.totals { looks = up core.totals.looks } }

-- a session and how the packet reaches it: SESSION/CONTEXT
abbrev pub hearer_word : Hearer → List ℕ
hearer_word hearer = decimal hearer.session.0 ++ 47 ∷ decimal hearer.context

abbrev pub route_words : ℕ → ℕ → List Hearer → List (List ℕ)
route_words w revision hearers =
    codes "route" ∷ decimal w ∷ decimal revision ∷ decimal (length hearers) ∷ map hearer_word hearers

abbrev pub lines : CoreState → ℕ → ℕ → List (List (List ℕ))
lines core w revision = route_words w revision (audience (state_at core revision) (worker_at core w).held) ∷ []
