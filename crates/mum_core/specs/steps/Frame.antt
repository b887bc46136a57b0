-- The worker of a connection takes a frame.
use Rattle.std.specs.Prelude.{ℕ, List, [], ◌∷◌, Option, Some, None, Result, Ok, Err, nat_lt, codes, decimal}
use Rattle.hex.specs.Hex.{encode_lower}
use Rattle.mum_base.specs.Codes.{reason_code}
use Rattle.mum_base.specs.declared.outcome.Reason.TheVariants.{NotRead}
use Rattle.mum_voice.specs.declared.fault.BadVoice.{BadVoice}
use Rattle.mum_voice.specs.Packet.{Parts, packet}
use Rattle.mum_session.specs.declared.action.Action.{Action}
use Rattle.mum_session.specs.declared.action.Action.TheVariants.{Ask, Voice, Echo, Keep, Ignore, Bans}
use Rattle.mum_core.specs.declared.connection.Seat.{Seat}
use Rattle.mum_core.specs.Case.{Case, is_closed, not_opened}
use Rattle.mum_core.specs.Connection.{asking, is_untold, untold}
use Rattle.mum_core.specs.Worker.{HeldPacket, WorkerState, in_hand}
use Rattle.mum_core.specs.Core.{CoreState, connection_at, worker_at, at_connection, at_worker}

abbrev pub forbids : CoreState → ℕ → List Case
forbids core c =
    let connection = connection_at core c in
    let left = in_hand (worker_at core connection.worker) in
    not_opened core c
    ∷ is_closed core c
    ∷ record { stands = is_untold connection; given = c; against = untold connection }
    ∷ record { stands = nat_lt 0 left; given = connection.worker; against = left }
    ∷ []

-- the packet of who has a seat, if it parses
abbrev pub spoken : Option Seat → Result Parts BadVoice → Option HeldPacket
spoken (Some seat) (Ok parts) = Some (record { speaker = seat.session; parts = parts })
spoken seat read = None

-- a worker that takes a packet
abbrev pub holding : HeldPacket → WorkerState → WorkerState
holding held worker = record worker { held = Some held }

-- the worker holds a packet; one that doesn't parse is answered by its fault, and dropped
abbrev pub hears : CoreState → ℕ → Option HeldPacket → CoreState
hears core w None = core
hears core w (Some held) = at_worker w (λ worker. holding held worker) core

-- what an action changes of the core, where the connection has sent this version. No frame of a recording asks for bans
abbrev pub does : CoreState → ℕ → Option ℕ → Action → CoreState
does core c version (Ask command) = at_connection c (asking command.what) core
does core c version (Voice payload) =
    hears core (connection_at core c).worker (spoken (connection_at core c).seat (packet payload))
does core c version Keep = at_connection c (λ connection. record connection { version = version }) core
does core c version others = core

abbrev pub heard_line : ℕ → Result Parts BadVoice → List (List ℕ)
heard_line c (Ok parts) = codes "heard" ∷ decimal c ∷ []
heard_line c (Err fault) = codes "bad" ∷ decimal c ∷ decimal fault.code ∷ []

abbrev pub line : ℕ → Action → List (List ℕ)
line c (Ask command) = codes "asked" ∷ decimal c ∷ []
line c (Voice payload) = heard_line c (packet payload)
line c (Echo frame) = codes "echo" ∷ decimal c ∷ encode_lower frame ∷ []
line c Keep = codes "kept" ∷ decimal c ∷ []
line c (Ignore why) = codes "ignored" ∷ decimal c ∷ decimal why ∷ []
line c (Bans payload) = codes "ignored" ∷ decimal c ∷ decimal (reason_code NotRead) ∷ []

abbrev pub lines : ℕ → Action → List (List (List ℕ))
lines c action = line c action ∷ []
