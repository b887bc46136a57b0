-- The closing entries of a worker's journal.
use Rattle.std.specs.Prelude.{◌≡◌, ◌==◌, ℕ, Bool, true, false, Some, if◌then◌else◌}
use Rattle.mum_base.specs.declared.number.{Cause.TheVariants.Lagged, SessionId.SessionId}
use Rattle.mum_record.specs.declared.journal.WorkerEntry.{WorkerEntry}
use Rattle.mum_session.specs.Machine.{session_of}
use Rattle.mum_port.specs.{Facts.PortFacts, Stage.is_closed}
use Rattle.mum_worker_laws.specs.Befallen.{Befallen, Shut}
use Rattle.mum_record.specs.declared.journal.WorkerEntry.TheVariants as entries

-- an entry that closes a connection of which this holds
abbrev pub closes_one : (ℕ → Bool) → WorkerEntry → Bool
closes_one test (entries.Voice connection revision packet copies) = false
closes_one test (entries.Closed connection cause) = test connection

-- an open port whose connection it holds of
abbrev pub is_open_one : {L : Type 0} → (ℕ → Bool) → PortFacts L → Bool
is_open_one test port = if is_closed port.stage then false else test port.machine.connection

-- the closing entry of this connection, and its open port
abbrev pub is_closing_of : ℕ → WorkerEntry → Bool
is_closing_of connection entry = closes_one (λ closed. closed == connection) entry

abbrev pub is_open_of : {L : Type 0} → ℕ → PortFacts L → Bool
is_open_of connection port = is_open_one (λ open_one. open_one == connection) port

-- a port of this session is closed
abbrev pub IsClosedWhere : {L : Type 0} → SessionId → PortFacts L → Type 0
IsClosedWhere session port = session_of port.machine.stage ≡ Some session → is_closed port.stage ≡ true

-- a port closed for a lag
abbrev pub IsShutByLag : Befallen → Type 0
IsShutByLag one = one.happening ≡ Shut Lagged
