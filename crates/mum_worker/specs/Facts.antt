-- What contracts see of a worker, as plain data.
use Rattle.std.specs.Prelude.{ℕ, Bool, true, false, ◌&&◌, ◌==◌, not, List, [], ◌∷◌, option_and_then, position, slice_get, Option}
use Rattle.mum_base.specs.declared.number.SessionId.{SessionId}
use Rattle.mum_outbox.specs.Facts.{PassFacts}
use Rattle.mum_session.specs.Machine.{session_of}
use Rattle.mum_port.specs.{Facts.PortFacts, Stage.is_gone}
use Rattle.mum_port.specs.declared.item.DeskItem.{DeskItem}
use Rattle.mum_worker.specs.{Bell.BellFacts, Boxes.BoxesFacts, Routing.CommonFacts}
use Rattle.mum_worker.specs.declared.intake.Intake.{Intake}

-- a worker: its number, its router and record, the boxes of all slots, its bell, its pass of the desk, its ports
pub record WorkerFacts (L : Type 0) : Type 0 where
  pub number : ℕ
  -- how many workers there are
  pub workers : ℕ
  -- the last connection that was taken in, which is 0 before the first
  pub last : ℕ
  pub common : CommonFacts
  pub boxes : BoxesFacts
  pub bell : BellFacts L
  pub desk : PassFacts DeskItem
  -- in the order in which they were taken in
  pub ports : List (PortFacts L)
  -- no connection comes any more
  pub ended : Bool

abbrev pub is_empty : {A : Type 0} → List A → Bool
is_empty [] = true
is_empty (x ∷ xs) = false

module _ {L : Type 0} where
  -- a port that owes the desk something is kept
  abbrev pub stays : PortFacts L → Bool
  stays port = not (is_gone port.stage)

  -- the port is of this connection
  abbrev pub is_of : ℕ → PortFacts L → Bool
  is_of connection port = port.machine.connection == connection

  -- the session of the port at a place, where it is logged in
  abbrev pub session_at : List (PortFacts L) → ℕ → Option SessionId
  session_at ports place =
      option_and_then (λ (port : PortFacts L). session_of port.machine.stage) (slice_get ports place)

  -- the session of the first port of a connection, where it is logged in
  abbrev pub speaker_of : List (PortFacts L) → ℕ → Option SessionId
  speaker_of ports connection = option_and_then (session_at ports) (position (is_of connection) ports)

  -- which connections it takes in
  abbrev pub intake_of : WorkerFacts L → Intake
  intake_of worker = record { number = worker.number; workers = worker.workers; last = worker.last }

  -- nothing more is to be done: no connection comes, and no port is left
  abbrev pub is_done : WorkerFacts L → Bool
  is_done worker = worker.ended && is_empty worker.ports
