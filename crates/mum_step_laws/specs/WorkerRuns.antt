-- The turns of a worker as steps of one worker of the core.
use mathlib.Core.List.{IsPrefix}
use Rattle.std.specs.Prelude.{◌≡◌, ◌↔◌, ◌<◌, ◌≤◌, ℕ, ⊤, true, false, List, [], ◌∷◌, ◌++◌, Option, Some, None, fold, is_none, length, replicate, slice_get, take}
use Rattle.std.specs.List.{flat_map}
use Rattle.mum_io.specs.Link.{LinkFacts}
use Rattle.mum_voice.specs.Packet.{packet}
use Rattle.mum_crew.specs.Turns.{TurnsTo}
use Rattle.mum_crew.specs.declared.role.Turn.{Turn}
use Rattle.mum_record.specs.declared.step.Step.TheVariants.{Frame, Look, Offer, Tell}
use Rattle.mum_state.specs.{After.at, State.StateValue}
use Rattle.mum_state.specs.declared.edit.Edit.{Edit}
use Rattle.mum_published.specs.{Calls.IsFresh, Facts.NoteFacts, Facts.Opening, Facts.PassFacts}
use Rattle.mum_session.specs.declared.action.Action.{Action, TheVariants.Voice}
use Rattle.mum_router.specs.Facts.{RouterFacts}
use Rattle.mum_core.specs.{Connection.is_untold, Step.does, Step.frame_action, Step.illegal}
use Rattle.mum_core.specs.steps.{Frame.holding, Frame.spoken, Look.copies, Look.looked, Offer.left}
use Rattle.mum_core.specs.steps.Tell.{edit_revision, has_edit, noted}
use Rattle.mum_core.specs.Core.{CoreState, connection_at, is_opened, state_at, worker_at}
use Rattle.mum_core.specs.Worker.{HeldPacket, WorkerState, idle, in_hand, least_look}
use Rattle.mum_core.specs.declared.{connection.Reply.Reply, connection.Seat.Seat, worker.Outgoing.Outgoing}
use Rattle.mum_worker.specs.{Facts.WorkerFacts, Hearing.LearnsGiven, Opening.HasOpened, Turning.WorkerTurned}
use Rattle.mum_worker_laws.specs.Laws.{Look as Packet, Moment, Told, Looked, Took, history, looks_in}
use Rattle.mum_step_laws.specs.ControlSteps.{revision_noted}
use Rattle.mum_step_laws.specs.WorkerSteps.{StandsAt, copies_for, held_packet}

-- ---- the steps of one worker

-- a step of the core as what it finds of one worker: a frame that is a packet of who has a seat, a reply with a note
-- of a revision or without, a look at a revision, and an offer
pub data WorkerStep : Type 0 where
  Hold : HeldPacket → WorkerStep
  Note : Option ℕ → WorkerStep
  LookAt : ℕ → WorkerStep
  OfferNext : WorkerStep

-- whether the cases of the core that speak of this worker allow the step, where n edits are published
abbrev pub Allows : ℕ → WorkerState → WorkerStep → Type 0
Allows published worker (Hold held) = in_hand worker ≡ 0
Allows published worker (Note None) = ⊤
Allows published worker (Note (Some revision)) = revision ≤ published
Allows published worker (LookAt revision) =
    (is_none worker.held ≡ false) × (least_look worker ≤ revision) × (revision ≤ published)
Allows published worker OfferNext = is_none (slice_get worker.copies 0) ≡ false

-- the worker after a step, where these states are at the revisions
abbrev pub after_step : (ℕ → StateValue) → WorkerState → WorkerStep → WorkerState
after_step states worker (Hold held) = holding held worker
after_step states worker (Note None) = worker
after_step states worker (Note (Some revision)) = noted revision worker
after_step states worker (LookAt revision) = looked revision (copies (states revision) worker.held) worker
after_step states worker OfferNext = left worker

-- ---- they are those of the core

-- the packet that an action is, of who has this seat
abbrev pub packet_in : Option Seat → Action → Option HeldPacket
packet_in seat (Voice payload) = spoken seat (packet payload)
packet_in seat others = None

-- no case of a connection forbids a frame of it
pub record MaySpeak (core : CoreState) (c : ℕ) : Type 0 where
  pub opened : is_opened core c ≡ true
  pub not_closed : (connection_at core c).closed ≡ None
  pub nothing_untold : is_untold (connection_at core c) ≡ false

-- a reply that waits has no note, or is of an accepted edit which the note has
abbrev pub HasNoted : Reply → Option ℕ → Type 0
HasNoted reply None = ⊤
HasNoted reply (Some revision) = (has_edit (Some reply) ≡ true) × (edit_revision (Some reply) ≤ revision)

-- no case of a connection forbids that a reply of it is sent, with this note
pub record MayBeTold (core : CoreState) (c : ℕ) (note : Option ℕ) : Type 0 where
  pub opened : is_opened core c ≡ true
  pub reply : Reply
  pub waits : (connection_at core c).decided ≡ Some reply
  pub fits : HasNoted reply note

-- the steps of one worker are steps of the core: allowed exactly where they are, and they do the same to this worker
pub record AreStepsOf (core : CoreState) (w : ℕ) : Type 0 where
  pub look : (revision : ℕ)
      → ((illegal core (Look w revision) ≡ None) ↔ Allows core.published (worker_at core w) (LookAt revision))
      × (worker_at (does core (Look w revision)) w ≡ after_step (state_at core) (worker_at core w) (LookAt revision))
  pub offer : ((illegal core (Offer w) ≡ None) ↔ Allows core.published (worker_at core w) OfferNext)
      × (worker_at (does core (Offer w)) w ≡ after_step (state_at core) (worker_at core w) OfferNext)
  pub frame : (c : ℕ) (bytes : List ℕ) (held : HeldPacket) → (connection_at core c).worker ≡ w
      → packet_in (connection_at core c).seat (frame_action core c bytes) ≡ Some held → MaySpeak core c
      → ((illegal core (Frame c bytes) ≡ None) ↔ Allows core.published (worker_at core w) (Hold held))
      × (worker_at (does core (Frame c bytes)) w ≡ after_step (state_at core) (worker_at core w) (Hold held))
  pub tell : (c : ℕ) (note : Option ℕ) → (connection_at core c).worker ≡ w → MayBeTold core c note
      → ((illegal core (Tell c note) ≡ None) ↔ Allows core.published (worker_at core w) (Note note))
      × (worker_at (does core (Tell c note)) w ≡ after_step (state_at core) (worker_at core w) (Note note))

abbrev pub WorkerStepsAreSteps : Type 0
WorkerStepsAreSteps = (core : CoreState) (w : ℕ) → w < length core.workers → AreStepsOf core w

-- ---- a note

-- a note that a worker learns is that of the step Tell
abbrev pub NotesAreTold : Type 0
NotesAreTold =
    (note : Option NoteFacts) (old new : RouterFacts) → LearnsGiven note old new
    → (core : CoreState) (c w : ℕ) (held : Option HeldPacket) (left_over : List Outgoing)
    → (connection_at core c).worker ≡ w → w < length core.workers → StandsAt old.pass held left_over (worker_at core w)
    → StandsAt new.pass held left_over (worker_at (does core (Tell c (revision_noted note))) w)

-- ---- runs of steps

module _ (states : ℕ → StateValue) where
  -- each step is allowed where it comes
  abbrev pub AllowsEach : ℕ → WorkerState → List WorkerStep → Type 0
  AllowsEach published worker [] = ⊤
  AllowsEach published worker (step ∷ steps) =
      Allows published worker step × AllowsEach published (after_step states worker step) steps

  abbrev pub after_steps : WorkerState → List WorkerStep → WorkerState
  after_steps worker steps = fold (after_step states) worker steps

  abbrev pub offered_by : WorkerState → WorkerStep → List Outgoing
  offered_by worker OfferNext = take 1 worker.copies
  offered_by worker others = []

  -- the copies that the offers take, in order
  abbrev pub offered : WorkerState → List WorkerStep → List Outgoing
  offered worker [] = []
  offered worker (step ∷ steps) = offered_by worker step ++ offered (after_step states worker step) steps

-- ---- the turns of a worker

-- a reply that was heard is one step, and so is what was learnt of parcels; a packet that was routed is taken and looked for, and each of its copies is
-- offered
abbrev pub steps_of : Moment → List WorkerStep
steps_of (Told reply) = Note (revision_noted reply.note) ∷ []
steps_of (Took takes learnt) = Note (revision_noted learnt) ∷ []
steps_of (Looked look) =
    Hold (held_packet look.speaker look.packet) ∷ LookAt (length look.edits)
    ∷ replicate (length look.deliveries) OfferNext

-- the copies that a worker offered of a packet
abbrev pub copies_offered : Packet → List Outgoing
copies_offered look = copies_for look.speaker look.packet look.deliveries

-- these moments are steps of a worker of the core that did nothing before, where these edits are published: each is
-- allowed where it comes, the offers take the copies that were offered, in order, and the worker comes to be where
-- this pass is, with nothing in hand
pub record IsWorkerOf (opening : Opening) (published : List Edit) (moments : List Moment)
    (pass : PassFacts) : Type 0 where
  pub allowed : AllowsEach (at opening.state published) (length published) idle (flat_map steps_of moments)
  pub offers : offered (at opening.state published) idle (flat_map steps_of moments)
      ≡ flat_map copies_offered (looks_in moments)
  pub stands : StandsAt pass None [] (after_steps (at opening.state published) idle (flat_map steps_of moments))

-- over turns a worker is a worker of the core, where what its pass knows at last begins what is published
abbrev pub WorkersAreWorkers : {L : Type 0} → (L → LinkFacts) → Type 0
WorkersAreWorkers {L} facts =
    (opening : Opening) (number : ℕ) (pass : PassFacts) (journal : Option ℕ)
    (opened worker : WorkerFacts L) (turns : List Turn) (published : List Edit)
    → HasOpened number pass journal opened → IsFresh opening pass
    → (all : TurnsTo (WorkerTurned facts opening) opened turns worker)
    → IsPrefix worker.common.router.pass.known published
    → IsWorkerOf opening published (history facts opening opened turns worker all) worker.common.router.pass
