-- What a port of a worker does as steps of the core.
use Rattle.std.specs.Prelude.{◌≡◌, ◌≢◌, ◌==◌, ℕ, ◌+◌, ◌<◌, ◌≤◌, ⊤, true, false, IsTrue, List, [], ◌∷◌, ◌++◌, Option, Some, None, is_some, length, map, option_and_then, option_to_list, slice_get, if◌then◌else◌}
use Rattle.std.specs.{List.flat_map, Option.option_map}
use Rattle.mum_base.specs.declared.number.Cause.{Cause, TheVariants.Rejected, TheVariants.Kicked, TheVariants.Lagged}
use Rattle.mum_base.specs.declared.number.{SessionId.SessionId, Slot.Slot, TheConstants.SLOTS}
use Rattle.mum_base.specs.declared.reply.ReplyEnd.TheVariants.{Decided}
use Rattle.mum_io.specs.Link.{LinkFacts}
use Rattle.mum_frame.specs.Frame.{frame_spelling}
use Rattle.mum_frame.specs.declared.frame.Frame.{Frame}
use Rattle.mum_record.specs.declared.{head.Version.Version, step.Step.Step}
use Rattle.mum_record.specs.declared.step.Step.TheVariants.{Close, Collect, Drain, Frame as FrameStep, Open, Tell}
use Rattle.mum_state.specs.State.{StateValue}
use Rattle.mum_state.specs.declared.verdict.Verdict.{Verdict, TheVariants.Accepted}
use Rattle.mum_published.specs.Facts.{Opening}
use Rattle.mum_session.specs.{Action.action, Machine.Machine, Machine.answered, Reply.reply_end, Reply.wire}
use Rattle.mum_session.specs.declared.{action.TheConstants.BAN_LIST, command.Asked.Asked}
use Rattle.mum_core.specs.Connection.{is_untold, leave_waiting, wire_of}
use Rattle.mum_core.specs.{Laws.ran, Laws.told_notice, Laws.wired, Machine.stage_of, Reply.reply}
use Rattle.mum_core.specs.{Step.does, Step.frame_action, Step.illegal, Worker.HeldPacket, Worker.in_hand}
use Rattle.mum_core.specs.steps.{Close.has_cause, Collect.framed, Drain.carried, Tell.wire_to}
use Rattle.mum_core.specs.Core.{CoreState, connection_at, is_opened, outbox_at, posts_at, start, up, worker_at}
use Rattle.mum_core.specs.declared.connection.{Connection.Connection, Leave.TheVariants.Stays}
use Rattle.mum_core.specs.declared.machine.Totals.{Totals}
use Rattle.mum_port.specs.{Facts.PortFacts, Facts.may_handle, Facts.next_word, Handling.HandlesFirst, Handling.Sinks}
use Rattle.mum_port.specs.{Replies.TakesReply, Steps.ClosesFor, Steps.sinks}
use Rattle.mum_port.specs.{Taking.TakesPost, Taking.TakesVoice, Taking.foreign_count, Passes.PassesFacts}
use Rattle.mum_port.specs.declared.{item.DeskItem.DeskItem, stage.Stage.Stage}
use Rattle.mum_port.specs.declared.stage.Stage.TheVariants.{Ending, Live}
use Rattle.mum_worker.specs.{Hearing.TakesIn, Record.RecordFacts, Routing.CommonFacts, Routing.RoutesPacket}
use Rattle.mum_worker.specs.declared.intake.Intake.{Intake}
use Rattle.mum_worker_laws.specs.Lives.{Said, said_by}
use Rattle.mum_step_laws.specs.ControlSteps.{text_of_notice, text_of_parcel}
use Rattle.mum_step_laws.specs.WorkerSteps.{held_packet, parcel_of_core}
use Rattle.mum_port.specs.declared.item.DeskItem.TheVariants as items
use Rattle.mum_port.specs.declared.stage.Parting.TheVariants as partings
use Rattle.mum_session.specs.declared.session.Stage.TheVariants as stages

-- a connection of the core that is what this machine of a port knows of it. The machine awaits a reply exactly where
-- a command of its connection waits to be decided, or its reply to be sent
pub record IsKnownAs (machine : Machine) (connection : Connection) : Type 0 where
  pub worker_is : connection.worker ≡ machine.worker
  pub version_is : connection.version ≡ machine.version
  pub stage_is : stage_of connection ≡ machine.stage
  pub awaits_is : is_untold connection ≡ machine.awaits

-- the core has this connection open, and it is what the machine knows
pub record IsOpenAs (machine : Machine) (core : CoreState) : Type 0 where
  pub opened : is_opened core machine.connection ≡ true
  pub not_closed : (connection_at core machine.connection).closed ≡ None
  pub known : IsKnownAs machine (connection_at core machine.connection)

-- ---- a connection

-- a connection that a worker takes in, with the next number, is the step Open: the core has it open then, as its port
-- knows it
abbrev pub ConnectionsAreOpened : Type 0 → Type 0
ConnectionsAreOpened L =
    (intake : Intake) (connection : ℕ) (link : L) (ports : List (PortFacts L)) (kept : RecordFacts)
    (intake_after : Intake) (ports_after : List (PortFacts L)) (kept_after : RecordFacts)
    → TakesIn intake connection link ports kept intake_after ports_after kept_after
    → (core : CoreState) → connection ≡ length core.connections + 1 → intake.number < length core.workers
    → (illegal core (Open connection intake.number) ≡ None)
    × ((port : PortFacts L) × (ports_after ≡ ports ++ port ∷ []) × (port.machine.connection ≡ connection)
    × IsOpenAs port.machine (does core (Open connection intake.number)))

-- ---- a frame

-- the command in an item of the desk
abbrev pub asked_in : DeskItem → Option Asked
asked_in (items.Command command) = Some command.what
asked_in others = None

-- a packet that is said, as a worker of the core holds it
abbrev pub held_of : Said → HeldPacket
held_of said = held_packet said.speaker said.packet

-- the frame is taken by the step Frame: what it asks for is the same, what waits to be decided is the command that
-- waits for the desk, and what the worker holds is the packet that goes to the router
pub record TakesAsFrame (machine : Machine) (frame : Frame) (machine_after : Machine) (waiting : Option DeskItem)
    (core : CoreState) : Type 0 where
  pub allowed : illegal core (FrameStep machine.connection (frame_spelling frame)) ≡ None
  pub asks : frame_action core machine.connection (frame_spelling frame) ≡ action machine frame.kind frame.payload
  pub known : IsKnownAs machine_after (connection_at (does core (FrameStep machine.connection (frame_spelling frame)))
      machine.connection)
  pub waits :
      (connection_at (does core (FrameStep machine.connection (frame_spelling frame))) machine.connection).waiting
      ≡ option_and_then asked_in waiting
  pub holds :
      option_to_list (worker_at (does core (FrameStep machine.connection (frame_spelling frame))) machine.worker).held
      ≡ map held_of (said_by machine (Some (action machine frame.kind frame.payload)))

-- the first frame that a port keeps, which it handles, is the step Frame of its connection, where its worker has
-- nothing in hand. A list of bans is another thing: no step brings one
abbrev pub FramesAreFrames : Type 0 → Type 0
FramesAreFrames L =
    (opening : Opening) (old : PortFacts L) (router : CommonFacts) (went : _) (machine_after : Machine)
    (kept_after : List ℕ) (after : Sinks CommonFacts) → IsTrue (may_handle old)
    → (first : HandlesFirst (RoutesPacket opening) old.machine old.framer.kept (sinks old router) went machine_after
    kept_after after) → first.frame.kind ≢ BAN_LIST
    → (core : CoreState) → IsOpenAs old.machine core
    → old.machine.worker < length core.workers → in_hand (worker_at core old.machine.worker) ≡ 0
    → TakesAsFrame old.machine first.frame machine_after after.waiting core

-- a list of bans is no step: once its reply came, which is that it was decided, the core still knows the connection as it is
abbrev pub ListsAreNoSteps : Type 0 → Type 0
ListsAreNoSteps L =
    (opening : Opening) (old : PortFacts L) (router : CommonFacts) (went : _) (machine_after : Machine)
    (kept_after : List ℕ) (after : Sinks CommonFacts) → IsTrue (may_handle old)
    → (first : HandlesFirst (RoutesPacket opening) old.machine old.framer.kept (sinks old router) went machine_after
    kept_after after) → first.frame.kind ≡ BAN_LIST
    → (core : CoreState) → IsOpenAs old.machine core → IsOpenAs (answered Decided machine_after) core

-- ---- a reply

-- the reply to this verdict waits to be sent, and nothing else of the connection
pub record HasReply (machine : Machine) (revision : ℕ) (session : Option SessionId) (verdict : Verdict)
    (core : CoreState) : Type 0 where
  pub decided_is : (connection_at core machine.connection).decided ≡ Some (reply revision session verdict)
  pub none_waits : (connection_at core machine.connection).waiting ≡ None
  pub not_rejected : (connection_at core machine.connection).rejected ≡ false

-- a note comes with an accepted edit alone, has it, and is of edits that the core has published
abbrev pub MayNote : Verdict → ℕ → Option ℕ → CoreState → Type 0
MayNote verdict revision None core = ⊤
MayNote (Accepted edit) revision (Some noted) core = (revision ≤ noted) × (noted ≤ core.published)
MayNote others revision (Some noted) core = ⊥

-- a reply that an open port takes is sent by the step Tell, with a note or without: the connection is then what the
-- port knows of it, and what comes on its wire is what the port is to write
abbrev pub RepliesAreTold : {L : Type 0} → (L → LinkFacts) → Type 0
RepliesAreTold {L} facts =
    (bytes : List ℕ) (passes : Option PassesFacts) (old : PortFacts L) (closed : Option Cause) (new : PortFacts L)
    (revision : ℕ) (session : Option SessionId) (verdict : Verdict) (note : Option ℕ)
    → TakesReply facts (reply_end verdict) bytes passes old closed new → bytes ≡ wire session verdict
    → (core : CoreState) → IsOpenAs old.machine core → HasReply old.machine revision session verdict core
    → MayNote verdict revision note core
    → (illegal core (Tell old.machine.connection note) ≡ None)
    × IsKnownAs new.machine (connection_at (does core (Tell old.machine.connection note)) old.machine.connection)
    × (new.out ≡ old.out ++ wire_to core old.machine.connection)

-- ---- the boxes

-- the connection of the core is open, and has this session in this slot
pub record IsSeated (core : CoreState) (c : ℕ) (session : SessionId) (slot : Slot) : Type 0 where
  pub opened : is_opened core c ≡ true
  pub not_closed : (connection_at core c).closed ≡ None
  pub seat_is : (connection_at core c).seat ≡ Some (record { session = session; slot = slot })

-- the totals where n parcels for other sessions were taken, one at most
abbrev pub totals_after : ℕ → Totals → Totals
totals_after strays totals = if strays == 0 then totals else record totals { stale = up totals.stale }

-- a look of a port into its voice box is the step Drain, where the oldest copy of the core in its slot is what the
-- box gave: the bytes that are to be written are those that come on the wire, and a copy for another session is
-- counted
abbrev pub SpeechIsDrained : Type 0
SpeechIsDrained =
    (session : SessionId) (passes : PassesFacts) (took : _) (after : PassesFacts) (out : List ℕ)
    (takes : TakesVoice session passes took after out)
    → (core : CoreState) (c : ℕ) → IsSeated core c session passes.slot
    → slice_get (outbox_at core passes.slot.0) 0 ≡ option_map parcel_of_core takes.parcel
    → (illegal core (Drain c) ≡ None)
    × (flat_map (λ parcel. (carried parcel).frame) (wired core (Drain c)) ≡ out)
    × ((does core (Drain c)).totals ≡ totals_after (foreign_count took) core.totals)

-- a look of a port into its post box, for which it is live, is the step Collect, in the same way
abbrev pub NoticesAreCollected : Type 0
NoticesAreCollected =
    (session : SessionId) (passes : PassesFacts) (took : _) (after : PassesFacts) (out : List ℕ) (stage_after : Stage)
    (takes : TakesPost session passes Live took after out stage_after)
    → (core : CoreState) (c : ℕ) → IsSeated core c session passes.slot
    → option_map text_of_notice (slice_get (posts_at core passes.slot.0) 0) ≡ option_map text_of_parcel takes.parcel
    → (illegal core (Collect c) ≡ None)
    × (flat_map (λ notice. (framed notice).frame) (told_notice core (Collect c)) ≡ out)
    × ((does core (Collect c)).totals ≡ totals_after (foreign_count took) core.totals)

-- ---- the close

-- what the core has to know before a connection may end for a cause: that a login was rejected is known to the machine
abbrev pub KnowsCause : Machine → CoreState → Cause → Type 0
KnowsCause machine core Rejected = machine.stage ≡ stages.Rejected
KnowsCause machine core Kicked = has_cause core machine.connection Kicked ≡ true
KnowsCause machine core Lagged = has_cause core machine.connection Lagged ≡ true
KnowsCause machine core others = ⊤

-- a port that closes for a cause is the step Close: nothing more comes on the wire, and where the connection has not
-- left before, its leave waits to be decided, which is the first word that the port owes the desk
abbrev pub ClosesAreCloses : {L : Type 0} → (L → LinkFacts) → Type 0
ClosesAreCloses {L} facts =
    (cause : Cause) (old new : PortFacts L) → ClosesFor facts cause old new
    → (core : CoreState) → IsOpenAs old.machine core → KnowsCause old.machine core cause
    → (illegal core (Close old.machine.connection cause) ≡ None)
    × (is_some (connection_at (does core (Close old.machine.connection cause)) old.machine.connection).closed ≡ true)
    × (wire_of (connection_at (does core (Close old.machine.connection cause)) old.machine.connection) ≡ new.out)
    × ((connection_at core old.machine.connection).leave ≡ Stays
    → option_and_then asked_in (next_word new.machine new.stage)
    ≡ leave_waiting (connection_at (does core (Close old.machine.connection cause)) old.machine.connection).leave)

-- a port that ends since it took the last notice of its session closes as one that was kicked. In a core to which any
-- steps led, and in which that notice is the oldest of its slot, the connection may end for that, then and after any
-- more steps
abbrev pub KickedMayClose : Type 0
KickedMayClose =
    (session : SessionId) (passes : PassesFacts) (took : _) (after : PassesFacts) (out : List ℕ) (stage_after : Stage)
    (takes : TakesPost session passes Live took after out stage_after) → stage_after ≡ Ending partings.Kicked
    → (version : Version) (opening : StateValue) (workers : ℕ) (steps more : List Step) (c : ℕ)
    → IsSeated (ran (start version opening workers) steps) c session passes.slot → passes.slot.0 < SLOTS
    → option_map text_of_notice (slice_get (posts_at (ran (start version opening workers) steps) passes.slot.0) 0)
    ≡ option_map text_of_parcel takes.parcel
    → has_cause (ran (ran (start version opening workers) steps) more) c Kicked ≡ true
