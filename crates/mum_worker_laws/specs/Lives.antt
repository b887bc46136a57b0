-- The ports that a worker has over its turns, what happens to each of them, and what they put on the desk.
use mathlib.Core.Logic.{inl, inr}
use Rattle.std.specs.Prelude.{◌≡◌, ◌≢◌, ◌==◌, ◌<◌, ◌+◌, ⊤, ℕ, Bool, false, IsTrue, List, [], ◌∷◌, ◌++◌, All, filter, length, map, Option, Some, None, Result, Ok, Err, if◌then◌else◌, option_to_list}
use Rattle.std.specs.List.{filter_map, flat_map}
use Rattle.mum_base.specs.declared.number.{Cause.TheVariants.End, SessionId.SessionId}
use Rattle.mum_io.specs.Link.{LinkFacts}
use Rattle.mum_frame.specs.{Frame.IsFrame, Frame.frame_spelling, Stream.IsFront, Stream.Splits}
use Rattle.mum_frame.specs.declared.frame.Frame.{Frame}
use Rattle.mum_voice.specs.Packet.{Parts, packet}
use Rattle.mum_voice.specs.declared.fault.BadVoice.{BadVoice}
use Rattle.mum_crew.specs.Turns.{TurnsTo}
use Rattle.mum_crew.specs.declared.role.Turn.{Turn}
use Rattle.mum_published.specs.Bell.{Rung, Answer, Comes, Lagging, NoMore}
use Rattle.mum_published.specs.Facts.{Opening}
use Rattle.mum_session.specs.Machine.{Machine, session_of}
use Rattle.mum_session.specs.declared.action.Action.{TheVariants.Voice, Action}
use Rattle.mum_port.specs.{Did.action_of, Facts.PortFacts, Facts.new_port, Stage.cause_of, Stage.is_closed}
use Rattle.mum_port.specs.Life.{Event, Lives, bytes_queued, bytes_taken, bytes_written, frames_handled, in_step, items_asked, items_put, words_said}
use Rattle.mum_port.specs.declared.item.DeskItem.{DeskItem}
use Rattle.mum_worker.specs.Facts.{WorkerFacts, is_of, intake_of, stays}
use Rattle.mum_worker.specs.{Hearing.Hears, Hearing.TakesOrTurns, Record.RecordFacts, Routing.RoutesPacket}
use Rattle.mum_worker.specs.{Intake.worker_of, Turning.WorkerTurned}
use Rattle.mum_worker.specs.declared.intake.Intake.{Intake}
use Rattle.mum_worker_laws.specs.Laws.{Moment, Take, Told, Looked, Took, history, take_in, takes_by}
use Rattle.mum_worker_laws.specs.Befallen.{Happening, befallen, happenings, happenings_of}
use Rattle.mum_port.specs.declared.item.DeskItem.TheVariants as items

-- ---- counting

-- how many pass the test
abbrev pub count : {A : Type 0} → (A → Bool) → List A → ℕ
count test xs = length (filter test xs)

-- ---- the desk

-- an item of the desk that is of this connection
abbrev pub is_item_of : ℕ → DeskItem → Bool
is_item_of connection (items.Command command) = command.connection == connection
is_item_of connection (items.Closed closed) = closed == connection
is_item_of connection (items.Bans sender session payload) = sender == connection

-- the item that says that the port of this connection is gone
abbrev pub is_closed_of : ℕ → DeskItem → Bool
is_closed_of connection (items.Closed closed) = closed == connection
is_closed_of connection others = false

-- what is there of a connection, in order
abbrev pub items_of : ℕ → List DeskItem → List DeskItem
items_of connection desk = filter (is_item_of connection) desk

-- ---- what is said

-- a packet that a session says
pub record Said : Type 0 where
  pub speaker : SessionId
  pub packet : Parts

-- bytes that a session says, where they are a packet
abbrev pub said_of : Option SessionId → Result Parts BadVoice → List Said
said_of None read = []
said_of (Some speaker) (Err fault) = []
said_of (Some speaker) (Ok parts) = record { speaker = speaker; packet = parts } ∷ []

-- the packet that a frame is which asks for this
abbrev pub said_by : Machine → Option Action → List Said
said_by machine (Some (Voice bytes)) = said_of (session_of machine.stage) (packet bytes)
said_by machine others = []

-- the packets that the frames of a port are, in order
abbrev pub packets_said : List Event → List Said
packets_said events = flat_map (in_step (λ machine did. said_by machine (action_of machine did.handled))) events

-- a packet that was routed, where it is of this connection
abbrev pub routed_of : ℕ → Moment → Option Said
routed_of connection (Told reply) = None
routed_of connection (Took takes learnt) = None
routed_of connection (Looked look) =
    if look.connection == connection then Some (record { speaker = look.speaker; packet = look.packet }) else None

-- what was taken by a port of this connection
abbrev pub taken_of : ℕ → Moment → List Take
taken_of connection moment = filter (λ take. take.connection == connection) (take_in moment)

-- what a port took, in order
abbrev pub parcels_taken : List Event → List Take
parcels_taken events = flat_map (in_step takes_by) events

-- ---- a port and its life

-- a port that a worker has, or had until it was let go: as it was first, what happened to it, and as it was last
pub record Life (L : Type 0) : Type 0 where
  pub first : PortFacts L
  pub events : List Event
  pub last : PortFacts L

module _ {L : Type 0} where
  -- whether it is the life of a port of this connection
  abbrev pub is_life_of : ℕ → Life L → Bool
  is_life_of connection life = is_of connection life.first

  -- what a port put on the desk, in order
  abbrev pub put_by : Life L → List DeskItem
  put_by life = items_put life.events

  -- what these ports put there, one port after the other
  abbrev pub put_by_all : List (Life L) → List DeskItem
  put_by_all lives = flat_map put_by lives

  -- what the ports of one connection put there
  abbrev pub put_of : ℕ → List (Life L) → List DeskItem
  put_of connection lives = put_by_all (filter (is_life_of connection) lives)

  -- what befell the ports of one connection
  abbrev pub befell_all : ℕ → List (Life L) → List Happening
  befell_all connection lives =
      flat_map (λ (life : Life L). happenings life.events) (filter (is_life_of connection) lives)

  -- the packets that the ports of one connection said
  abbrev pub said_by_all : ℕ → List (Life L) → List Said
  said_by_all connection lives =
      flat_map (λ (life : Life L). packets_said life.events) (filter (is_life_of connection) lives)

  -- what the ports of one connection took
  abbrev pub taken_by_all : ℕ → List (Life L) → List Take
  taken_by_all connection lives =
      flat_map (λ (life : Life L). parcels_taken life.events) (filter (is_life_of connection) lives)

  -- a port of the connection that awaits a reply at first handles no frame
  abbrev pub HandlesNothing : ℕ → Life L → Type 0
  HandlesNothing connection life =
      life.first.machine.connection ≡ connection → IsTrue life.first.machine.awaits → frames_handled life.events ≡ []

  -- a port that was taken in
  pub record IsNew (port : PortFacts L) : Type 0 where
    pub connection : ℕ
    pub worker : ℕ
    pub link : L
    pub is : port ≡ new_port connection worker link

  -- the frames that it handled are, each once and in order, the first of those of all bytes that it took: after them
  -- is, while it is open, what it keeps
  pub record HandlesInOrder (life : Life L) : Type 0 where
    pub behind : List ℕ
    pub bytes : bytes_taken life.events ≡ flat_map frame_spelling (frames_handled life.events) ++ behind
    pub each : All IsFrame (frames_handled life.events)
    pub kept : is_closed life.last.stage ≡ false → behind ≡ life.last.framer.kept
    pub front : (frames : List Frame) (rest : List ℕ) → Splits (bytes_taken life.events) frames rest
        → IsFront (frames_handled life.events) frames
    -- where it closed at the end of its link they are all of them
    pub at_end : cause_of life.last.stage ≡ Some End
        → (rest : List ℕ) × Splits (bytes_taken life.events) (frames_handled life.events) rest

  -- what it wrote is the beginning of what it took to be written: after it is, while it is open, what it keeps
  pub record WritesInOrder (life : Life L) : Type 0 where
    pub behind : List ℕ
    pub bytes : bytes_queued life.events ≡ bytes_written life.events ++ behind
    pub kept : is_closed life.last.stage ≡ false → behind ≡ life.last.out

  -- it put the commands that its frames asked for, each once and in order, but for one that waits; and then the words of
  -- its farewell
  pub record PutsInOrder (life : Life L) : Type 0 where
    pub commands : List DeskItem
    pub put : put_by life ≡ commands ++ words_said life.last.machine life.last.stage
    pub asked : items_asked life.events ≡ commands ++ option_to_list life.last.waiting

  -- it does all three in their order
  pub record IsOrderly (life : Life L) : Type 0 where
    pub handles : HandlesInOrder life
    pub writes : WritesInOrder life
    pub puts : PutsInOrder life

-- ---- what is heard and routed

-- no reply to this connection
abbrev pub IsNoReplyTo : ℕ → Moment → Type 0
IsNoReplyTo connection (Told reply) = reply.connection ≢ connection
IsNoReplyTo connection (Looked look) = ⊤
IsNoReplyTo connection (Took takes learnt) = ⊤

-- no packet of this connection
abbrev pub IsNoPacketOf : ℕ → Moment → Type 0
IsNoPacketOf connection (Told reply) = ⊤
IsNoPacketOf connection (Looked look) = look.connection ≢ connection
IsNoPacketOf connection (Took takes learnt) = ⊤

module _ {L : Type 0} where
  -- a port of the connection awaits a reply
  abbrev pub AwaitsReply : ℕ → PortFacts L → Type 0
  AwaitsReply connection port = port.machine.connection ≡ connection → IsTrue port.machine.awaits

  -- a port of a different connection
  abbrev pub IsOfAnother : ℕ → PortFacts L → Type 0
  IsOfAnother connection port = port.machine.connection ≢ connection

  -- the number of its connection is above this one
  abbrev pub IsAbove : ℕ → PortFacts L → Type 0
  IsAbove last port = last < port.machine.connection

  -- that of the later one is above that of the first
  abbrev pub IsBelow : PortFacts L → PortFacts L → Type 0
  IsBelow port later = IsAbove port.machine.connection later

  -- its connection belongs to the worker of this number, of n
  abbrev pub IsOfWorker : ℕ → ℕ → PortFacts L → Type 0
  IsOfWorker number workers port = worker_of port.machine.connection workers ≡ number

  -- the port of a connection, where it was taken in
  abbrev pub if_taken : (intake : Intake) (connection : ℕ) (link : L) (ports : List (PortFacts L)) (kept : RecordFacts)
      (intake_after : Intake) (ports_after : List (PortFacts L)) (kept_after : RecordFacts)
      → TakesOrTurns intake connection link ports kept intake_after ports_after kept_after → List (PortFacts L)
  if_taken intake connection link ports kept intake_after ports_after kept_after (inl takes) =
      new_port connection intake.number link ∷ []
  if_taken intake connection link ports kept intake_after ports_after kept_after (inr turns) = []

module _ {L : Type 0} (facts : L → LinkFacts) where
  -- the port that was taken in of what the bell gave, if one was
  abbrev pub taken_in : (item : Option (Rung L)) (old new : WorkerFacts L)
      → Hears facts item old new → List (PortFacts L)
  taken_in None old new hears = []
  taken_in (Some (Answer reply)) old new hears = []
  taken_in (Some (Comes connection link)) old new hears =
      if_taken (intake_of old) connection link old.ports old.common.kept
      (intake_of new) new.ports new.common.kept hears.takes
  taken_in (Some (Lagging session)) old new hears = []
  taken_in (Some NoMore) old new hears = []

module _ {L : Type 0} (facts : L → LinkFacts) (opening : Opening) where
  -- what happened to the port leads from how it was first to how it was last
  abbrev pub IsLife : Life L → Type 0
  IsLife life = Lives facts (RoutesPacket opening) life.first life.events life.last

  -- the ports that turns took in, in order
  abbrev pub ports_taken : (old : WorkerFacts L) (turns : List Turn) (new : WorkerFacts L)
      → TurnsTo (WorkerTurned facts opening) old turns new → List (PortFacts L)
  ports_taken old [] new all = []
  ports_taken old (turn ∷ turns) new all =
      taken_in facts all.1.hears.item (record old { bell = all.1.hears.bell }) all.1.between all.1.hears.hears
      ++ ports_taken all.0 turns new all.2

  -- what became of the ports of a worker over turns
  pub record HaveLived (old : WorkerFacts L) (turns : List Turn) (new : WorkerFacts L)
      (all : TurnsTo (WorkerTurned facts opening) old turns new) : Type 0 where
    pub lives : List (Life L)
    -- each port that was there has a life, and then each that was taken in, and no other
    pub begun : map (λ (life : Life L). life.first) lives ≡ old.ports ++ ports_taken old turns new all
    pub lived : All IsLife lives
    -- those that owe the desk nothing more were let go, and no other
    pub kept : new.ports ≡ filter stays (map (λ (life : Life L). life.last) lives)
    -- the desk got what they put there, each item once, and nothing else
    pub put : (test : DeskItem → Bool)
        → count test new.desk.offered ≡ count test old.desk.offered + count test (put_by_all lives)
    -- what it got of a connection is what the port of this connection put there, in the same order
    pub order : (connection : ℕ)
        → items_of connection new.desk.offered ≡ items_of connection old.desk.offered ++ put_of connection lives
    -- the packets of a connection that were routed are those that the port of this connection said, each once and in order
    pub routed : (connection : ℕ)
        → filter_map (routed_of connection) (history facts opening old turns new all) ≡ said_by_all connection lives
    -- the parcels that the ports of a connection took are those of its lives, each once and in order
    pub taken : (connection : ℕ)
        → flat_map (taken_of connection) (history facts opening old turns new all) ≡ taken_by_all connection lives
    -- each reply that came while a port of its connection was there was heard by that port, once, in order, and as it was: with
    -- its end, its bytes and the passes that it gave. No other reply was heard. And a port closed for what it is said to have
    pub befallen_to : (connection : ℕ)
        → happenings_of connection (befallen facts opening old turns new all) ≡ befell_all connection lives
    -- a port that awaits a reply handles no frame before a reply to its connection is heard
    pub waits : (connection : ℕ) → All (IsNoReplyTo connection) (history facts opening old turns new all)
        → All (HandlesNothing connection) lives
