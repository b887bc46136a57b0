-- What a worker makes of what its bell carries.
use Rattle.std.specs.Prelude.{◌≡◌, ◌≢◌, ◌⊎◌, ◌<◌, ◌≤◌, ℕ, Bool, true, false, ◌&&◌, nat_lt, IsTrue, List, [], ◌∷◌, ◌++◌, length, position, slice_get, slice_set, Option, Some, None}
use Rattle.mum_base.specs.declared.number.{Cause.Cause, SessionId.SessionId, TheConstants.CONNECTION_LIMIT}
use Rattle.mum_base.specs.declared.reply.ReplyEnd.{ReplyEnd}
use Rattle.mum_io.specs.Link.{LinkFacts}
use Rattle.mum_crew.specs.Along.{EachAlong}
use Rattle.mum_published.specs.Bell.{Rung, Answer, Comes, Lagging, NoMore}
use Rattle.mum_published.specs.{Calls.Admitted, Calls.Learnt, Facts.NoteFacts, Facts.ReplyFacts, Rolls.is_admitted}
use Rattle.mum_published.specs.declared.roll.Login.{Login}
use Rattle.mum_session.specs.Machine.{session_of}
use Rattle.mum_router.specs.Facts.{RouterFacts}
use Rattle.mum_port.specs.{Facts.PortFacts, Facts.new_port, Replies.Answers, Replies.Lags, Passes.PassesFacts}
use Rattle.mum_worker.specs.{Boxes.AreSameBoxes, Boxes.BoxesFacts, Boxes.ArePassesFor, Intake.worker_of}
use Rattle.mum_worker.specs.Facts.{WorkerFacts, is_of, intake_of, stays}
use Rattle.mum_worker.specs.Record.{RecordFacts, after_close, may_take_in, taking_in}
use Rattle.mum_worker.specs.declared.intake.Intake.{Intake}

-- a note, if one came, is learnt: no later look sees less
abbrev pub LearnsGiven : Option NoteFacts → RouterFacts → RouterFacts → Type 0
LearnsGiven None old new = new ≡ old
LearnsGiven (Some note) old new = Learnt old.pass note.edits new.pass × (new ≡ record old { pass = new.pass })

-- a roll is learnt
abbrev pub Admits : List Login → RouterFacts → RouterFacts → Type 0
Admits roll old new = Admitted old.pass roll new.pass × (new ≡ record old { pass = new.pass })

module _ {L : Type 0} where
  -- there is room for a port more, and for its closing entry
  abbrev pub has_place : List (PortFacts L) → RecordFacts → Bool
  has_place ports kept = nat_lt (length ports) CONNECTION_LIMIT && may_take_in kept

  -- a connection of this worker, above the last that it took in, is taken in as the last port
  pub record TakesIn (intake : Intake) (connection : ℕ) (link : L) (ports : List (PortFacts L)) (kept : RecordFacts)
      (intake_after : Intake) (ports_after : List (PortFacts L)) (kept_after : RecordFacts) : Type 0 where
    pub room : has_place ports kept ≡ true
    pub above : intake.last < connection
    pub its : worker_of connection intake.workers ≡ intake.number
    pub intake_is : intake_after ≡ record intake { last = connection }
    pub ports_are : ports_after ≡ ports ++ new_port connection intake.number link ∷ []
    pub kept_is : kept_after ≡ taking_in kept

  -- why a connection is not taken in: there is no room for it, it is not above the last, or it is of another worker
  abbrev pub MayNotTakeIn : Intake → ℕ → List (PortFacts L) → RecordFacts → Type 0
  MayNotTakeIn intake connection ports kept =
      (has_place ports kept ≡ false)
      ⊎ ((connection ≤ intake.last) ⊎ (worker_of connection intake.workers ≢ intake.number))

  -- it is not taken in, and nothing changes
  pub record TurnsAway (intake : Intake) (connection : ℕ) (ports : List (PortFacts L)) (kept : RecordFacts)
      (intake_after : Intake) (ports_after : List (PortFacts L)) (kept_after : RecordFacts) : Type 0 where
    pub why : MayNotTakeIn intake connection ports kept
    pub intake_same : intake_after ≡ intake
    pub ports_same : ports_after ≡ ports
    pub kept_same : kept_after ≡ kept

  -- a connection is taken in, or there is a reason not to and nothing changes
  abbrev pub TakesOrTurns : Intake → ℕ → L → List (PortFacts L) → RecordFacts
      → Intake → List (PortFacts L) → RecordFacts → Type 0
  TakesOrTurns intake connection link ports kept intake_after ports_after kept_after =
      TakesIn intake connection link ports kept intake_after ports_after kept_after
      ⊎ TurnsAway intake connection ports kept intake_after ports_after kept_after

module _ {L : Type 0} (facts : L → LinkFacts) where
  -- the first port of the connection takes a reply
  pub record FirstAnswers (connection : ℕ) (end : ReplyEnd) (wire : List ℕ) (passes : Option PassesFacts)
      (olds : List (PortFacts L)) (closed : Option Cause) (news : List (PortFacts L)) : Type 0 where
    pub place : ℕ
    pub old : PortFacts L
    pub new : PortFacts L
    pub first : position (is_of connection) olds ≡ Some place
    pub there : slice_get olds place ≡ Some old
    pub answers : Answers facts end wire passes old closed new
    pub others : news ≡ slice_set olds place new

  -- no port is of the connection, and the reply is dropped
  pub record NoneAnswers (connection : ℕ) (olds : List (PortFacts L)) (closed : Option Cause)
      (news : List (PortFacts L)) : Type 0 where
    pub none : position (is_of connection) olds ≡ None
    pub closed_none : closed ≡ None
    pub same : news ≡ olds

  -- the first port of the connection takes the reply, or there is none and it is dropped
  abbrev pub AnswersFirst : ℕ → ReplyEnd → List ℕ → Option PassesFacts → List (PortFacts L) → Option Cause
      → List (PortFacts L) → Type 0
  AnswersFirst connection end wire passes olds closed news =
      NoneAnswers connection olds closed news ⊎ FirstAnswers connection end wire passes olds closed news

  -- a port of the session closes, unless it is closed already
  pub record LagsPort (session : SessionId) (old : PortFacts L) (before : RecordFacts) (new : PortFacts L)
      (after : RecordFacts) : Type 0 where
    pub its : session_of old.machine.stage ≡ Some session
    pub closed : Option Cause
    pub lags : Lags facts old closed new
    pub noted : after ≡ after_close old.machine.connection closed before

  -- a port of another session, or of none, stays as it is
  pub record PassesPort (session : SessionId) (old : PortFacts L) (before : RecordFacts) (new : PortFacts L)
      (after : RecordFacts) : Type 0 where
    pub another : session_of old.machine.stage ≢ Some session
    pub same : new ≡ old
    pub kept_same : after ≡ before

  -- under a lag a port of its session closes, and another stays as it is
  abbrev pub LagsWhereIts : SessionId → PortFacts L → RecordFacts → PortFacts L → RecordFacts → Type 0
  LagsWhereIts session old before new after =
      PassesPort session old before new after ⊎ LagsPort session old before new after

  -- a reply: its note and its roll are learnt first, and then the first port of its connection takes it, with passes
  -- where it gives some. Where it says that a login was accepted, its roll has that login
  pub record TakesReply (reply : ReplyFacts) (router : RouterFacts) (kept : RecordFacts) (boxes : BoxesFacts)
      (ports : List (PortFacts L))
      (router_after : RouterFacts) (kept_after : RecordFacts) (boxes_after : BoxesFacts)
      (ports_after : List (PortFacts L)) : Type 0 where
    pub admitted : IsTrue (is_admitted reply.end reply.connection reply.roll)
    pub noted_by : RouterFacts
    pub learns : LearnsGiven reply.note router noted_by
    pub admits : Admits reply.roll noted_by router_after
    pub passes : Option PassesFacts
    pub given : ArePassesFor boxes reply.end passes
    pub same : AreSameBoxes boxes boxes_after
    pub closed : Option Cause
    pub answers : AnswersFirst reply.connection reply.end reply.wire passes ports closed ports_after
    pub noted : kept_after ≡ after_close reply.connection closed kept

  -- a reply is taken, and nothing else of the worker changes
  pub record HearsReply (reply : ReplyFacts) (old new : WorkerFacts L) : Type 0 where
    pub takes : TakesReply reply old.common.router old.common.kept old.boxes old.ports new.common.router new.common.kept new.boxes new.ports
    pub rest : new ≡ record old { common = new.common; boxes = new.boxes; ports = new.ports }

  -- a connection: it is taken in, where it is the worker's next and there is room
  pub record HearsConnection (connection : ℕ) (link : L) (old new : WorkerFacts L) : Type 0 where
    pub takes : TakesOrTurns (intake_of old) connection link old.ports old.common.kept
        (intake_of new) new.ports new.common.kept
    pub router : new.common.router ≡ old.common.router
    pub rest : new ≡ record old { last = new.last; common = new.common; ports = new.ports }

  -- a lag: each open port of the session closes
  pub record HearsLag (session : SessionId) (old new : WorkerFacts L) : Type 0 where
    pub each : EachAlong (LagsWhereIts session) stays old.ports old.common.kept new.ports new.common.kept
    pub router : new.common.router ≡ old.common.router
    pub rest : new ≡ record old { common = new.common; ports = new.ports }

  -- what is made of an item
  abbrev pub Heeds : Rung L → WorkerFacts L → WorkerFacts L → Type 0
  Heeds (Answer reply) old new = HearsReply reply old new
  Heeds (Comes connection link) old new = HearsConnection connection link old new
  Heeds (Lagging session) old new = HearsLag session old new
  Heeds NoMore old new = new ≡ record old { ended = true }

  -- what is made of what the bell gave
  abbrev pub Hears : Option (Rung L) → WorkerFacts L → WorkerFacts L → Type 0
  Hears None old new = new ≡ old
  Hears (Some item) old new = Heeds item old new
