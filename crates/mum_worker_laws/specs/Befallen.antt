-- What befell the ports of a worker beside their steps: the replies that they heard, and their closings.
use mathlib.Core.Logic.{inl, inr}
use Rattle.std.specs.Prelude.{◌==◌, ℕ, List, [], ◌∷◌, ◌++◌, map, Option, Some, None, if◌then◌else◌}
use Rattle.std.specs.List.{filter_map, flat_map}
use Rattle.mum_base.specs.declared.number.{Cause.Cause, SessionId.SessionId}
use Rattle.mum_io.specs.Link.{LinkFacts}
use Rattle.mum_crew.specs.{Along.Along, Turns.TurnsTo}
use Rattle.mum_crew.specs.declared.role.Turn.{Turn}
use Rattle.mum_record.specs.declared.journal.WorkerEntry.{WorkerEntry}
use Rattle.mum_published.specs.Bell.{Rung, Answer, Comes, Lagging, NoMore}
use Rattle.mum_published.specs.Facts.{Opening, ReplyFacts}
use Rattle.mum_port.specs.{Facts.PortFacts, Passes.PassesFacts}
use Rattle.mum_port.specs.Life.{Event, Heard, lagged, replied, stepped}
use Rattle.mum_worker.specs.{Boxes.BoxesFacts, Facts.WorkerFacts}
use Rattle.mum_worker.specs.{Hearing.AnswersFirst, Hearing.Hears, Hearing.LagsWhereIts, Record.RecordFacts}
use Rattle.mum_worker.specs.Stepping.{PortSteps, Shares}
use Rattle.mum_worker.specs.Turning.{Turned, WorkerTurned, shares_of}
use Rattle.mum_record.specs.declared.journal.WorkerEntry.TheVariants as entries

-- a port heard a reply, or closed for a cause
pub data Happening : Type 0 where
  Heeded : Heard → Happening
  Shut : Cause → Happening

-- a happening, with the connection of its port
pub record Befallen : Type 0 where
  pub connection : ℕ
  pub happening : Happening

-- a closing, with the connection of its port
pub record Closing : Type 0 where
  pub connection : ℕ
  pub cause : Cause

-- ---- one port

-- the closing of a port, if it closed
abbrev pub shut_for : Option Cause → List Happening
shut_for None = []
shut_for (Some cause) = Shut cause ∷ []

-- what befell a port in an event
abbrev pub happening_in : Event → List Happening
happening_in (stepped machine did) = shut_for did.closed
happening_in (replied heard closed) = Heeded heard ∷ shut_for closed
happening_in (lagged closed) = shut_for closed

-- and in events, in order
abbrev pub happenings : List Event → List Happening
happenings events = flat_map happening_in events

-- ---- lists

abbrev pub befell : ℕ → List Happening → List Befallen
befell connection those = map (λ (one : Happening). record { connection = connection; happening = one }) those

-- what befell the port of this connection
abbrev pub happening_of : ℕ → Befallen → Option Happening
happening_of connection one = if one.connection == connection then Some one.happening else None

abbrev pub happenings_of : ℕ → List Befallen → List Happening
happenings_of connection befallen = filter_map (happening_of connection) befallen

abbrev pub closing_by : ℕ → Happening → Option Closing
closing_by connection (Heeded heard) = None
closing_by connection (Shut cause) = Some (record { connection = connection; cause = cause })

abbrev pub closing_in : Befallen → Option Closing
closing_in one = closing_by one.connection one.happening

-- the closings, in order
abbrev pub closings_in : List Befallen → List Closing
closings_in befallen = filter_map closing_in befallen

-- the closing that an entry of a journal reports
abbrev pub closing_told : WorkerEntry → Option Closing
closing_told (entries.Voice connection revision packet copies) = None
closing_told (entries.Closed connection cause) = Some (record { connection = connection; cause = cause })

abbrev pub closings_told : List WorkerEntry → List Closing
closings_told told = filter_map closing_told told

module _ {L : Type 0} (facts : L → LinkFacts) where
  -- ---- what the bell gave

  -- a reply: the first port of its connection heard it, if there is one
  abbrev pub reply_befell : (reply : ReplyFacts) (passes : Option PassesFacts) (olds : List (PortFacts L))
      (closed : Option Cause) (news : List (PortFacts L))
      → AnswersFirst facts reply.connection reply.end reply.wire passes olds closed news → List Befallen
  reply_befell reply passes olds closed news (inl none) = []
  reply_befell reply passes olds closed news (inr first) =
      befell reply.connection
      (Heeded (record { end = reply.end; wire = reply.wire; passes = passes }) ∷ shut_for closed)

  -- a lag: each port of the session closed, unless it was closed
  abbrev pub lag_befell : (session : SessionId) (old : PortFacts L) (before : RecordFacts) (new : PortFacts L)
      (after : RecordFacts)
      → LagsWhereIts facts session old before new after → List Befallen
  lag_befell session old before new after (inl passes) = []
  lag_befell session old before new after (inr lags) = befell old.machine.connection (shut_for lags.closed)

  abbrev pub lags_befell : (session : SessionId) (olds : List (PortFacts L)) (before : RecordFacts)
      (news : List (PortFacts L)) (after : RecordFacts)
      → Along (LagsWhereIts facts session) olds before news after → List Befallen
  lags_befell session [] before [] after none = []
  lags_befell session [] before (new ∷ news) after none = []
  lags_befell session (old ∷ olds) before [] after none = []
  lags_befell session (old ∷ olds) before (new ∷ news) after along =
      lag_befell session old before new along.0 along.1 ++ lags_befell session olds along.0 news after along.2

  abbrev pub bell_befell : (item : Option (Rung L)) (old new : WorkerFacts L) → Hears facts item old new → List Befallen
  bell_befell None old new hears = []
  bell_befell (Some (Answer reply)) old new hears =
      reply_befell reply hears.takes.passes old.ports hears.takes.closed new.ports hears.takes.answers
  bell_befell (Some (Comes connection link)) old new hears = []
  bell_befell (Some (Lagging session)) old new hears =
      lags_befell session old.ports old.common.kept hears.each.stepped new.common.kept hears.each.along
  bell_befell (Some NoMore) old new hears = []

module _ {L : Type 0} (facts : L → LinkFacts) (opening : Opening) where
  -- ---- the steps of ports

  abbrev pub step_befell : (boxes : BoxesFacts) (old : PortFacts L) (before : Shares) (new : PortFacts L)
      (after : Shares)
      → PortSteps facts opening boxes old before new after → List Befallen
  step_befell boxes old before new after steps = befell old.machine.connection (shut_for steps.turned.0.closed)

  abbrev pub steps_befell : (boxes : BoxesFacts) (olds : List (PortFacts L)) (before : Shares)
      (news : List (PortFacts L)) (after : Shares)
      → Along (PortSteps facts opening boxes) olds before news after → List Befallen
  steps_befell boxes [] before [] after none = []
  steps_befell boxes [] before (new ∷ news) after none = []
  steps_befell boxes (old ∷ olds) before [] after none = []
  steps_befell boxes (old ∷ olds) before (new ∷ news) after along =
      step_befell boxes old before new along.0 along.1 ++ steps_befell boxes olds along.0 news after along.2

  -- ---- the turns

  abbrev pub turn_befell : (old new : WorkerFacts L) (turn : Turn) → Turned facts opening old new turn → List Befallen
  turn_befell old new turn turned =
      bell_befell facts turned.hears.item (record old { bell = turned.hears.bell }) turned.between turned.hears.hears
      ++ steps_befell turned.between.boxes turned.between.ports (shares_of turned.between turned.heard)
      turned.steps.steps.stepped (shares_of new turned.worked) turned.steps.steps.along

  -- what befell the ports of a worker over turns, in order
  abbrev pub befallen : (old : WorkerFacts L) (turns : List Turn) (new : WorkerFacts L)
      → TurnsTo (WorkerTurned facts opening) old turns new → List Befallen
  befallen old [] new all = []
  befallen old (turn ∷ turns) new all = turn_befell old all.0 turn all.1 ++ befallen all.0 turns new all.2
