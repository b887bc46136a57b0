-- What a worker counts, as its turns have it.
use mathlib.Core.Logic.{inl, inr}
use Rattle.std.specs.Prelude.{◌≡◌, ◌+◌, ◌-◌, ◌^◌, ℕ, min, not, List, [], ◌∷◌, ◌++◌, filter, length, map, Option, Some, None, option_to_list}
use Rattle.std.specs.List.{All, list_any, sum_by}
use Rattle.mum_base.specs.declared.number.{Cause.Cause, SessionId.SessionId}
use Rattle.mum_io.specs.Link.{LinkFacts}
use Rattle.mum_crew.specs.{Along.Along, Turns.TurnsTo}
use Rattle.mum_crew.specs.declared.role.Turn.{Turn}
use Rattle.mum_route.specs.Hearers.{hearers_at}
use Rattle.mum_published.specs.Bell.{Rung, Answer, Comes, Lagging, NoMore}
use Rattle.mum_published.specs.{Calls.state_of, Facts.Opening, Facts.PassFacts}
use Rattle.mum_session.specs.Machine.{session_of}
use Rattle.mum_router.specs.{Offering.copies_of, Offering.full_of, Offering.was_sent, Picking.looks_of}
use Rattle.mum_port.specs.{Did.stray_posts, Did.stray_voices, Facts.PortFacts}
use Rattle.mum_worker.specs.{Boxes.BoxesFacts, Facts.WorkerFacts, Hearing.Hears, Hearing.LagsWhereIts}
use Rattle.mum_worker.specs.{Opening.HasOpened, Opening.IsUnused, Record.RecordFacts, Record.is_memory}
use Rattle.mum_worker.specs.Stepping.{PortSteps, Shares}
use Rattle.mum_worker.specs.Turning.{Turned, WorkerTurned, shares_of}
use Rattle.mum_worker_laws.specs.Laws.{Look, history, looks_in}

-- a number as far as 64 bits count it
abbrev pub up_to_64 : ℕ → ℕ
up_to_64 count = min count (2 ^ 64 - 1)

-- ---- the packets that were routed

-- how many copies of a packet were sent
abbrev pub copies_sent : Look → ℕ
copies_sent look = length (filter was_sent look.deliveries)

-- and how many found a full box
abbrev pub copies_refused : Look → ℕ
copies_refused look = length (filter (λ delivery. not (was_sent delivery)) look.deliveries)

-- a copy is offered to each who hears the packet at the state of the edits that its look saw, once and in the order of
-- the route, and to nobody else
abbrev pub GoesToHearers : Opening → Look → Type 0
GoesToHearers opening look =
    map (λ delivery. delivery.hearer) look.deliveries
    ≡ hearers_at (state_of opening look.edits) look.speaker look.packet.target

-- ---- the parcels for others, and the closes

module _ {L : Type 0} (facts : L → LinkFacts) (opening : Opening) where
  -- how many parcels the step of a port took from its boxes that were for another session
  abbrev pub strays_stepped : (boxes : BoxesFacts) (old : PortFacts L) (before : Shares) (new : PortFacts L)
      (after : Shares)
      → PortSteps facts opening boxes old before new after → ℕ
  strays_stepped boxes old before new after steps =
      stray_posts (session_of old.machine.stage) steps.turned.0.post
      + stray_voices (session_of old.machine.stage) steps.turned.0.voice

  -- how many the steps of ports took, one port after the other
  abbrev pub strays_along : (boxes : BoxesFacts) (olds : List (PortFacts L)) (before : Shares)
      (news : List (PortFacts L)) (after : Shares)
      → Along (PortSteps facts opening boxes) olds before news after → ℕ
  strays_along boxes [] before [] after none = 0
  strays_along boxes [] before (new ∷ news) after none = 0
  strays_along boxes (old ∷ olds) before [] after none = 0
  strays_along boxes (old ∷ olds) before (new ∷ news) after along =
      strays_stepped boxes old before new along.0 along.1 + strays_along boxes olds along.0 news after along.2

  -- for what ports closed as they made their steps, one port after the other
  abbrev pub causes_along : (boxes : BoxesFacts) (olds : List (PortFacts L)) (before : Shares)
      (news : List (PortFacts L)) (after : Shares)
      → Along (PortSteps facts opening boxes) olds before news after → List Cause
  causes_along boxes [] before [] after none = []
  causes_along boxes [] before (new ∷ news) after none = []
  causes_along boxes (old ∷ olds) before [] after none = []
  causes_along boxes (old ∷ olds) before (new ∷ news) after along =
      option_to_list along.1.turned.0.closed ++ causes_along boxes olds along.0 news after along.2

  -- for what a port of the session closed as it was heard that this lags
  abbrev pub causes_lagged : (session : SessionId) (old : PortFacts L) (before : RecordFacts) (new : PortFacts L)
      (after : RecordFacts)
      → LagsWhereIts facts session old before new after → List Cause
  causes_lagged session old before new after (inl passes) = []
  causes_lagged session old before new after (inr lags) = option_to_list lags.closed

  abbrev pub causes_lagging : (session : SessionId) (olds : List (PortFacts L)) (before : RecordFacts)
      (news : List (PortFacts L)) (after : RecordFacts)
      → Along (LagsWhereIts facts session) olds before news after → List Cause
  causes_lagging session [] before [] after none = []
  causes_lagging session [] before (new ∷ news) after none = []
  causes_lagging session (old ∷ olds) before [] after none = []
  causes_lagging session (old ∷ olds) before (new ∷ news) after along =
      causes_lagged session old before new along.0 along.1 ++ causes_lagging session olds along.0 news after along.2

  -- for what ports closed by what the bell gave
  abbrev pub causes_heard : (item : Option (Rung L)) (old new : WorkerFacts L) → Hears facts item old new → List Cause
  causes_heard None old new hears = []
  causes_heard (Some (Answer reply)) old new hears = option_to_list hears.takes.closed
  causes_heard (Some (Comes connection link)) old new hears = []
  causes_heard (Some (Lagging session)) old new hears =
      causes_lagging session old.ports old.common.kept hears.each.stepped new.common.kept hears.each.along
  causes_heard (Some NoMore) old new hears = []

  -- how many parcels for others a turn took
  abbrev pub strays_turned : (old new : WorkerFacts L) (turn : Turn) → Turned facts opening old new turn → ℕ
  strays_turned old new turn turned =
      strays_along turned.between.boxes turned.between.ports (shares_of turned.between turned.heard)
      turned.steps.steps.stepped (shares_of new turned.worked) turned.steps.steps.along

  -- for what ports closed in a turn, in order
  abbrev pub causes_turned : (old new : WorkerFacts L) (turn : Turn) → Turned facts opening old new turn → List Cause
  causes_turned old new turn turned =
      causes_heard turned.hears.item (record old { bell = turned.hears.bell }) turned.between turned.hears.hears
      ++ causes_along turned.between.boxes turned.between.ports (shares_of turned.between turned.heard)
      turned.steps.steps.stepped (shares_of new turned.worked) turned.steps.steps.along

  -- how many parcels for another session the turns took
  abbrev pub strays_in : (old : WorkerFacts L) (turns : List Turn) (new : WorkerFacts L)
      → TurnsTo (WorkerTurned facts opening) old turns new → ℕ
  strays_in old [] new all = 0
  strays_in old (turn ∷ turns) new all = strays_turned old all.0 turn all.1 + strays_in all.0 turns new all.2

  -- for what ports closed in the turns, in order
  abbrev pub causes_in : (old : WorkerFacts L) (turns : List Turn) (new : WorkerFacts L)
      → TurnsTo (WorkerTurned facts opening) old turns new → List Cause
  causes_in old [] new all = []
  causes_in old (turn ∷ turns) new all = causes_turned old all.0 turn all.1 ++ causes_in all.0 turns new all.2

-- ---- what a worker counted

module _ {L : Type 0} (facts : L → LinkFacts) where
  -- a worker whose pass had asked nothing counted as many looks as its turns routed packets
  abbrev pub LooksAreCounted : Type 0
  LooksAreCounted =
      (opening : Opening) (number : ℕ) (pass : PassFacts) (journal : Option ℕ) (opened worker : WorkerFacts L)
      (turns : List Turn)
      → HasOpened number pass journal opened → pass.asks ≡ []
      → (all : TurnsTo (WorkerTurned facts opening) opened turns worker)
      → looks_of worker.common.router.pass
      ≡ up_to_64 (length (looks_in (history facts opening opened turns worker all)))

  -- each packet that turns routed goes to those who hear it
  abbrev pub LooksGoToThoseWhoHear : Type 0
  LooksGoToThoseWhoHear =
      (opening : Opening) (old worker : WorkerFacts L) (turns : List Turn)
      → (all : TurnsTo (WorkerTurned facts opening) old turns worker)
      → All (GoesToHearers opening) (looks_in (history facts opening old turns worker all))

  -- a worker that had offered nothing counted the copies of the packets that its turns routed: those that were sent
  abbrev pub CopiesAreSent : Type 0
  CopiesAreSent =
      (opening : Opening) (opened worker : WorkerFacts L) (turns : List Turn) → All IsUnused opened.common.router.outs
      → (all : TurnsTo (WorkerTurned facts opening) opened turns worker)
      → copies_of worker.common.router.outs
      ≡ up_to_64 (sum_by copies_sent (looks_in (history facts opening opened turns worker all)))

  -- and those that found a full box
  abbrev pub CopiesAreRefused : Type 0
  CopiesAreRefused =
      (opening : Opening) (opened worker : WorkerFacts L) (turns : List Turn) → All IsUnused opened.common.router.outs
      → (all : TurnsTo (WorkerTurned facts opening) opened turns worker)
      → full_of worker.common.router.outs
      ≡ up_to_64 (sum_by copies_refused (looks_in (history facts opening opened turns worker all)))

  -- it counted the parcels for another session that its ports took
  abbrev pub StaleIsOfThePorts : Type 0
  StaleIsOfThePorts =
      (opening : Opening) (number : ℕ) (pass : PassFacts) (journal : Option ℕ) (opened worker : WorkerFacts L)
      (turns : List Turn)
      → HasOpened number pass journal opened
      → (all : TurnsTo (WorkerTurned facts opening) opened turns worker)
      → worker.common.kept.stale ≡ up_to_64 (strays_in facts opening opened turns worker all)

  -- and it noted that memory ran out exactly where a port closed for that
  abbrev pub MemoryIsNoted : Type 0
  MemoryIsNoted =
      (opening : Opening) (number : ℕ) (pass : PassFacts) (journal : Option ℕ) (opened worker : WorkerFacts L)
      (turns : List Turn)
      → HasOpened number pass journal opened
      → (all : TurnsTo (WorkerTurned facts opening) opened turns worker)
      → worker.common.kept.no_memory ≡ list_any is_memory (causes_in facts opening opened turns worker all)
