-- Whether a journal is kept, and the number of a worker, never change.
use Rattle.mum_worker.proofs.CommonNames.{◌≡◌, ℕ, List, [], ◌∷◌, Option, Some, None, refl, ap, ◌∙◌, inl, inr, Cause, SessionId, Along, Turn, LinkFacts, PortFacts, PortRoutes, Rung, Answer, Comes, Lagging, NoMore, Opening, Action, Voice, BoxesFacts, WorkerFacts, intake_of, Hears, LagsWhereIts, TakesOrTurns, RecordFacts, after_close, CommonFacts, RoutesPacket, PortSteps, Shares, Turned, Intake}

closed_journal : (connection : ℕ) (closed : Option Cause) (kept : RecordFacts) → (after_close connection closed kept).journal ≡ kept.journal
closed_journal connection None kept = refl
closed_journal connection (Some cause) kept = refl

routed_journal : (opening : Opening) (old : CommonFacts) (connection : ℕ) (speaker : SessionId) (packet : List ℕ) (new : CommonFacts) → RoutesPacket opening old connection speaker packet new → new.kept.journal ≡ old.kept.journal
routed_journal opening old connection speaker packet new (inl drops) = ap (λ (k : RecordFacts). k.journal) drops.none_kept
routed_journal opening old connection speaker packet new (inr routes) = ap (λ (k : RecordFacts). k.journal) routes.entry

asked_journal : (opening : Opening) (connection : ℕ) (session : Option SessionId) (asked : Option Action) (old new : CommonFacts) → PortRoutes (RoutesPacket opening) connection session asked old new
    → new.kept.journal ≡ old.kept.journal
asked_journal opening connection session (Some (Voice packet)) old new routes = routed_journal opening old connection routes.0 packet new routes.2
asked_journal opening connection session others old new same = ap (λ (c : CommonFacts). c.kept.journal) same

module _ {L : Type 0} (facts : L → LinkFacts) where
  lagged_journal : (session : SessionId) (old : PortFacts L) (before : RecordFacts) (new : PortFacts L) (after : RecordFacts) → LagsWhereIts facts session old before new after → after.journal ≡ before.journal
  lagged_journal session old before new after (inl passes) = ap (λ (k : RecordFacts). k.journal) passes.kept_same
  lagged_journal session old before new after (inr lags) = ap (λ (k : RecordFacts). k.journal) lags.noted ∙ closed_journal old.machine.connection lags.closed before

  lags_journal : (session : SessionId) (olds : List (PortFacts L)) (before : RecordFacts) (news : List (PortFacts L)) (after : RecordFacts) → Along (LagsWhereIts facts session) olds before news after → after.journal ≡ before.journal
  lags_journal session [] before [] after along = ap (λ (k : RecordFacts). k.journal) along
  lags_journal session (old ∷ olds) before (new ∷ news) after along = lags_journal session olds along.0 news after along.2 ∙ lagged_journal session old before new along.0 along.1
  lags_journal session [] before (new ∷ news) after along = absurd along
  lags_journal session (old ∷ olds) before [] after along = absurd along

  stepped_journal : (opening : Opening) (boxes : BoxesFacts) (old : PortFacts L) (before : Shares) (new : PortFacts L) (after : Shares) → PortSteps facts opening boxes old before new after → after.common.kept.journal ≡ before.common.kept.journal
  stepped_journal opening boxes old before new after steps =
      ap (λ (c : CommonFacts). c.kept.journal) steps.noted
      ∙ (closed_journal old.machine.connection steps.step.closed _
      ∙ asked_journal opening _ _ _ _ _ steps.turned.1.routes)

  steps_journal : (opening : Opening) (boxes : BoxesFacts) (olds : List (PortFacts L)) (before : Shares) (news : List (PortFacts L)) (after : Shares) → Along (PortSteps facts opening boxes) olds before news after → after.common.kept.journal ≡ before.common.kept.journal
  steps_journal opening boxes [] before [] after along = ap (λ (s : Shares). s.common.kept.journal) along
  steps_journal opening boxes (old ∷ olds) before (new ∷ news) after along = steps_journal opening boxes olds along.0 news after along.2 ∙ stepped_journal opening boxes old before new along.0 along.1
  steps_journal opening boxes [] before (new ∷ news) after along = absurd along
  steps_journal opening boxes (old ∷ olds) before [] after along = absurd along

  takes_journal : (intake : Intake) (connection : ℕ) (link : L) (ports : List (PortFacts L)) (kept : RecordFacts) (intake_after : Intake) (news : List (PortFacts L)) (after : RecordFacts) → TakesOrTurns intake connection link ports kept intake_after news after → after.journal ≡ kept.journal
  takes_journal intake connection link ports kept intake_after news after (inl takes) = ap (λ (k : RecordFacts). k.journal) takes.kept_is
  takes_journal intake connection link ports kept intake_after news after (inr turns) = ap (λ (k : RecordFacts). k.journal) turns.kept_same

  -- what a worker is opened with
  pub record IsSameWorker (old new : WorkerFacts L) : Type 0 where
    pub number : new.number ≡ old.number
    pub journal : new.common.kept.journal ≡ old.common.kept.journal

  hears_same : (item : Option (Rung L)) (old new : WorkerFacts L) → Hears facts item old new → IsSameWorker old new
  hears_same None old new hears = record { number = ap (λ (w : WorkerFacts L). w.number) hears; journal = ap (λ (w : WorkerFacts L). w.common.kept.journal) hears }
  hears_same (Some (Answer reply)) old new hears = record {
    number = ap (λ (w : WorkerFacts L). w.number) hears.rest;
    journal = ap (λ (k : RecordFacts). k.journal) hears.takes.noted ∙ closed_journal reply.connection hears.takes.closed old.common.kept;
  }
  hears_same (Some (Comes connection link)) old new hears = record {
    number = ap (λ (w : WorkerFacts L). w.number) hears.rest;
    journal = takes_journal (intake_of old) connection link old.ports old.common.kept (intake_of new) new.ports new.common.kept hears.takes;
  }
  hears_same (Some (Lagging session)) old new hears = record {
    number = ap (λ (w : WorkerFacts L). w.number) hears.rest;
    journal = lags_journal session old.ports old.common.kept hears.each.stepped new.common.kept hears.each.along;
  }
  hears_same (Some NoMore) old new hears = record { number = ap (λ (w : WorkerFacts L). w.number) hears; journal = ap (λ (w : WorkerFacts L). w.common.kept.journal) hears }

  pub turned_same : (opening : Opening) (old new : WorkerFacts L) (answer : Turn) → Turned facts opening old new answer → IsSameWorker old new
  turned_same opening old new answer turned =
      let heard = hears_same turned.hears.item _ turned.between turned.hears.hears in
      record {
        number = ap (λ (w : WorkerFacts L). w.number) turned.steps.rest ∙ heard.number;
        journal = steps_journal opening turned.between.boxes turned.between.ports _ turned.steps.steps.stepped _ turned.steps.steps.along ∙ heard.journal;
      }
