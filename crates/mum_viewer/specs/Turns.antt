-- What came of the turns of a viewer.
use mathlib.Core.List.{IsPrefix}
use Rattle.std.specs.Prelude.{◌≡◌, ◌≢◌, ◌⊎◌, ℕ, suc, ◌+◌, true, false, IsTrue, List, [], ◌∷◌, Contains, ⊤}
use Rattle.mum_io.specs.{Counts.Rose, Door.DoorFacts, Link.Appends, Link.LinkFacts}
use Rattle.mum_crew.specs.{Along.Along, Turns.TurnsTo}
use Rattle.mum_crew.specs.declared.role.Turn.{Turn}
use Rattle.mum_state.specs.declared.edit.Edit.{Edit}
use Rattle.mum_doorway.specs.Doors.{HasStopped}
use Rattle.mum_published.specs.{Calls.ask_at, Calls.state_of, Facts.PassFacts}
use Rattle.mum_viewer.specs.{Laws.AllStalled, Laws.HasSent, Look.view_ask, Text.view_text}
use Rattle.mum_viewer.specs.View.{ViewFacts, ViewMoves}
use Rattle.mum_viewer.specs.Viewer.{IsOpened, ViewerFacts, ViewerTurned, is_not_to_ask}
use Rattle.mum_viewer.specs.declared.view.{Counted.Counted, Went.Went}
use Rattle.mum_viewer.specs.declared.view.Went.TheVariants.{Waits, Wrote, Finished, Broke}

-- ---- the open views

-- a view that is open, and not written whole; it gets the text of the state at the list of one of the asks: some of it went
-- over its link since it came, and the rest is left
pub record IsShown {L : Type 0} (facts : L → LinkFacts) (pass : PassFacts) (view : ViewFacts L) : Type 0 where
  pub gave : L
  pub edits : List Edit
  pub asked : Contains pass.asks (ask_at edits view_ask)
  pub begins : IsPrefix edits pass.seen
  pub sent : HasSent facts gave (view_text (state_of pass.opening edits)) view
  pub is_open : view.over ≡ false
  pub more : view.left ≢ []

-- the whole text of the state at the list of an ask went over a link
pub record IsWhole {L : Type 0} (facts : L → LinkFacts) (pass : PassFacts) (view : ViewFacts L) : Type 0 where
  pub gave : L
  pub edits : List Edit
  pub asked : Contains pass.asks (ask_at edits view_ask)
  pub begins : IsPrefix edits pass.seen
  pub sent : Appends (facts gave).written (facts view.link).written (view_text (state_of pass.opening edits))

-- each of these that is over then was written whole, or its link failed
abbrev pub EndWell : {L : Type 0} → (L → LinkFacts) → PassFacts → List (ViewFacts L) → List (ViewFacts L) → Type 0
EndWell facts pass [] [] = ⊤
EndWell facts pass [] (new ∷ news) = ⊥
EndWell facts pass (old ∷ olds) [] = ⊥
EndWell facts pass (old ∷ olds) (new ∷ news) =
    (new.over ≡ true → IsWhole facts pass new ⊎ Rose (facts old.link).counts.faults (facts new.link).counts.faults)
    × EndWell facts pass olds news

-- ---- what a turn's answer shows

-- bytes went over its link, or it was shut
abbrev pub HasMoved : {L : Type 0} → (L → LinkFacts) → ViewFacts L → ViewFacts L → Type 0
HasMoved facts old new =
    ((bytes : List ℕ) × Appends (facts old.link).written (facts new.link).written bytes × (bytes ≢ []))
    ⊎ IsTrue (facts new.link).is_shut

abbrev pub SomeMoved : {L : Type 0} → (L → LinkFacts) → List (ViewFacts L) → List (ViewFacts L) → Type 0
SomeMoved facts [] news = ⊥
SomeMoved facts (old ∷ olds) [] = ⊥
SomeMoved facts (old ∷ olds) (new ∷ news) = HasMoved facts old new ⊎ SomeMoved facts olds news

module _ {D L : Type 0} (door_facts : D → DoorFacts) where
  -- the door gave a connection, ended or failed
  abbrev pub HasAnswered : ViewerFacts D L → ViewerFacts D L → Type 0
  HasAnswered old new =
      (new.views.given ≡ old.views.given + 1)
      ⊎ HasStopped (door_facts old.doorway.door).counts (door_facts new.doorway.door).counts

  -- each view found its link not ready; and so did the door, unless it is not to be asked
  pub record HasNothingToDo (facts : L → LinkFacts) (old new : ViewerFacts D L) : Type 0 where
    pub views : AllStalled facts old.views.list new.views.list
    pub door : (is_not_to_ask new ≡ true)
        ⊎ Rose (door_facts old.doorway.door).counts.stalls (door_facts new.doorway.door).counts.stalls

-- ---- the views that were written whole

-- one more, where this step took the last of a text
abbrev pub finished_with : Went → ℕ → ℕ
finished_with Waits others = others
finished_with Wrote others = others
finished_with Finished others = suc others
finished_with Broke others = others

module _ {L : Type 0} (facts : L → LinkFacts) where
  -- how many of these steps took the last of a text
  abbrev pub finished_along : (olds : List (ViewFacts L)) (before : Counted) (news : List (ViewFacts L))
      (after : Counted)
      → Along (ViewMoves facts) olds before news after → ℕ
  finished_along [] before [] after none = 0
  finished_along [] before (new ∷ news) after none = 0
  finished_along (old ∷ olds) before [] after none = 0
  finished_along (old ∷ olds) before (new ∷ news) after along =
      finished_with along.1.went (finished_along olds along.0 news after along.2)

module _ {D L : Type 0} (door_facts : D → DoorFacts) (facts : L → LinkFacts) where
  -- these turns, from its opening on, lead to this viewer
  pub record HasTurned (turns : List Turn) (viewer : ViewerFacts D L) : Type 0 where
    pub pass : PassFacts
    pub door : D
    pub limit : ℕ
    pub opened : ViewerFacts D L
    pub opening : IsOpened pass door limit opened
    pub all : TurnsTo (ViewerTurned door_facts facts) opened turns viewer

  abbrev pub finished_in : (old : ViewerFacts D L) (turn : Turn) (new : ViewerFacts D L)
      → ViewerTurned door_facts facts old turn new → ℕ
  finished_in old turn new turned =
      finished_along facts
      old.views.list (record { whole = old.views.whole; worked = false })
      turned.steps.steps.stepped (record { whole = turned.between.whole; worked = turned.stepped })
      turned.steps.steps.along

  -- how many texts were taken whole in these turns
  abbrev pub finished_over : (old : ViewerFacts D L) (turns : List Turn) (new : ViewerFacts D L)
      → TurnsTo (ViewerTurned door_facts facts) old turns new → ℕ
  finished_over old [] new all = 0
  finished_over old (turn ∷ turns) new all = finished_over all.0 turns new all.2 + finished_in old turn all.0 all.1
