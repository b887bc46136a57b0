-- A view: a connection, and the text that it gets. What a step of one does.
use Rattle.std.specs.Prelude.{◌≡◌, ◌≢◌, Bool, true, false, not, List, [], ◌++◌, IsTrue, ℕ}
use Rattle.mum_io.specs.Counts.{CountsFault, CountsStall, next_count}
use Rattle.mum_io.specs.Link.{Appends, Keeps, LinkFacts}
use Rattle.mum_viewer.specs.declared.view.{Went.Went, Counted.Counted}
use Rattle.mum_viewer.specs.declared.view.Went.TheVariants.{Waits, Wrote, Finished, Broke}

-- its link, the bytes of its text that are left to be written, and whether its link was shut
pub record ViewFacts (L : Type 0) : Type 0 where
  pub link : L
  pub left : List ℕ
  pub over : Bool

-- nothing of the text was written yet
abbrev pub new_view : {L : Type 0} → L → List ℕ → ViewFacts L
new_view link text = record { link = link; left = text; over = false }

abbrev pub is_open : {L : Type 0} → ViewFacts L → Bool
is_open view = not view.over

-- what a step adds to what is counted: a view whose text was taken whole is counted, and no other
abbrev pub counted_by : Went → Counted → Counted
counted_by Waits before = before
counted_by Wrote before = record before { worked = true }
counted_by Finished before = record { whole = next_count before.whole; worked = true }
counted_by Broke before = record before { worked = true }

module _ {L : Type 0} (facts : L → LinkFacts) where
  -- these bytes, the first that were left, went over the link
  pub record Sends (old : ViewFacts L) (bytes : List ℕ) (new : ViewFacts L) : Type 0 where
    pub left : old.left ≡ bytes ++ new.left
    pub appended : Appends (facts old.link).written (facts new.link).written bytes
    pub counted : (facts new.link).counts ≡ (facts old.link).counts

  -- nothing was written
  pub record Rests (old new : ViewFacts L) : Type 0 where
    pub left : new.left ≡ old.left
    pub same : Keeps (facts old.link).written (facts new.link).written

  -- it goes on, and its link was not shut
  pub record GoesOn (old new : ViewFacts L) : Type 0 where
    pub over : new.over ≡ false
    pub same : (facts new.link).is_shut ≡ (facts old.link).is_shut

  -- its link was shut
  pub record IsOver (new : ViewFacts L) : Type 0 where
    pub over : new.over ≡ true
    pub shut : IsTrue (facts new.link).is_shut

  -- what a step of a view came to whose link was not shut: its link takes nothing yet; some bytes went, and some are
  -- left; the last byte went; or the link failed
  abbrev pub OpenSteps : ViewFacts L → Went → ViewFacts L → Type 0
  OpenSteps old Waits new = Rests old new × GoesOn old new × CountsStall (facts old.link).counts (facts new.link).counts
  OpenSteps old Wrote new = (bytes : List ℕ) × Sends old bytes new × (bytes ≢ []) × (new.left ≢ []) × GoesOn old new
  OpenSteps old Finished new = (bytes : List ℕ) × Sends old bytes new × (new.left ≡ []) × IsOver new
  OpenSteps old Broke new = Rests old new × IsOver new × CountsFault (facts old.link).counts (facts new.link).counts

module _ {L : Type 0} (facts : L → LinkFacts) where
  -- where its link was shut, nothing happens; nothing is ever read from it
  pub record ViewSteps (old : ViewFacts L) (went : Went) (new : ViewFacts L) : Type 0 where
    pub over : old.over ≡ true → (new ≡ old) × (went ≡ Waits)
    pub moves : old.over ≡ false → OpenSteps facts old went new
    pub reads_nothing : Keeps (facts old.link).left (facts new.link).left

  -- a view made its step, and it was counted
  pub record ViewMoves (old : ViewFacts L) (before : Counted) (new : ViewFacts L) (after : Counted) : Type 0 where
    pub went : Went
    pub steps : ViewSteps old went new
    pub counts_it : after ≡ counted_by went before
