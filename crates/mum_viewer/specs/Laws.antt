-- What holds of a view over its steps, and of all views in a turn in which none did anything.
use Rattle.std.specs.Prelude.{◌≡◌, ℕ, Bool, true, false, List, [], ◌∷◌, ◌++◌, ⊤}
use Rattle.mum_io.specs.{Counts.Rose, Link.Appends, Link.LinkFacts}
use Rattle.mum_viewer.specs.View.{ViewFacts, ViewSteps}
use Rattle.mum_viewer.specs.declared.view.Went.{Went}
use Rattle.mum_viewer.specs.declared.view.Went.TheVariants.{Waits, Wrote, Finished, Broke}

-- of the text that it was given, these bytes went over its link since it came, and the others are left
pub record HasSent {L : Type 0} (facts : L → LinkFacts) (gave : L) (text : List ℕ) (view : ViewFacts L) : Type 0 where
  pub sent : List ℕ
  pub text_is : text ≡ sent ++ view.left
  pub appended : Appends (facts gave).written (facts view.link).written sent

module _ {L : Type 0} (facts : L → LinkFacts) where
  -- steps, one after another
  abbrev pub StepsTo : ViewFacts L → List Went → ViewFacts L → Type 0
  StepsTo old [] new = new ≡ old
  StepsTo old (went ∷ more) new =
      (mid : ViewFacts L) × ViewSteps facts old went mid × StepsTo mid more new

-- its text was taken whole in this step
abbrev pub is_finished : Went → Bool
is_finished Waits = false
is_finished Wrote = false
is_finished Finished = true
is_finished Broke = false

-- its link was not shut
abbrev pub IsOpenView : {L : Type 0} → ViewFacts L → Type 0
IsOpenView view = view.over ≡ false

-- each of these found its link not ready
abbrev pub AllStalled : {L : Type 0} → (L → LinkFacts) → List (ViewFacts L) → List (ViewFacts L) → Type 0
AllStalled facts [] [] = ⊤
AllStalled facts [] (new ∷ news) = ⊥
AllStalled facts (old ∷ olds) [] = ⊥
AllStalled facts (old ∷ olds) (new ∷ news) =
    Rose (facts old.link).counts.stalls (facts new.link).counts.stalls × AllStalled facts olds news
