-- Views of which none did anything.
use Rattle.mum_viewer.proofs.Common.{◌≡◌, false, not, if◌then◌else◌, List, [], ◌∷◌, filter, refl, sym, ap, subst, ◌∙◌, AllByRecursion, Along, Rose, LinkFacts, AllStalled, IsOpenView, OpenSteps, ViewFacts, ViewMoves, counted_by, is_open, StepsViews, ViewsFacts, Counted, Went, Waits, Wrote, Finished, Broke}

all_stay : {L : Type 0} (views : List (ViewFacts L)) → AllByRecursion IsOpenView views → filter is_open views ≡ views
all_stay [] open_ones = refl
all_stay (view ∷ views) (one, others) =
    ap (λ over. if not over then view ∷ filter is_open views else filter is_open views) one ∙ ap (λ l. view ∷ l) (all_stay views others)

module _ {L : Type 0} (facts : L → LinkFacts) where
  idle_step : (went : Went) (old new : ViewFacts L) (before : Counted) → OpenSteps facts old went new → (counted_by went before).worked ≡ false
      → (before.worked ≡ false) × Rose (facts old.link).counts.stalls (facts new.link).counts.stalls × (new.over ≡ false)
  idle_step Waits old new before step none = (none, step.2.rose, step.1.over)
  idle_step Wrote old new before step none = absurd (cc none)
  idle_step Finished old new before step none = absurd (cc none)
  idle_step Broke old new before step none = absurd (cc none)

  idle_along : (olds news : List (ViewFacts L)) (before after : Counted) → Along (ViewMoves facts) olds before news after → after.worked ≡ false
      → AllByRecursion IsOpenView olds → (before.worked ≡ false) × AllStalled facts olds news × AllByRecursion IsOpenView news
  idle_along [] [] before after same none open_ones = (ap (λ (counted : Counted). counted.worked) (sym same) ∙ none, tt, tt)
  idle_along [] (new ∷ news) before after along none open_ones = absurd along
  idle_along (old ∷ olds) [] before after along none open_ones = absurd along
  idle_along (old ∷ olds) (new ∷ news) before after (between, move, rest) none (one, others) =
      let later = idle_along olds news between after rest none others in
      let now = idle_step move.went old new before (move.steps.moves one) (sym (ap (λ (counted : Counted). counted.worked) move.counts_it) ∙ later.0) in
      (now.0, (now.1, later.1), (now.2, later.2))

  pub all_stalled : (old new : ViewsFacts L) → AllByRecursion IsOpenView old.list → StepsViews facts old false new → AllStalled facts old.list new.list
  all_stalled old new open_ones steps =
      let all = idle_along old.list steps.steps.stepped (record { whole = old.whole; worked = false }) (record { whole = new.whole; worked = false }) steps.steps.along refl open_ones in
      subst (λ (l : List (ViewFacts L)). AllStalled facts old.list l) (sym (steps.steps.left ∙ all_stay steps.steps.stepped all.2)) all.1
