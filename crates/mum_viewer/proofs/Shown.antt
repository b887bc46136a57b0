-- What a view has sent of its text, step by step.
use Rattle.mum_viewer.proofs.Common.{◌≡◌, ◌≢◌, IsTrue, ◌⊎◌, inl, inr, ℕ, Bool, true, false, List, [], ◌∷◌, ◌++◌, refl, sym, ap, subst, ◌∙◌, append_assoc, Appends-kept, Appends-nil, Appends-trans, append-nil, or_parts, list_any, ◌↔◌, Rose, Appends, LinkFacts, StateValue, compact_text, HasSent, StepsTo, is_finished, picture_of, picture_object, view_text, OpenSteps, Rests, Sends, ViewFacts, ViewSteps, new_view, Went, Waits, Wrote, Finished, Broke}

ends_in_line : (text : List ℕ) → text ++ 10 ∷ [] ≢ []
ends_in_line [] = λ none. absurd (cc none)
ends_in_line (x ∷ text) = λ none. absurd (cc none)

-- a text of a state is not empty
pub text_not_empty : (state : StateValue) → view_text state ≢ []
text_not_empty state = ends_in_line (compact_text (picture_object (picture_of state)))

module _ {L : Type 0} (facts : L → LinkFacts) where
  begins : (link : L) (text : List ℕ) → HasSent facts link text (new_view link text)
  begins link text = record { sent = []; text_is = refl; appended = Appends-nil (facts link).written }

  sends_on : (link : L) (text bytes : List ℕ) (old new : ViewFacts L) → HasSent facts link text old → Sends facts old bytes new → HasSent facts link text new
  sends_on link text bytes old new has sends = record {
    sent = has.sent ++ bytes;
    text_is = has.text_is ∙ (ap (λ l. has.sent ++ l) sends.left ∙ sym (append_assoc has.sent bytes new.left));
    appended = Appends-trans (facts link).written (facts old.link).written (facts new.link).written has.sent bytes has.appended sends.appended;
  }

  rests_on : (link : L) (text : List ℕ) (old new : ViewFacts L) → HasSent facts link text old → Rests facts old new → HasSent facts link text new
  rests_on link text old new has rests = record {
    sent = has.sent;
    text_is = has.text_is ∙ ap (λ l. has.sent ++ l) (sym rests.left);
    appended = Appends-kept (facts link).written (facts old.link).written (facts new.link).written has.sent has.appended rests.same;
  }

  pub open_on : (link : L) (text : List ℕ) (went : Went) (old new : ViewFacts L) → HasSent facts link text old → OpenSteps facts old went new → HasSent facts link text new
  open_on link text Waits old new has step = rests_on link text old new has step.0
  open_on link text Wrote old new has step = sends_on link text step.0 old new has step.1
  open_on link text Finished old new has step = sends_on link text step.0 old new has step.1
  open_on link text Broke old new has step = rests_on link text old new has step.0

  by_over : (link : L) (text : List ℕ) (went : Went) (old new : ViewFacts L) (over : Bool) → old.over ≡ over → HasSent facts link text old → ViewSteps facts old went new → HasSent facts link text new
  by_over link text went old new true is has step = subst (λ (view : ViewFacts L). HasSent facts link text view) (sym (step.over is).0) has
  by_over link text went old new false is has step = open_on link text went old new has (step.moves is)

  goes_on : (link : L) (text : List ℕ) (steps : List Went) (old new : ViewFacts L) → HasSent facts link text old → StepsTo facts old steps new → HasSent facts link text new
  goes_on link text [] old new has same = subst (λ (view : ViewFacts L). HasSent facts link text view) (sym same) has
  goes_on link text (went ∷ more) old new has (mid, step, rest) = goes_on link text more mid new (by_over link text went old mid old.over refl has step) rest

  pub front : (link : L) (text : List ℕ) (steps : List Went) (view : ViewFacts L) → StepsTo facts (new_view link text) steps view → HasSent facts link text view
  front link text steps view all = goes_on link text steps (new_view link text) view (begins link text) all

  pub whole : (link : L) (text : List ℕ) (steps : List Went) (old new : ViewFacts L) → StepsTo facts (new_view link text) steps old → old.over ≡ false
      → ViewSteps facts old Finished new → Appends (facts link).written (facts new.link).written text
  whole link text steps old new all is_open step =
      let last = step.moves is_open in
      let has = sends_on link text last.0 old new (front link text steps old all) last.1 in
      let all_sent : text ≡ has.sent = has.text_is ∙ (ap (λ l. has.sent ++ l) last.2 ∙ append-nil has.sent) in
      subst (λ (l : List ℕ). Appends (facts link).written (facts new.link).written l) (sym all_sent) has.appended

  by_went : (went : Went) (old new : ViewFacts L) → new.over ≡ true → OpenSteps facts old went new → (went ≡ Finished) ⊎ Rose (facts old.link).counts.faults (facts new.link).counts.faults
  by_went Waits old new over step = absurd (cc (over, step.1.over))
  by_went Wrote old new over step = absurd (cc (over, step.4.over))
  by_went Finished old new over step = inl refl
  by_went Broke old new over step = inr step.2.rose

  pub uncounted : (went : Went) (old new : ViewFacts L) → old.over ≡ false → new.over ≡ true → ViewSteps facts old went new
      → (went ≡ Finished) ⊎ Rose (facts old.link).counts.faults (facts new.link).counts.faults
  uncounted went old new was over step = by_went went old new over (step.moves was)

  -- ---- all of its text went over the link exactly where it was counted

  more_on : (went : Went) (old new : ViewFacts L) → old.left ≢ [] → OpenSteps facts old went new → is_finished went ≡ false → new.left ≢ []
  more_on Waits old new more step never = λ none. more (sym step.0.left ∙ none)
  more_on Wrote old new more step never = step.3
  more_on Finished old new more step never = absurd (cc never)
  more_on Broke old new more step never = λ none. more (sym step.0.left ∙ none)

  more_by : (went : Went) (old new : ViewFacts L) (over : Bool) → old.over ≡ over → old.left ≢ [] → ViewSteps facts old went new → is_finished went ≡ false → new.left ≢ []
  more_by went old new true is more step never = λ none. more (ap (λ (view : ViewFacts L). view.left) (sym (step.over is).0) ∙ none)
  more_by went old new false is more step never = more_on went old new more (step.moves is) never

  -- a view that is counted was open, has no more, and its link is shut
  finished_by : (old new : ViewFacts L) (over : Bool) → old.over ≡ over → ViewSteps facts old Finished new → (new.left ≡ []) × (new.over ≡ true)
  finished_by old new true is step = absurd (cc ((step.over is).1))
  finished_by old new false is step = let moved = step.moves is in (moved.2, moved.3.over)

  stays_over : (steps : List Went) (old new : ViewFacts L) → old.over ≡ true → old.left ≡ [] → StepsTo facts old steps new → new.left ≡ []
  stays_over [] old new over none same = ap (λ (view : ViewFacts L). view.left) same ∙ none
  stays_over (went ∷ more) old new over none (mid, step, rest) =
      let same = (step.over over).0 in
      stays_over more mid new (ap (λ (view : ViewFacts L). view.over) same ∙ over) (ap (λ (view : ViewFacts L). view.left) same ∙ none) rest

  uncounted_lack : (steps : List Went) (old new : ViewFacts L) → old.left ≢ [] → StepsTo facts old steps new → list_any is_finished steps ≡ false → new.left ≢ []
  uncounted_lack [] old new more same never = λ none. more (ap (λ (view : ViewFacts L). view.left) (sym same) ∙ none)
  uncounted_lack (went ∷ more) old new some (mid, step, rest) never =
      let parts = or_parts (is_finished went) (list_any is_finished more) never in
      uncounted_lack more mid new (more_by went old mid old.over refl some step parts.0) rest parts.1

  counted_have : (steps : List Went) (old new : ViewFacts L) → StepsTo facts old steps new → IsTrue (list_any is_finished steps) → new.left ≡ []
  counted_have [] old new same once = absurd (cc once)
  counted_have (Waits ∷ more) old new (mid, step, rest) once = counted_have more mid new rest once
  counted_have (Wrote ∷ more) old new (mid, step, rest) once = counted_have more mid new rest once
  counted_have (Finished ∷ more) old new (mid, step, rest) once =
      let now = finished_by old mid old.over refl step in stays_over more mid new now.1 now.0 rest
  counted_have (Broke ∷ more) old new (mid, step, rest) once = counted_have more mid new rest once

  by_counted : (steps : List Went) (old new : ViewFacts L) (once : Bool) → list_any is_finished steps ≡ once → old.left ≢ [] → StepsTo facts old steps new
      → new.left ≡ [] → IsTrue once
  by_counted steps old new true is some all none = refl
  by_counted steps old new false is some all none = absurd (uncounted_lack steps old new some all is none)

  pub exactly : (link : L) (state : StateValue) (steps : List Went) (view : ViewFacts L) → StepsTo facts (new_view link (view_text state)) steps view
      → (view.left ≡ []) ↔ IsTrue (list_any is_finished steps)
  exactly link state steps view all = (
    by_counted steps (new_view link (view_text state)) view (list_any is_finished steps) refl (text_not_empty state) all,
    counted_have steps (new_view link (view_text state)) view all,
  )
