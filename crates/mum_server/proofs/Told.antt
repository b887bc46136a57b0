-- What a step reports, written with its last line feed.
use Rattle.mum_server.proofs.Common.{◌≡◌, ℕ, Bool, true, false, List, [], ◌∷◌, ◌++◌, None, refl, sym, ap, ◌∙◌, append_assoc, append-nil, line_of_words, Step, CoreState, joined, text_of, does, illegal, lines, allowed_answer}
use Rattle.mum_server.proofs.Answered.{IsDone}
use Rattle.mum_record.specs.declared.step.Step.TheVariants as words

has_lines : List (List (List ℕ)) → Bool
has_lines [] = false
has_lines (line ∷ more) = true

-- each step reports a line at least
tells_lines : (core : CoreState) (step : Step) → has_lines (lines core step) ≡ true
unfolding has_lines
tells_lines core (words.Open c w) = refl
tells_lines core (words.Frame c bytes) = refl
tells_lines core (words.Edit c) = refl
tells_lines core words.Publish = refl
tells_lines core (words.Tell c revision) = refl
tells_lines core (words.Look w revision) = refl
tells_lines core (words.Offer w) = refl
tells_lines core words.Post = refl
tells_lines core (words.Drain c) = refl
tells_lines core (words.Collect c) = refl
tells_lines core (words.Close c cause) = refl
tells_lines core words.End = refl

line_ended : (line : List (List ℕ)) (more : List (List (List ℕ))) → joined (line ∷ more) ++ 10 ∷ [] ≡ text_of (line ∷ more)
line_ended line [] = sym (append-nil (line_of_words line ++ 10 ∷ []))
line_ended line (next ∷ more) =
    append_assoc (line_of_words line) (10 ∷ joined (next ∷ more)) (10 ∷ [])
    ∙ ap (λ (t : List ℕ). line_of_words line ++ 10 ∷ t) (line_ended next more)
    ∙ sym (append_assoc (line_of_words line) (10 ∷ []) (text_of (next ∷ more)))

ended : (told : List (List (List ℕ))) → has_lines told ≡ true → joined told ++ 10 ∷ [] ≡ text_of told
unfolding has_lines
ended [] some = cc
ended (line ∷ more) some = line_ended line more

-- a step that is allowed was taken, and what it reports was written
pub step_taken : (core new : CoreState) (step : Step) (old told text : List ℕ) → illegal core step ≡ None → new ≡ does core step → told ≡ old ++ joined (lines core step)
    → text ≡ told ++ 10 ∷ [] → IsDone core step old new text
step_taken core new step old told text allowed done tells ends = (
  ap (allowed_answer core step) allowed,
  done,
  ends ∙ ap (λ (t : List ℕ). t ++ 10 ∷ []) tells ∙ append_assoc old (joined (lines core step)) (10 ∷ [])
      ∙ ap (λ (t : List ℕ). old ++ t) (ended (lines core step) (tells_lines core step)),
)
