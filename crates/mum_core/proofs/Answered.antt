-- What a step that reports one line is answered by.
use Rattle.mum_core.proofs.Common.{◌≡◌, ℕ, List, [], ◌∷◌, Option, Result, Ok, Err, false, refl, ◌∙◌, map, Gives, Step, line_of_words, StepFault, named_cause, CoreState, joined, does, illegal, is_tell, lines}
use Rattle.mum_record.specs.declared.step.Step.TheVariants as words

-- each other step than a `Tell` reports one line, which is what is reported
pub line_alone : (core : CoreState) (step : Step) → is_tell step ≡ false → joined (lines core step) ∷ [] ≡ map line_of_words (lines core step)
line_alone core (words.Open c w) other = refl
line_alone core (words.Frame c bytes) other = refl
line_alone core (words.Edit c) other = refl
line_alone core words.Publish other = refl
line_alone core (words.Tell c revision) other = cc
line_alone core (words.Look w revision) other = refl
line_alone core (words.Offer w) other = refl
line_alone core words.Post other = refl
line_alone core (words.Drain c) other = refl
line_alone core (words.Collect c) other = refl
line_alone core (words.Close c cause) other = refl
line_alone core words.End other = refl

-- an answer that is another by name
pub told_as : {S F : Type 0} (named : F → Option (ℕ × ℕ)) (cause : Option (ℕ × ℕ)) (a b : List (List ℕ)) (done old : S) (answered : Result (List (List ℕ)) F) (new : S)
    → a ≡ b → Gives named cause a done old answered new → Gives named cause b done old answered new
told_as named cause a b done old (Ok given) new same h = (h.0, h.1 ∙ same, h.2)
told_as named cause a b done old (Err fault) new same h = h

-- an answer of a step that reports one line as one text is its answer
pub alone_gives : (core new : CoreState) (step : Step) (answered : Result (List (List ℕ)) StepFault) → is_tell step ≡ false
    → Gives named_cause (illegal core step) (joined (lines core step) ∷ []) (does core step) core answered new
    → Gives named_cause (illegal core step) (map line_of_words (lines core step)) (does core step) core answered new
alone_gives core new step answered other given =
    told_as named_cause (illegal core step) (joined (lines core step) ∷ []) (map line_of_words (lines core step)) (does core step) core answered new (line_alone core step other) given
