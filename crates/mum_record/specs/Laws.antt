-- What the computed reading of a line is to the grammar.
use Rattle.std.specs.Prelude.{◌≡◌, ◌↔◌, ℕ, List, Some}
use Rattle.mum_record.specs.declared.step.Step.{Step}
use Rattle.mum_record.specs.{Grammar.IsLineOf, Grammar.IsRecordable, Grammar.line_of, Reading.step_of}

-- a line is read as a step exactly where it says that step
abbrev pub ReadsTheGrammar : Type 0
ReadsTheGrammar = (line : List ℕ) (step : Step) → (step_of line ≡ Some step) ↔ IsLineOf line step

-- a step that has a line is read back from it
abbrev pub ReadsBack : Type 0
ReadsBack = (step : Step) → IsRecordable step → step_of (line_of step) ≡ Some step
