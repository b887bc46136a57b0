-- What the code that runs over a recording answers, in the words of its definition.
use Rattle.std.specs.Prelude.{◌≡◌, ◌+◌, ℕ, Bool, true, false, List, [], ◌++◌, Option, Some, None, Result, Ok, Err, ⊤, string_bytes}
use Rattle.std.specs.Option.{option_map}
use Rattle.mum_record.specs.Head.{config_of}
use Rattle.mum_record.specs.declared.step.Step.{Step}
use Rattle.mum_state.specs.declared.edit.Edit.{Edit}
use Rattle.mum_config.specs.Refusal.{told_fault}
use Rattle.mum_opening.specs.Opening.{document_edits, document_fault}
use Rattle.mum_core.specs.{Core.CoreState, Line.text_of, Step.does, Step.lines}
use Rattle.mum_server.specs.declared.end.End.{End, TheVariants.Faulty, TheVariants.OutOfMemory}
use Rattle.mum_server.specs.declared.end.LineFault.TheVariants.{BadRecording, BadConfig}
use Rattle.mum_server.specs.declared.replay.{Phase.Phase, Phase.TheVariants.Running, Phase.TheVariants.Over, Run.Run}
use Rattle.mum_server.specs.Replay.{Answer, Goes, Stops, answer, config_answer, step_answer, phase_after}
use Rattle.mum_record.specs.declared.step.Step.TheVariants as words

-- line n was taken, with these bytes reported; or it is where the run ends
abbrev pub Answers : ℕ → Phase → List ℕ → Result ⊤ End → Phase → List ℕ → Type 0
Answers n old line (Ok done) new text =
    (told : List (List (List ℕ))) × (answer old line ≡ Goes new told) × (text ≡ text_of told)
Answers n old line (Err (Faulty m fault)) new text = (answer old line ≡ Stops fault) × (m ≡ n)
Answers n old line (Err OutOfMemory) new text = Unit {0}
Answers n old line (Err others) new text = ⊥

-- line n of the head was taken, and reports nothing; or it is where the run ends
abbrev pub Moves : ℕ → Answer → Result ⊤ End → Phase → Type 0
Moves n answer (Ok done) new = answer ≡ Goes new []
Moves n answer (Err (Faulty m fault)) new = (answer ≡ Stops fault) × (m ≡ n)
Moves n answer (Err OutOfMemory) new = Unit {0}
Moves n answer (Err others) new = ⊥

-- the document that line n names, or that it names none
abbrev pub Names : ℕ → Option (List ℕ) → Result (List ℕ) End → Type 0
Names n named (Ok document) = named ≡ Some document
Names n named (Err (Faulty m fault)) = (named ≡ None) × (fault ≡ BadRecording) × (m ≡ n)
Names n named (Err OutOfMemory) = Unit {0}
Names n named (Err others) = ⊥

-- the edits of a document of line n, or its first fault
abbrev pub Describes : ℕ → List ℕ → Result (List Edit) End → Type 0
Describes n document (Ok edits) = (document_fault document ≡ None) × (edits ≡ document_edits document)
Describes n document (Err (Faulty m (BadConfig code key))) =
    (option_map told_fault (document_fault document) ≡ Some (code, key)) × (m ≡ n)
Describes n document (Err OutOfMemory) = Unit {0}
Describes n document (Err others) = ⊥

-- the core at the limits, where there are any, and what a document of line n describes, or the document's first fault
abbrev pub Opens : ℕ → ℕ → Option (ℕ × ℕ) → List ℕ → Result CoreState End → Type 0
Opens n workers limits document (Ok core) = config_answer workers limits (Some document) ≡ Goes (Running core) []
Opens n workers limits document (Err (Faulty m fault)) =
    (config_answer workers limits (Some document) ≡ Stops fault) × (m ≡ n)
Opens n workers limits document (Err OutOfMemory) = Unit {0}
Opens n workers limits document (Err others) = ⊥

-- the core at which the steps begin after line n, or why the run ends there
abbrev pub Begins : ℕ → ℕ → Option (ℕ × ℕ) → List ℕ → Result CoreState End → Type 0
Begins n workers limits line (Ok core) = config_answer workers limits (config_of line) ≡ Goes (Running core) []
Begins n workers limits line (Err (Faulty m fault)) =
    (config_answer workers limits (config_of line) ≡ Stops fault) × (m ≡ n)
Begins n workers limits line (Err OutOfMemory) = Unit {0}
Begins n workers limits line (Err others) = ⊥

-- the step that line n says, or that it says none
abbrev pub Says : ℕ → Option Step → Result Step End → Type 0
Says n said (Ok step) = said ≡ Some step
Says n said (Err (Faulty m fault)) = (said ≡ None) × (fault ≡ BadRecording) × (m ≡ n)
Says n said (Err OutOfMemory) = Unit {0}
Says n said (Err others) = ⊥

-- the step of line n does what the definition says
abbrev pub StepAnswers : ℕ → CoreState → Step → List ℕ → Result ⊤ End → CoreState → List ℕ → Type 0
StepAnswers n core step old (Ok done) new text =
    (step_answer core (Some step) ≡ Goes (phase_after core step) (lines core step)) × (new ≡ does core step)
    × (text ≡ old ++ text_of (lines core step))
StepAnswers n core step old (Err (Faulty m fault)) new text = (step_answer core (Some step) ≡ Stops fault) × (m ≡ n)
StepAnswers n core step old (Err OutOfMemory) new text = Unit {0}
StepAnswers n core step old (Err others) new text = ⊥

-- whether a step is the last
abbrev pub is_end : Step → Bool
is_end words.End = true
is_end others = false

-- the step that line n says was taken, with these bytes reported, and is the last or not; or it is where the run ends
abbrev pub LineAnswers : ℕ → CoreState → List ℕ → Result Bool End → CoreState → List ℕ → Type 0
LineAnswers n core line (Ok true) new text =
    (told : List (List (List ℕ))) × (answer (Running core) line ≡ Goes Over told) × (text ≡ text_of told)
LineAnswers n core line (Ok false) new text =
    (told : List (List (List ℕ))) × (answer (Running core) line ≡ Goes (Running new) told) × (text ≡ text_of told)
LineAnswers n core line (Err (Faulty m fault)) new text = (answer (Running core) line ≡ Stops fault) × (m ≡ n)
LineAnswers n core line (Err OutOfMemory) new text = Unit {0}
LineAnswers n core line (Err others) new text = ⊥

-- a run took its next line, or ends there
abbrev pub Advances : Run → List ℕ → Result ⊤ End → Run → Type 0
Advances old line (Ok done) new =
    (told : List (List (List ℕ))) × (answer old.phase line ≡ Goes new.phase told)
    × (string_bytes new.text ≡ text_of told) × (new.line ≡ old.line + 1)
Advances old line (Err (Faulty n fault)) new = (answer old.phase line ≡ Stops fault) × (n ≡ old.line)
Advances old line (Err OutOfMemory) new = Unit {0}
Advances old line (Err others) new = ⊥
