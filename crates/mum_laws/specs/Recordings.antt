-- The run that a recording says, and how it ends.
use Rattle.std.specs.Prelude.{◌≡◌, ◌<◌, ◌≤◌, ◌+◌, ◌++◌, ◌⊎◌, ℕ, Bool, true, false, List, [], ◌∷◌, Option, IfSome, None, Some, length, map}
use Rattle.std.specs.List.{AllByRecursion, slice_split}
use Rattle.hex.specs.Hex.{IsBytes}
use Rattle.mum_record.specs.{Grammar.IsLineOf, Grammar.IsRecordable, Grammar.line_of, Journal.ended_lines}
use Rattle.mum_record.specs.Lines.{is_line_feed}
use Rattle.mum_record.specs.Head.{AreLimits, first_step_line, head_lines, recording_line, version_with}
use Rattle.mum_record.specs.declared.step.Step.{Step}
use Rattle.mum_opening.specs.Opening.{document_fault, opening}
use Rattle.mum_core.specs.{Core.CoreState, Core.start, Laws.IsRun, Laws.gathered, Laws.ran, Line.text_of}
use Rattle.mum_core.specs.Step.{illegal, lines}
use Rattle.mum_server.specs.Replay.{Outcome}
use Rattle.mum_server.specs.declared.end.End.{End, TheVariants.Finished, TheVariants.Faulty}
use Rattle.mum_server.specs.declared.end.LineFault.{LineFault}
use Rattle.mum_server.specs.declared.end.LineFault.TheVariants.{TooLong, BadRecording, BadConfig, IllegalStep}
use Rattle.mum_record.specs.declared.step.Step.TheVariants as steps

-- ---- the steps

abbrev pub is_end : Step → Bool
is_end steps.End = true
is_end others = false

-- whether the last of these steps ends the recording
abbrev pub is_over : List Step → Bool
is_over [] = false
is_over (step ∷ []) = is_end step
is_over (step ∷ next ∷ more) = is_over (next ∷ more)

-- no step is after the one that ends the recording
abbrev pub NoneIsBehindTheEnd : List Step → Type 0
NoneIsBehindTheEnd [] = Unit {0}
NoneIsBehindTheEnd (step ∷ []) = Unit {0}
NoneIsBehindTheEnd (step ∷ next ∷ more) = (is_end step ≡ false) × NoneIsBehindTheEnd (next ∷ more)

-- ---- the end of a run

-- the bytes of a line with its line feed; what no line feed ends is the last piece of the input
abbrev pub size_of : List ℕ → List (List ℕ) → ℕ
size_of piece [] = length piece
size_of piece (next ∷ more) = length piece + 1

-- a line has more than 131,200 bytes, or the input has more than 67,108,864 with it
abbrev pub IsLong : ℕ → List ℕ → List (List ℕ) → Type 0
IsLong before piece more = (131200 < length piece) ⊎ (67108864 < before + size_of piece more)

abbrev pub IsShort : ℕ → List ℕ → List (List ℕ) → Type 0
IsShort before piece more = (length piece ≤ 131200) × (before + size_of piece more ≤ 67108864)

-- no step has this line, or no line feed ends it
abbrev pub SaysNoStep : List ℕ → List (List ℕ) → Type 0
SaysNoStep piece more = (more ≡ []) ⊎ ((step : Step) → IsLineOf piece step → ⊥)

-- a line says a step that the core forbids, with these numbers
pub record SaysForbidden (core : CoreState) (piece : List ℕ) (more : List (List ℕ)) (given against : ℕ) : Type 0 where
  pub step : Step
  pub said : IsLineOf piece step
  pub ended : more ≡ [] → ⊥
  pub numbers : illegal core step ≡ Some (given, against)

-- why a run stops at the piece of the input that is after its steps, where n bytes come before
abbrev pub Stops : ℕ → CoreState → Bool → List ℕ → List (List ℕ) → LineFault → Type 0
Stops before core over piece more TooLong = IsLong before piece more
Stops before core true piece more BadRecording = IsShort before piece more × ((piece ≡ []) × (more ≡ []) → ⊥)
Stops before core false piece more BadRecording = IsShort before piece more × SaysNoStep piece more
Stops before core false piece more (IllegalStep given against) =
    IsShort before piece more × SaysForbidden core piece more given against
Stops before core over piece more other = ⊥

-- how a run ends after its steps: at line n of the input, unless it is finished
abbrev pub EndsAt : ℕ → ℕ → CoreState → Bool → List (List ℕ) → End → Type 0
EndsAt before n core over [] end = ⊥
EndsAt before n core over (piece ∷ more) Finished = (over ≡ true) × (piece ≡ []) × (more ≡ [])
EndsAt before n core over (piece ∷ more) (Faulty m fault) = (m ≡ n) × Stops before core over piece more fault
EndsAt before n core over (piece ∷ more) other = ⊥

-- ---- a run

-- the lines of steps, and then how the run ends: from line n on, where m bytes come before
pub record IsRunFrom (before n : ℕ) (first : CoreState) (pieces : List (List ℕ)) (outcome : Outcome) : Type 0 where
  pub steps : List Step
  pub behind : List (List ℕ)
  -- each step is said by its line
  pub said : pieces ≡ map line_of steps ++ behind
  pub recordable : AllByRecursion IsRecordable steps
  -- each is allowed where it comes
  pub allowed : IsRun first steps
  pub last : NoneIsBehindTheEnd steps
  -- the transcript is their lines, in order
  pub transcript : outcome.text ≡ text_of (gathered lines first steps)
  pub ending : EndsAt (before + length (ended_lines (map line_of steps))) (n + length steps) (ran first steps)
      (is_over steps) behind outcome.ending

-- ---- a recording

-- a head that a recording may have
pub record IsHead (limits : Option (ℕ × ℕ)) (workers : ℕ) (document : List ℕ) : Type 0 where
  pub some_workers : 1 ≤ workers
  pub few_workers : workers ≤ 8
  pub limits_fit : IfSome limits AreLimits
  pub bytes : IsBytes document
  pub sound : document_fault document ≡ None

-- the run after a head
abbrev pub IsRunBehind : Option (ℕ × ℕ) → ℕ → List ℕ → List (List ℕ) → Outcome → Type 0
IsRunBehind limits workers document pieces outcome =
    IsRunFrom (length (ended_lines (head_lines recording_line workers limits document)))
    (first_step_line (version_with limits))
    (start (version_with limits) (opening limits document) workers) pieces outcome

-- an input begins with a head, and the outcome is of the run after it
pub record IsTranscript (bytes : List ℕ) (outcome : Outcome) : Type 0 where
  pub limits : Option (ℕ × ℕ)
  pub workers : ℕ
  pub document : List ℕ
  pub pieces : List (List ℕ)
  pub head : IsHead limits workers document
  pub begins : slice_split is_line_feed bytes ≡ head_lines recording_line workers limits document ++ pieces
  pub run : IsRunBehind limits workers document pieces outcome

-- ---- an input without a run

abbrev pub IsFaultOfHead : End → Type 0
IsFaultOfHead (Faulty n TooLong) = n ≤ 4
IsFaultOfHead (Faulty n BadRecording) = n ≤ 4
IsFaultOfHead (Faulty n (BadConfig code key)) = n ≤ 4
IsFaultOfHead others = ⊥

-- nothing is reported, and a line of the head is at fault
abbrev pub StopsEarly : Outcome → Type 0
StopsEarly outcome = (outcome.text ≡ []) × IsFaultOfHead outcome.ending
