-- What the program makes of a recording: its transcript, and how the run ends.
use Rattle.std.specs.Prelude.{ℕ, ◌+◌, ◌-◌, ◌||◌, Bool, List, [], ◌∷◌, ◌++◌, length, Option, Some, None, nat_lt, if◌then◌else◌}
use Rattle.std.specs.List.{slice_split}
use Rattle.mum_record.specs.declared.{step.Step.Step, head.Version.Version}
use Rattle.mum_record.specs.declared.head.Version.TheVariants.{One, Two}
use Rattle.mum_record.specs.declared.split.TheConstants.{LINE_LIMIT, INPUT_LIMIT}
use Rattle.mum_record.specs.Head.{recording_version, version_with, workers_of, limits_of, config_of}
use Rattle.mum_record.specs.{Reading.step_of, Lines.is_line_feed}
use Rattle.mum_document.specs.Fault.{Fault, fault_code}
use Rattle.mum_opening.specs.Opening.{document_fault, opening}
use Rattle.mum_core.specs.{Core.CoreState, Core.start, Line.text_of, Step.does, Step.illegal, Step.lines}
use Rattle.mum_server.specs.declared.end.End.{End, TheVariants.Finished, TheVariants.Faulty}
use Rattle.mum_server.specs.declared.{end.LineFault.LineFault, replay.Phase.Phase}
use Rattle.mum_server.specs.declared.end.LineFault.TheVariants.{TooLong, BadRecording, BadConfig, IllegalStep}
use Rattle.mum_server.specs.declared.replay.Phase.TheVariants.{Head, Workers, Limits, Config, LimitedConfig, Running, Over}
use Rattle.mum_record.specs.declared.step.Step.TheVariants as steps

-- ---- one line

-- what a line does: the run goes on in a phase, with these lines reported, or it stops at a fault
pub data Answer : Type 0 where
  Goes : (phase : Phase) (told : List (List (List ℕ))) → Answer
  Stops : (fault : LineFault) → Answer

abbrev pub phase_after : CoreState → Step → Phase
phase_after core steps.End = Over
phase_after core step = Running (does core step)

abbrev pub allowed_answer : CoreState → Step → Option (ℕ × ℕ) → Answer
allowed_answer core step (Some numbers) = Stops (IllegalStep numbers.0 numbers.1)
allowed_answer core step None = Goes (phase_after core step) (lines core step)

abbrev pub step_answer : CoreState → Option Step → Answer
step_answer core None = Stops BadRecording
step_answer core (Some step) = allowed_answer core step (illegal core step)

abbrev pub version_answer : Option Version → Answer
version_answer None = Stops BadRecording
version_answer (Some version) = Goes (Workers version) []

-- the limits come after the workers in version 2 alone
abbrev pub phase_behind_workers : Version → ℕ → Phase
phase_behind_workers One workers = Config workers
phase_behind_workers Two workers = Limits workers

abbrev pub workers_answer : Version → Option ℕ → Answer
workers_answer version None = Stops BadRecording
workers_answer version (Some workers) = Goes (phase_behind_workers version workers) []

abbrev pub limits_answer : ℕ → Option (ℕ × ℕ) → Answer
limits_answer workers None = Stops BadRecording
limits_answer workers (Some limits) = Goes (LimitedConfig workers limits) []

-- a document is refused for its first fault; where it has none, the steps begin at what it describes
abbrev pub opening_answer : Option Fault → Phase → Answer
opening_answer (Some fault) phase = Stops (BadConfig (fault_code fault.cause) fault.key)
opening_answer None phase = Goes phase []

abbrev pub config_answer : ℕ → Option (ℕ × ℕ) → Option (List ℕ) → Answer
config_answer workers limits None = Stops BadRecording
config_answer workers limits (Some document) =
    opening_answer (document_fault document) (Running (start (version_with limits) (opening limits document) workers))

-- what a line of at most the greatest length does in each phase of the recording
unfoldable pub answer : Phase → List ℕ → Answer
answer Head line = version_answer (recording_version line)
answer (Workers version) line = workers_answer version (workers_of line)
answer (Limits workers) line = limits_answer workers (limits_of line)
answer (Config workers) line = config_answer workers None (config_of line)
answer (LimitedConfig workers limits) line = config_answer workers (Some limits) (config_of line)
answer (Running core) line = step_answer core (step_of line)
answer Over line = Stops BadRecording

-- ---- all lines

-- what was written, and how the run ended
pub record Outcome : Type 0 where
  pub text : List ℕ
  pub ending : End

abbrev pub stops_at : ℕ → LineFault → Outcome
stops_at n fault = record { text = []; ending = Faulty n fault }

abbrev pub behind : List ℕ → Outcome → Outcome
behind text outcome = record { text = text ++ outcome.text; ending = outcome.ending }

-- the line is above its limit, or the input passes its own in it
abbrev pub is_too_long : ℕ → ℕ → ℕ → Bool
is_too_long left line all = nat_lt LINE_LIMIT line || nat_lt left all

-- what the next line does to a run in this phase, where n bytes may still come
abbrev pub line_answer : Phase → ℕ → List ℕ → Answer
line_answer phase left line =
    if is_too_long left (length line) (length line + 1) then Stops TooLong else answer phase line

abbrev pub goes_on : ℕ → Answer → (Phase → Outcome) → Outcome
goes_on n (Goes phase told) rest = behind (text_of told) (rest phase)
goes_on n (Stops fault) rest = stops_at n fault

-- the fault of bytes that no line feed ends, where the recording is not over
abbrev pub end_fault : ℕ → List ℕ → LineFault
end_fault left rest = if is_too_long left (length rest) (length rest) then TooLong else BadRecording

-- at the last line feed: the recording is over, and nothing follows
abbrev pub ending_of : Phase → ℕ → ℕ → List ℕ → End
ending_of Over n left [] = Finished
ending_of phase n left rest = Faulty n (end_fault left rest)

-- at the end of the input after a line feed: the recording is over, or line n is missing
abbrev pub end_of : Phase → ℕ → End
end_of Over n = Finished
end_of phase n = Faulty n BadRecording

-- the run from line n on, in a phase, where m bytes may still come: the lines in order up to
-- the first that is faulty. The last piece is what no line feed ends
unfoldable pub outcome_from : Phase → ℕ → ℕ → List (List ℕ) → Outcome
outcome_from phase n left [] = stops_at n BadRecording
outcome_from phase n left (rest ∷ []) = record { text = []; ending = ending_of phase n left rest }
outcome_from phase n left (line ∷ next ∷ more) =
    goes_on n (line_answer phase left line)
    (λ after. outcome_from after (n + 1) (left - (length line + 1)) (next ∷ more))

-- what the program makes of these bytes
unfoldable pub replayed : List ℕ → Outcome
replayed bytes = outcome_from Head 1 INPUT_LIMIT (slice_split is_line_feed bytes)
