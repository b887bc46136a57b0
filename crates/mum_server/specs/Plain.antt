-- What a run without a door answers, writes and says.
use Rattle.std.specs.Prelude.{◌≡◌, ◌==◌, ℕ, ◌⊎◌, List, Option, IfSome, IsTrue}
use Rattle.std.specs.List.{list_any}
use Rattle.mum_io.specs.Outside.{AppendsFront, Rose}
use Rattle.mum_server.specs.{Audit.audit_of, Replay.replayed}
use Rattle.mum_server.specs.Command.{IsExercise, IsNoCommand, audit_words, replay_words}
use Rattle.mum_server.specs.End.{memory_line, read_fault_line, said, statuses, write_fault_line}
use Rattle.mum_server.specs.Program.{IsWhole, IsCutShort, Tells, exercise_outcome, usage_line}

-- the faults of an input, and the bytes that it has left
pub record InputFacts : Type 0 where
  pub left : Option (List ℕ)
  pub faults : ℕ

-- the faults of a sink, and what was written to it
pub record SinkFacts : Type 0 where
  pub written : Option (List ℕ)
  pub faults : ℕ

-- the words are those of a run without a door, and these hold of it: for which the input or the output is the same is
-- said by the two types
pub record RunsPlainly (words : List (List ℕ)) (input input_after : InputFacts)
    (output output_after errors errors_after : SinkFacts) (input_same output_same : Type 0) (status : ℕ) : Type 0 where
  -- the transcript and the status are those of the recording with its configuration, or the run is cut short for a
  -- cause
  pub replay : words ≡ replay_words → IfSome input.left (λ bytes.
      IsWhole (replayed bytes) status output.written output_after.written
      ⊎ (AppendsFront output.written output_after.written (replayed bytes).text
      × IsCutShort status (Rose input.faults input_after.faults) (Rose output.faults output_after.faults)))
  -- the line of that status is said
  pub says : words ≡ replay_words → IfSome input.left (λ bytes.
      Tells (said status (replayed bytes).ending) errors.written errors_after.written
      (Rose errors.faults errors_after.faults))
  -- the counts of a legal journal are written, or the status is that of its first fault, or the run is cut short
  pub audit : words ≡ audit_words → IfSome input.left (λ bytes.
      IsWhole (audit_of bytes) status output.written output_after.written
      ⊎ (AppendsFront output.written output_after.written (audit_of bytes).text
      × IsCutShort status (Rose input.faults input_after.faults) (Rose output.faults output_after.faults)))
  pub audit_says : words ≡ audit_words → IfSome input.left (λ bytes.
      Tells (said status (audit_of bytes).ending) errors.written errors_after.written
      (Rose errors.faults errors_after.faults))
  -- an exercise reads nothing; its line is written and the status is 0, or it is cut short
  pub exercise : (seed rounds : ℕ) → IsExercise words seed rounds →
      input_same
      × (IsWhole (exercise_outcome seed rounds) status output.written output_after.written
      ⊎ (AppendsFront output.written output_after.written (exercise_outcome seed rounds).text
      × IsCutShort status ⊥ (Rose output.faults output_after.faults)))
  pub exercise_says : (seed rounds : ℕ) → IsExercise words seed rounds →
      Tells (said status (exercise_outcome seed rounds).ending)
      errors.written errors_after.written (Rose errors.faults errors_after.faults)
  -- the two faults have their cause, and one that failed is reported as such
  pub read_fault : status ≡ 3 → Rose input.faults input_after.faults
  pub write_fault : status ≡ 4 → Rose output.faults output_after.faults
  pub no_other_read : (status ≡ 3 → ⊥) → input_after.faults ≡ input.faults
  pub no_other_write : (status ≡ 4 → ⊥) → output_after.faults ≡ output.faults
  -- other words are no command: nothing is read, and nothing but the usage is written
  pub usage : IsNoCommand words → (status ≡ 1) × input_same × output_same
      × Tells usage_line errors.written errors_after.written (Rose errors.faults errors_after.faults)
  pub usage_alone : status ≡ 1 → IsNoCommand words
  -- there is no other status, and these three have one line each
  pub status_is : IsTrue (list_any (λ one. one == status) statuses)
  pub read_line : status ≡ 3
      → Tells read_fault_line errors.written errors_after.written (Rose errors.faults errors_after.faults)
  pub write_line : status ≡ 4
      → Tells write_fault_line errors.written errors_after.written (Rose errors.faults errors_after.faults)
  pub memory_line : status ≡ 70
      → Tells memory_line errors.written errors_after.written (Rose errors.faults errors_after.faults)
