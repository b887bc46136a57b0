-- What the program answers, writes and says.
use Rattle.std.specs.Prelude.{◌≡◌, ℕ, ◌⊎◌, List, [], ◌∷◌, ◌++◌, Option, Some, codes}
use Rattle.std.specs.Option.{option_map}
use Rattle.mum_io.specs.Outside.{Appends, AppendsFront, Rose}
use Rattle.mum_exercise.specs.Exercise.{account}
use Rattle.mum_server.specs.declared.{command.Command.Command, end.End.End}
use Rattle.mum_server.specs.declared.end.End.TheVariants.{Finished, Faulty, ReadFault, WriteFault, OutOfMemory}
use Rattle.mum_server.specs.{End.status_of, End.said_of, End.memory_line, Audit.audit_of}
use Rattle.mum_server.specs.Replay.{Outcome, replayed}
use Rattle.mum_server.specs.declared.command.Command.TheVariants as commands

abbrev pub usage_line : List ℕ
usage_line = codes "usage: murmur replay | audit | exercise SEED STEPS | serve ADDRESS SESSIONS [journal] [view ADDRESS VIEWS] [keep PATH]" ++ 10 ∷ []

-- the whole transcript was written, and the status is that of the run
pub record IsWhole (outcome : Outcome) (status : ℕ) (old new : Option (List ℕ)) : Type 0 where
  pub status_is : status ≡ status_of outcome.ending
  pub whole : Appends old new outcome.text

-- the run was cut short: by a read or a write that failed in this call, or because memory ran out
abbrev pub IsCutShort : ℕ → Type 0 → Type 0 → Type 0
IsCutShort status read_failed write_failed =
    ((status ≡ 3) × read_failed) ⊎ ((status ≡ 4) × write_failed) ⊎ (status ≡ 70)

-- the line was written, or a front of it where the sink failed in this call
abbrev pub Tells : List ℕ → Option (List ℕ) → Option (List ℕ) → Type 0 → Type 0
Tells line old new failed = Appends old new line ⊎ (AppendsFront old new line × failed)

-- the line of an exercise
abbrev pub exercise_outcome : ℕ → ℕ → Outcome
exercise_outcome seed rounds = record { text = account seed rounds; ending = Finished }

-- what a command comes to, where the input reports its bytes
abbrev pub outcome_of : Command → Option (List ℕ) → Option Outcome
outcome_of commands.Replay left = option_map replayed left
outcome_of commands.Audit left = option_map audit_of left
outcome_of (commands.Exercise seed rounds) left = Some (exercise_outcome seed rounds)

-- ---- how a run ended, as the code has it

-- the run came to its end, with the whole transcript written; or it was cut short, with a front of it
abbrev pub Ends : Outcome → End → Option (List ℕ) → Option (List ℕ) → Type 0
Ends outcome ReadFault old new = AppendsFront old new outcome.text
Ends outcome WriteFault old new = AppendsFront old new outcome.text
Ends outcome OutOfMemory old new = AppendsFront old new outcome.text
Ends outcome end old new = (end ≡ outcome.ending) × Appends old new outcome.text

-- a read that failed in the call is reported as such, and no other end hides one
abbrev pub ReadsCounted : End → ℕ → ℕ → Type 0
ReadsCounted ReadFault old new = Rose old new
ReadsCounted end old new = new ≡ old

-- the same of writes
abbrev pub WritesCounted : End → ℕ → ℕ → Type 0
WritesCounted WriteFault old new = Rose old new
WritesCounted end old new = new ≡ old

-- the line of a fault takes memory, the others take none
abbrev pub TakesMemory : End → Type 0
TakesMemory (Faulty n fault) = Unit {0}
TakesMemory end = ⊥

-- the status and the line are those of the end, or memory ran out while the line of a fault was made
abbrev pub Reports : End → ℕ → Option (List ℕ) → Option (List ℕ) → Type 0 → Type 0
Reports end status old new failed =
    ((status ≡ status_of end) × Tells (said_of end) old new failed)
    ⊎ (TakesMemory end × (status ≡ 70) × Tells memory_line old new failed)
