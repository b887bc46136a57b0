-- What a worker keeps of what it did.
use Rattle.std.specs.Prelude.{ℕ, ◌+◌, ◌-◌, Bool, true, false, ◌&&◌, ◌||◌, not, min, nat_lt, List, [], ◌∷◌, ◌++◌, Option, Some, None, if◌then◌else◌}
use Rattle.mum_base.specs.declared.number.Cause.{Cause}
use Rattle.mum_outbox.specs.declared.rule.TheConstants.{LAST}
use Rattle.mum_record.specs.declared.journal.{Marked.Marked, WorkerEntry.WorkerEntry}
use Rattle.mum_port.specs.declared.port.Step.{Step}
use Rattle.mum_base.specs.declared.number.Cause.TheVariants as causes
use Rattle.mum_record.specs.declared.journal.WorkerEntry.TheVariants as kinds

-- what a worker counts and, where a journal is kept, writes down
pub record RecordFacts : Type 0 where
  -- whether a journal is kept
  pub journal : Bool
  pub entries : List WorkerEntry
  -- whether a packet may be routed: the room of its entry is kept, where a journal is
  pub has_room : Bool
  -- how many connections may still be taken in, where a journal is kept
  pub left : ℕ
  -- how many closing entries may still come
  pub owed : ℕ
  -- how many parcels were taken for other sessions, as far as that is counted
  pub stale : ℕ
  -- whether a port closed because memory ran out
  pub no_memory : Bool

abbrev pub count_of : Bool → ℕ
count_of false = 0
count_of true = 1

-- nothing was done yet; a journal is of at most n connections
abbrev pub first_record : Option ℕ → RecordFacts
first_record None =
    record { journal = false; entries = []; has_room = true; left = 0; owed = 0; stale = 0; no_memory = false }
first_record (Some count) =
    record { journal = true; entries = []; has_room = false; left = count; owed = count; stale = 0; no_memory = false }

-- the same without the room of a voice entry
abbrev pub without_room : RecordFacts → RecordFacts
without_room kept = record kept { has_room = false }

-- a packet that was routed has an entry, where a journal is kept
abbrev pub with_voice : ℕ → ℕ → List ℕ → List Marked → RecordFacts → RecordFacts
with_voice connection revision packet marks kept = record kept {
  entries = if kept.journal then kept.entries ++ kinds.Voice connection revision packet marks ∷ [] else kept.entries;
}

abbrev pub is_memory : Cause → Bool
is_memory causes.End = false
is_memory causes.LinkFault = false
is_memory causes.FrameTooLong = false
is_memory causes.Rejected = false
is_memory causes.Kicked = false
is_memory causes.Lagged = false
is_memory causes.Memory = true

-- a closing entry may be kept
abbrev pub has_closing_room : RecordFacts → Bool
has_closing_room kept = kept.journal && nat_lt 0 kept.owed

-- what a port closed for, if it did: it has an entry, where a journal is kept
abbrev pub after_close : ℕ → Option Cause → RecordFacts → RecordFacts
after_close connection None kept = kept
after_close connection (Some cause) kept = record kept {
  entries = if has_closing_room kept then kept.entries ++ kinds.Closed connection cause ∷ [] else kept.entries;
  owed = if has_closing_room kept then kept.owed - 1 else kept.owed;
  no_memory = kept.no_memory || is_memory cause;
}

-- what the step of a port came to
abbrev pub after_step : ℕ → Step → RecordFacts → RecordFacts
after_step connection step kept =
    after_close connection step.closed (record kept { stale = min (kept.stale + step.stale) LAST })

-- a connection more may be taken in: where a journal is kept, its closing entry has room
abbrev pub may_take_in : RecordFacts → Bool
may_take_in kept = not kept.journal || nat_lt 0 kept.left

abbrev pub taking_in : RecordFacts → RecordFacts
taking_in kept = record kept { left = kept.left - 1 }
