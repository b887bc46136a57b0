-- The entries of the workers, in the order of the lines.
use Rattle.std.specs.Prelude.{ℕ, ◌+◌, ◌-◌, ◌^◌, ◌==◌, min, List, [], ◌∷◌, ◌++◌, fold, Option, None}
use Rattle.std.specs.{Map.lookup, Option.option_map}
use Rattle.mum_record.specs.declared.journal.WorkerEntry.{WorkerEntry, TheVariants.Voice, TheVariants.Closed}
use Rattle.mum_audit.specs.declared.finding.Finding.{Finding}
use Rattle.mum_audit.specs.{Finding.numbers_differ, Past.Past, Voice.voice_finding}

-- the number of the line below; lines are counted up to the greatest number of 64 bits
abbrev pub next_line : ℕ → ℕ
next_line line = min (line + 1) (2 ^ 64 - 1)

-- how far the entries of the workers are gone through
pub record Trail : Type 0 where
  -- the line that comes next
  pub line : ℕ
  -- the revision of the last voice entry of this worker, 0 where there is none yet
  pub least : ℕ
  -- each connection that has a closing entry, with the line of the entry; the first is found first
  pub closed : List (ℕ × ℕ)

-- before the entries of the first worker
abbrev pub before_workers : ℕ → Trail
before_workers line = record { line = line; least = 0; closed = [] }

-- below the line with the number of a worker
abbrev pub at_worker : Trail → Trail
at_worker trail = record trail { line = next_line trail.line; least = 0 }

-- below an entry
abbrev pub after_entry : Trail → WorkerEntry → Trail
after_entry trail (Voice connection revision packet copies) =
    record trail { line = next_line trail.line; least = revision }
after_entry trail (Closed connection cause) =
    record trail { line = next_line trail.line; closed = trail.closed ++ (connection, trail.line) ∷ [] }

abbrev pub after_entries : Trail → List WorkerEntry → Trail
after_entries trail entries = fold after_entry trail entries

-- the line of the first closing entry of a connection
abbrev pub closed_at : Trail → ℕ → Option ℕ
closed_at trail connection = lookup (λ other. connection == other) trail.closed

-- a connection that has a closing entry already
abbrev pub closing_finding : Trail → ℕ → Option Finding
closing_finding trail connection = option_map (λ first. numbers_differ connection first) (closed_at trail connection)

-- what is wrong with an entry, if anything
abbrev pub entry_finding : Past → Trail → WorkerEntry → Option Finding
entry_finding past trail (Voice connection revision packet copies) =
    voice_finding past trail.least connection revision packet copies
entry_finding past trail (Closed connection cause) = closing_finding trail connection

-- what is wrong with each of these entries
unfoldable pub entry_findings : Past → Trail → List WorkerEntry → List (Option Finding)
entry_findings past trail [] = []
entry_findings past trail (entry ∷ entries) =
    entry_finding past trail entry ∷ entry_findings past (after_entry trail entry) entries

-- what is wrong with each line of the workers: nothing with the number of a worker, and then its entries
unfoldable pub worker_findings : Past → Trail → List (List WorkerEntry) → List (Option Finding)
worker_findings past trail [] = []
worker_findings past trail (entries ∷ workers) =
    None ∷ entry_findings past (at_worker trail) entries
    ++ worker_findings past (after_entries (at_worker trail) entries) workers
