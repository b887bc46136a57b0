-- The journal of a server.
use Rattle.std.specs.Prelude.{ℕ, ◌+◌, ◌/◌, ◌%◌, min, Bool, true, false, List, Option, Some, None}
use Rattle.mum_record.specs.Journal.{Each, IsWritableControl, IsWritableEntry, ended_lines, lines_of}
use Rattle.mum_record.specs.declared.journal.{Journal.Journal, WorkerEntry.WorkerEntry}
use Rattle.mum_opening.specs.Opening.{greatest_limits}
use Rattle.mum_worker.specs.Facts.{WorkerFacts}
use Rattle.mum_serve.specs.declared.entries.Entries.{Entries}

-- of n connections, those that may come to one of m workers: as many to each, and one more where some are left
abbrev pub per_worker : ℕ → ℕ → ℕ
per_worker connections workers = connections / workers + min 1 (connections % workers)

-- for how many connections a worker keeps room of a closing entry, where a journal is asked for
abbrev pub closing_room : Bool → ℕ → ℕ → Option ℕ
closing_room false connections workers = None
closing_room true connections workers = Some (per_worker connections workers)

-- what a worker wrote down
abbrev pub entries_of : {L : Type 0} → WorkerFacts L → List WorkerEntry
entries_of worker = worker.common.kept.entries

-- each entry has a line in a journal
pub record AreWritable (entries : Entries) : Type 0 where
  pub controls : Each IsWritableControl entries.controls
  pub by_worker : Each (Each IsWritableEntry) entries.by_worker

-- the journal of a server that read this document
abbrev pub journal_of : ℕ → List ℕ → Entries → Journal
journal_of workers document entries = record {
  workers = workers;
  limits = greatest_limits;
  config = document;
  controls = entries.controls;
  by_worker = entries.by_worker;
}

-- the journal, where one was asked for
abbrev pub where_asked : Bool → Journal → Option Journal
where_asked true journal = Some journal
where_asked false journal = None

-- its lines, each ended by a line feed
abbrev pub journal_text : Journal → List ℕ
journal_text journal = ended_lines (lines_of journal)
