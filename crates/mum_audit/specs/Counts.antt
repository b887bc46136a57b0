-- The counts of the workers' entries as they are added up.
use Rattle.std.specs.Prelude.{◌+◌, List, filter, fold, length}
use Rattle.mum_record.specs.declared.journal.WorkerEntry.{WorkerEntry, TheVariants.Voice, TheVariants.Closed}
use Rattle.mum_audit.specs.declared.count.Counts.{Counts}
use Rattle.mum_audit.specs.Audit.{is_full, is_sent, total}

abbrev pub no_counts : Counts
no_counts = record { voices = 0; copies = 0; full = 0 }

-- with one entry more
abbrev pub with_entry : Counts → WorkerEntry → Counts
with_entry counts (Voice connection revision packet copies) = record {
  voices = total (counts.voices + 1);
  copies = total (counts.copies + length (filter is_sent copies));
  full = total (counts.full + length (filter is_full copies));
}
with_entry counts (Closed connection cause) = counts

-- with the entries of a worker more
abbrev pub with_entries : Counts → List WorkerEntry → Counts
with_entries counts entries = fold with_entry counts entries

-- with those of several workers more
abbrev pub with_workers : Counts → List (List WorkerEntry) → Counts
with_workers counts by_worker = fold with_entries counts by_worker
