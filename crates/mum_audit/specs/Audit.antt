-- The answer of an audit: the counts of a legal journal, or the first wrong line.
use Rattle.std.specs.Prelude.{◌≡◌, ℕ, ◌-◌, ◌^◌, min, not, Bool, true, false, List, [], ◌∷◌, ◌++◌, length, filter, Option, Some, None}
use Rattle.std.specs.List.{flat_map}
use Rattle.mum_record.specs.{Head.first_step_line, Head.version_with, Journal.IsWritableJournal}
use Rattle.mum_record.specs.declared.journal.{Journal.Journal, Marked.Marked, WorkerEntry.WorkerEntry}
use Rattle.mum_record.specs.declared.journal.WorkerEntry.TheVariants.{Voice, Closed}
use Rattle.mum_opening.specs.Opening.{document_fault, opening}
use Rattle.mum_audit.specs.declared.audited.Audited.{Audited, TheVariants.Legal, TheVariants.Wrong}
use Rattle.mum_audit.specs.declared.finding.Finding.{Finding}
use Rattle.mum_audit.specs.{Controls.after_entries, Controls.control_findings, Past.Past, Past.begun}
use Rattle.mum_audit.specs.Workers.{before_workers, next_line, worker_findings}

-- what an audit asks of a journal: that it can be written, and that its document has no fault
pub record IsAuditable (journal : Journal) : Type 0 where
  pub writable : IsWritableJournal journal
  pub faultless : document_fault journal.config ≡ None

-- ---- what is wrong

-- the line of the first entry
abbrev pub first_line : Journal → ℕ
first_line journal = first_step_line (version_with journal.limits)

-- before the control entries, and after all of them
abbrev pub past_before : Journal → Past
past_before journal = begun (opening journal.limits journal.config)

abbrev pub past_of : Journal → Past
past_of journal = after_entries (past_before journal) journal.controls

-- n lines further
unfoldable pub lines_on : ℕ → List (Option Finding) → ℕ
lines_on line [] = line
lines_on line (one ∷ others) = lines_on (next_line line) others

-- what is wrong with each line of the control entries
abbrev pub findings_of_controls : Journal → List (Option Finding)
findings_of_controls journal = control_findings (past_before journal) journal.controls

-- what is wrong with each line from the first entry on, but with the last, which ends the journal
unfoldable pub findings : Journal → List (Option Finding)
findings journal =
    findings_of_controls journal
    ++ worker_findings (past_of journal)
    (before_workers (lines_on (first_line journal) (findings_of_controls journal))) journal.by_worker

-- the first line with which something is wrong, where the first of these is at this line
unfoldable pub first_wrong : ℕ → List (Option Finding) → Option (ℕ × Finding)
first_wrong line [] = None
first_wrong line (None ∷ others) = first_wrong (next_line line) others
first_wrong line (Some finding ∷ others) = Some (line, finding)

-- ---- the counts

-- a count that stays at the greatest number of 64 bits
abbrev pub total : ℕ → ℕ
total count = min count (2 ^ 64 - 1)

abbrev pub is_voice : WorkerEntry → Bool
is_voice (Voice connection revision packet copies) = true
is_voice (Closed connection cause) = false

-- the copies of an entry
abbrev pub copies_in : WorkerEntry → List Marked
copies_in (Voice connection revision packet copies) = copies
copies_in (Closed connection cause) = []

-- the entries of all workers, and the copies of all entries
abbrev pub entries_of : Journal → List WorkerEntry
entries_of journal = flat_map (λ entries. entries) journal.by_worker

abbrev pub copies_of : Journal → List Marked
copies_of journal = flat_map copies_in (entries_of journal)

abbrev pub is_sent : Marked → Bool
is_sent copy = copy.sent

abbrev pub is_full : Marked → Bool
is_full copy = not copy.sent

-- how many control entries, voice entries, and marks of both kinds there are
abbrev pub counts_of : Journal → Audited
counts_of journal = Legal (length journal.controls) (total (length (filter is_voice (entries_of journal))))
    (total (length (filter is_sent (copies_of journal)))) (total (length (filter is_full (copies_of journal))))

-- ---- the answer

abbrev pub answer : Journal → Option (ℕ × Finding) → Audited
answer journal None = counts_of journal
answer journal (Some (line, finding)) = Wrong line finding.given finding.defined

unfoldable pub audited : Journal → Audited
audited journal = answer journal (first_wrong (first_line journal) (findings journal))
