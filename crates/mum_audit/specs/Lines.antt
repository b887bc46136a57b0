-- The number of the first wrong line.
use Rattle.std.specs.Prelude.{◌≡◌, ℕ, ◌+◌, ◌-◌, ◌^◌, ◌<◌, min, length, Some, None, slice_get}
use Rattle.mum_record.specs.{Head.head_lines, Head.journal_line, Journal.lines_of}
use Rattle.mum_record.specs.declared.journal.Journal.{Journal}
use Rattle.mum_audit.specs.declared.finding.Finding.{Finding}
use Rattle.mum_audit.specs.Audit.{findings, first_line, first_wrong}

-- each line between the head and the last one has its finding, or none
abbrev pub EachLineIsTested : Type 0
EachLineIsTested =
    (journal : Journal)
    → length (lines_of journal)
    ≡ length (head_lines journal_line journal.workers journal.limits journal.config) + length (findings journal) + 1

-- nothing is wrong with n lines before this one, and this is wrong with it
pub record IsFirstWrong (journal : Journal) (line : ℕ) (finding : Finding) : Type 0 where
  pub before : ℕ
  pub right : (i : ℕ) → i < before → slice_get (findings journal) i ≡ Some None
  pub wrong : slice_get (findings journal) before ≡ Some (Some finding)
  pub number : line ≡ min (first_line journal + before) (2 ^ 64 - 1)

-- the line that is named is the first wrong one
abbrev pub TheFirstIsNamed : Type 0
TheFirstIsNamed =
    (journal : Journal) (line : ℕ) (finding : Finding)
    → first_wrong (first_line journal) (findings journal) ≡ Some (line, finding) → IsFirstWrong journal line finding
