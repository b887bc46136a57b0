-- What the program reads of a journal: the journal, or the first line that is too long or not in the grammar.
use Rattle.std.specs.Prelude.{◌≡◌, ℕ, ◌+◌, ◌-◌, List, [], ◌∷◌, ◌++◌, length, nat_lt, Option, Some, None, IfSome, Result, Ok, Err, if◌then◌else◌}
use Rattle.std.specs.List.{slice_split}
use Rattle.mum_record.specs.{Journal.Each, Journal.ended_lines, JournalReading.journal_of, Lines.is_line_feed}
use Rattle.mum_record.specs.declared.{journal.Journal.Journal, split.TheConstants.INPUT_LIMIT}
use Rattle.mum_lines.specs.Lines.{HasNoLineFeed}
use Rattle.mum_server.specs.declared.end.End.{End, TheVariants.Faulty, TheVariants.OutOfMemory, TheVariants.ReadFault}
use Rattle.mum_server.specs.declared.end.LineFault.{LineFault, TheVariants.TooLong, TheVariants.BadJournal}
use Rattle.mum_server.specs.Replay.{is_too_long}

-- ---- the lengths

-- the first line from line n on that is too long, where m bytes may still come. The last piece is what no line
-- feed ends
unfoldable pub first_long : ℕ → ℕ → List (List ℕ) → Option ℕ
first_long left n [] = None
first_long left n (rest ∷ []) = if is_too_long left (length rest) (length rest) then Some n else None
first_long left n (line ∷ next ∷ more) =
    if is_too_long left (length line) (length line + 1) then Some n else first_long (left - (length line + 1)) (n + 1)
    (next ∷ more)

-- the first line of a text that is too long
abbrev pub long_line : List ℕ → Option ℕ
long_line bytes = first_long INPUT_LIMIT 1 (slice_split is_line_feed bytes)

-- ---- the journal

-- the first fault of a text whose line n is the first that is not in the grammar: at one line its length is tested first
abbrev pub first_fault : Option ℕ → ℕ → ℕ × LineFault
first_fault None n = (n, BadJournal)
first_fault (Some long) n = if nat_lt n long then (n, BadJournal) else (long, TooLong)

abbrev pub read_with : Option ℕ → Result Journal ℕ → Result Journal (ℕ × LineFault)
read_with None (Ok journal) = Ok journal
read_with (Some long) (Ok journal) = Err (long, TooLong)
read_with long (Err n) = Err (first_fault long n)

-- the journal that a text says, or the first line that is too long or not in the grammar
unfoldable pub journal_read : List ℕ → Result Journal (ℕ × LineFault)
journal_read bytes = read_with (long_line bytes) (journal_of bytes)

-- ---- what the code that reads it answers

-- the text was gathered up to the first line that is too long: the lines before it, each with its line feed
pub record IsFront (bytes text : List ℕ) (long : ℕ) : Type 0 where
  pub lines : List (List ℕ)
  pub rest : List ℕ
  pub text_is : text ≡ ended_lines lines
  pub single : Each HasNoLineFeed lines
  pub bytes_are : bytes ≡ text ++ rest
  pub number : long ≡ length lines + 1

-- or all of it, where no line is
abbrev pub IsGathered : Option ℕ → List ℕ → List ℕ → Type 0
IsGathered None bytes text = text ≡ bytes
IsGathered (Some long) bytes text = IsFront bytes text long

-- the text of an input, or why it was not read
abbrev pub Gathers : Option (List ℕ) → List ℕ → Result (Option ℕ) End → Type 0
Gathers left text (Ok long) = IfSome left (λ bytes. (long ≡ long_line bytes) × IsGathered long bytes text)
Gathers left text (Err ReadFault) = Unit {0}
Gathers left text (Err OutOfMemory) = Unit {0}
Gathers left text (Err others) = ⊥

-- a read that failed is answered as one
abbrev pub CountsReads : {A : Type 0} → Result A End → Type 0 → Type 0 → Type 0
CountsReads (Err ReadFault) rose same = rose
CountsReads others rose same = same

-- the journal of the text that was gathered, or the first fault
abbrev pub ReadsGathered : Option ℕ → List ℕ → Result Journal End → Type 0
ReadsGathered long text (Ok journal) = read_with long (journal_of text) ≡ Ok journal
ReadsGathered long text (Err (Faulty n fault)) = read_with long (journal_of text) ≡ Err (n, fault)
ReadsGathered long text (Err OutOfMemory) = Unit {0}
ReadsGathered long text (Err others) = ⊥

-- the journal of an input, or its first fault, or why it was not read
abbrev pub ReadsInput : Option (List ℕ) → Result Journal End → Type 0
ReadsInput left (Ok journal) = IfSome left (λ bytes. journal_read bytes ≡ Ok journal)
ReadsInput left (Err (Faulty n fault)) = IfSome left (λ bytes. journal_read bytes ≡ Err (n, fault))
ReadsInput left (Err ReadFault) = Unit {0}
ReadsInput left (Err OutOfMemory) = Unit {0}
ReadsInput left (Err others) = ⊥
