-- What reading a journal answers.
use Rattle.std.specs.Prelude.{◌≡◌, ℕ, ◌-◌, ◌<◌, ◌≤◌, List, length, take, ⊤, Option, Some, None, Result, Ok, Err}
use Rattle.mum_record.specs.declared.{step.LineFault.LineFault, journal.Journal.Journal}
use Rattle.mum_record.specs.declared.{journal.JournalFault.JournalFault, draft.Draft.Draft, draft.Stage.Stage}
use Rattle.mum_record.specs.Journal.{lines_of, ended_lines, IsJournal, IsTextOf, BeginJournal}
use Rattle.mum_record.specs.JournalReading.{taken, taken_at, with_entries, journal_of, pieces_of}
use Rattle.mum_record.specs.declared.step.LineFault.TheVariants as line
use Rattle.mum_record.specs.declared.journal.JournalFault.TheVariants as journal

-- the value that was to be read, or none where there is none; memory may run out in any case
abbrev pub ReadsOrTires : {X : Type 0} → Result X LineFault → Option X → Type 0
ReadsOrTires (Ok value) read = read ≡ Some value
ReadsOrTires (Err line.NotALine) read = read ≡ None
ReadsOrTires (Err line.OutOfMemory) read = Unit {0}

-- the same for a draft that has changed to what was to be read
abbrev pub ChangesTo : Option Draft → Result ⊤ LineFault → Draft → Type 0
ChangesTo read (Ok done) new = read ≡ Some new
ChangesTo read (Err line.NotALine) new = read ≡ None
ChangesTo read (Err line.OutOfMemory) new = Unit {0}

-- a draft takes its next line
abbrev pub Takes : Draft → List ℕ → Result ⊤ LineFault → Draft → Type 0
Takes old line result new = ChangesTo (taken old line) result new

-- the same, where the draft is at a stage
abbrev pub TakesAt : Stage → Draft → List ℕ → Result ⊤ LineFault → Draft → Type 0
TakesAt stage old line result new = ChangesTo (taken_at stage old line) result new

-- the entries of a worker are all there
abbrev pub EndsEntries : Draft → Result ⊤ LineFault → Draft → Type 0
EndsEntries old result new = ChangesTo (Some (with_entries old)) result new

-- the fault of a line as that of the journal that it is in
abbrev pub StopsAt : ℕ → LineFault → JournalFault → Type 0
StopsAt n line.NotALine fault = fault ≡ journal.NotALine n
StopsAt n line.OutOfMemory fault = fault ≡ journal.OutOfMemory

-- the journal that was to be read, or the number of the faulty line; memory may run out in any case
abbrev pub AnswersBy : Result Journal ℕ → Result Journal JournalFault → Type 0
AnswersBy read (Ok value) = read ≡ Ok value
AnswersBy read (Err (journal.NotALine n)) = read ≡ Err n
AnswersBy read (Err journal.OutOfMemory) = Unit {0}

-- the journal that a text says, or the number of its first faulty line
abbrev pub ReadsText : List ℕ → Result Journal JournalFault → Type 0
ReadsText text result = AnswersBy (journal_of text) result

-- line n of a text, counted from 1, is the first that no journal has after the lines before it;
-- the last piece of a text is no line, and where the fault is there the journal has not ended, or
-- something follows its end
pub record IsFirstFault (text : List ℕ) (n : ℕ) : Type 0 where
  pub least : 1 ≤ n
  pub greatest : n ≤ length (pieces_of text)
  pub before : BeginJournal (take (n - 1) (pieces_of text))
  pub there : n < length (pieces_of text) → BeginJournal (take n (pieces_of text)) → ⊥
  pub missing : n ≡ length (pieces_of text) → (journal : Journal) → IsTextOf text journal → ⊥

-- a fault names the first faulty line
abbrev pub NamesFirstFault : List ℕ → JournalFault → Type 0
NamesFirstFault text (journal.NotALine n) = IsFirstFault text n
NamesFirstFault text journal.OutOfMemory = Unit {0}

-- ---- laws

-- the text of a journal is read as that journal
abbrev pub JournalsAreReadBack : Type 0
JournalsAreReadBack = (journal : Journal) → IsJournal journal → journal_of (ended_lines (lines_of journal)) ≡ Ok journal

-- so a text says one journal at most
abbrev pub TextsSayOneJournal : Type 0
TextsSayOneJournal = (text : List ℕ) (a b : Journal) → IsTextOf text a → IsTextOf text b → a ≡ b
