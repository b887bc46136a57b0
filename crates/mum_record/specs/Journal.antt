-- The lines of a journal: what the control owner decided, and then, worker by worker, what each of them sent and
-- closed.
use Rattle.std.specs.Prelude.{◌≡◌, ℕ, ◌+◌, ◌^◌, ◌<◌, ◌≤◌, ◌==◌, Bool, true, false, IsTrue, List, [], ◌∷◌, ◌++◌, length, map, Option, Some, None, IfSome, codes}
use Rattle.std.specs.{Fmt.decimal, List.flat_map, List.join_with_byte}
use Rattle.hex.specs.Hex.{encode_lower, IsBytes}
use Rattle.mum_base.specs.declared.reply.Mark.{Mark}
use Rattle.mum_base.specs.declared.reply.Mark.TheVariants.{Accepted, Lacks, Refused, Rejected, Answer, Ignored}
use Rattle.mum_frame.specs.Frame.{IsOneFrame, kind_of}
use Rattle.mum_frame.specs.declared.kind.TheConstants.{AUTHENTICATE}
use Rattle.mum_record.specs.{Words.line_of_words, Grammar.cause_word, Grammar.revision_word}
use Rattle.mum_record.specs.Head.{journal_line, head_lines, AreLimits}
use Rattle.mum_record.specs.declared.{head.TheConstants.WORKERS_LIMIT, journal.ControlEntry.ControlEntry}
use Rattle.mum_record.specs.declared.journal.{Marked.Marked, WorkerEntry.WorkerEntry}
use Rattle.mum_record.specs.declared.journal.WorkerEntry.TheVariants.{Voice, Closed}
use Rattle.mum_record.specs.declared.journal.Journal.{Journal}

-- ---- what the control owner decided

-- a verdict, in the words in which a transcript prints it
abbrev pub verdict_words : Mark → List (List ℕ)
verdict_words (Accepted revision) = codes "accepted" ∷ decimal revision ∷ []
verdict_words (Lacks perm channel) = codes "lacks" ∷ decimal perm.0 ∷ decimal channel.0 ∷ []
verdict_words (Refused kind) = codes "refused" ∷ decimal kind ∷ []
verdict_words (Rejected kind) = codes "rejected" ∷ decimal kind ∷ []
verdict_words Answer = codes "answer" ∷ []
verdict_words (Ignored why) = codes "ignored" ∷ decimal why ∷ []

-- the frame of a command, or the leave of a connection that ended
abbrev pub command_word : Option (List ℕ) → List ℕ
command_word None = codes "leave"
command_word (Some frame) = encode_lower frame

-- the words of a control entry
unfoldable pub control_words : ControlEntry → List (List ℕ)
control_words entry =
    codes "c" ∷ decimal entry.connection ∷ revision_word entry.version ∷ command_word entry.frame ∷ verdict_words entry.verdict

-- ---- what a worker did

-- a copy that was sent, or that found the box full
abbrev pub mark_word : Bool → List ℕ
mark_word true = codes "s"
mark_word false = codes "f"

-- the session that a copy is for, its context and its mark, separated by `/`
unfoldable pub copy_word : Marked → List ℕ
copy_word copy = join_with_byte 47 (decimal copy.session.0 ∷ decimal copy.context ∷ mark_word copy.sent ∷ [])

-- a copy after a space
abbrev pub behind_copy : Marked → List ℕ
behind_copy copy = 32 ∷ copy_word copy

-- the words of an entry of a worker
unfoldable pub entry_words : WorkerEntry → List (List ℕ)
entry_words (Voice connection revision packet copies) =
    codes "v" ∷ decimal connection ∷ decimal revision ∷ encode_lower packet ∷ decimal (length copies) ∷ map copy_word copies
entry_words (Closed connection cause) = codes "x" ∷ decimal connection ∷ cause_word cause ∷ []

-- ---- the lines, without their line feeds

-- the line of a control entry
abbrev pub control_line : ControlEntry → List ℕ
control_line entry = line_of_words (control_words entry)

-- the line of an entry of a worker
abbrev pub entry_line : WorkerEntry → List ℕ
entry_line entry = line_of_words (entry_words entry)

-- the entries of worker n follow
abbrev pub worker_line : ℕ → List ℕ
worker_line n = line_of_words (codes "worker" ∷ decimal n ∷ [])

-- the last line
abbrev pub end_line : List ℕ
end_line = codes "end"

-- the entries of the workers from worker n on
unfoldable pub lines_from : ℕ → List (List WorkerEntry) → List (List ℕ)
lines_from n [] = []
lines_from n (entries ∷ others) = worker_line n ∷ map entry_line entries ++ lines_from (n + 1) others

-- the lines of a journal
unfoldable pub lines_of : Journal → List (List ℕ)
lines_of journal =
    head_lines journal_line journal.workers journal.limits journal.config
    ++ map control_line journal.controls ++ lines_from 0 journal.by_worker ++ end_line ∷ []

-- lines as a text, each ended by a line feed
abbrev pub ended_lines : List (List ℕ) → List ℕ
ended_lines lines = flat_map (λ line. line ++ 10 ∷ []) lines

-- ---- which journals have lines

-- each of a list
abbrev pub Each : {X : Type 0} → (X → Type 0) → List X → Type 0
Each P [] = Unit {0}
Each P (x ∷ xs) = P x × Each P xs

-- types, reasons and contexts fit 8 bits, sessions, channels and permissions 32, revisions 64
abbrev pub FitsVerdict : Mark → Type 0
FitsVerdict (Accepted revision) = revision < 2 ^ 64
FitsVerdict (Lacks perm channel) = (perm.0 < 2 ^ 32) × (channel.0 < 2 ^ 32)
FitsVerdict (Refused kind) = kind < 2 ^ 8
FitsVerdict (Rejected kind) = kind < 2 ^ 8
FitsVerdict Answer = Unit {0}
FitsVerdict (Ignored why) = why < 2 ^ 8

-- connections and Version numbers fit 32 bits
abbrev pub FitsControl : ControlEntry → Type 0
FitsControl entry =
    (entry.connection < 2 ^ 32) × IfSome entry.version (λ v. v < 2 ^ 32) × IfSome entry.frame IsBytes
    × FitsVerdict entry.verdict

-- the session fits 32 bits and the context 8
abbrev pub FitsCopy : Marked → Type 0
FitsCopy copy = (copy.session.0 < 2 ^ 32) × (copy.context < 2 ^ 8)

-- connections fit 32 bits, revisions and counts of copies 64
abbrev pub FitsEntry : WorkerEntry → Type 0
FitsEntry (Voice connection revision packet copies) =
    (connection < 2 ^ 32) × (revision < 2 ^ 64) × IsBytes packet × (length copies < 2 ^ 64) × Each FitsCopy copies
FitsEntry (Closed connection cause) = connection < 2 ^ 32

-- a Version number goes with an Authenticate alone
abbrev pub may_carry : Option ℕ → Option (List ℕ) → Bool
may_carry None frame = true
may_carry (Some version) None = false
may_carry (Some version) (Some frame) = kind_of frame == AUTHENTICATE

-- what no type says of an entry: a command is exactly one frame, and only a login has a Version number
abbrev pub IsWritableControl : ControlEntry → Type 0
IsWritableControl entry = IfSome entry.frame IsOneFrame × IsTrue (may_carry entry.version entry.frame)

-- a packet is not empty
abbrev pub IsWritableEntry : WorkerEntry → Type 0
IsWritableEntry (Voice connection revision packet copies) = 0 < length packet
IsWritableEntry (Closed connection cause) = Unit {0}

-- an entry that has a line
abbrev pub IsControl : ControlEntry → Type 0
IsControl entry = FitsControl entry × IsWritableControl entry

-- an entry of a worker that has a line
abbrev pub IsEntry : WorkerEntry → Type 0
IsEntry entry = FitsEntry entry × IsWritableEntry entry

-- what no type says of a journal: it has 1 to 8 workers and a list for each, limits in their ranges if it has any,
-- and entries that can be written
pub record IsWritableJournal (journal : Journal) : Type 0 where
  pub least : 1 ≤ journal.workers
  pub greatest : journal.workers ≤ WORKERS_LIMIT
  pub lists : length journal.by_worker ≡ journal.workers
  pub limits : IfSome journal.limits AreLimits
  pub controls : Each IsWritableControl journal.controls
  pub entries : Each (Each IsWritableEntry) journal.by_worker

-- a journal that has lines
pub record IsJournal (journal : Journal) : Type 0 where
  pub least : 1 ≤ journal.workers
  pub greatest : journal.workers ≤ WORKERS_LIMIT
  pub lists : length journal.by_worker ≡ journal.workers
  pub limits : IfSome journal.limits AreLimits
  pub config : IsBytes journal.config
  pub controls : Each IsControl journal.controls
  pub entries : Each (Each IsEntry) journal.by_worker

-- a text says a journal: the journal has lines, and the text is these
pub record IsTextOf (text : List ℕ) (journal : Journal) : Type 0 where
  pub recordable : IsJournal journal
  pub written : text ≡ ended_lines (lines_of journal)

-- lines with which the lines of some journal begin
abbrev pub BeginJournal : List (List ℕ) → Type 0
BeginJournal lines =
    (journal : Journal) × (others : List (List ℕ)) × IsJournal journal × (lines_of journal ≡ lines ++ others)
