-- The journal that a text says, computed line by line.
use Rattle.std.specs.Prelude.{ℕ, ◌+◌, ◌==◌, Bool, true, false, List, [], ◌∷◌, ◌++◌, length, nat_lt, Option, Some, None, Result, Ok, Err, option_and_then, option_map, codes, if◌then◌else◌}
use Rattle.std.specs.{List.slice_split, Str.bytes_eq}
use Rattle.mum_base.specs.declared.{number.Cause.Cause, reply.Mark.Mark}
use Rattle.mum_base.specs.declared.reply.Mark.TheVariants.{Accepted, Lacks, Refused, Rejected, Answer, Ignored}
use Rattle.mum_record.specs.Words.{words_in, place_of, revision_of, byte_of, bytes_of}
use Rattle.mum_record.specs.{Reading.frame_of, Reading.cause_of, Lines.is_line_feed}
use Rattle.mum_record.specs.Journal.{may_carry, worker_line, end_line}
use Rattle.mum_record.specs.Head.{journal_version, workers_of, limits_of, config_of}
use Rattle.mum_record.specs.declared.head.Version.{Version, TheVariants.One, TheVariants.Two}
use Rattle.mum_record.specs.declared.journal.{ControlEntry.ControlEntry, Marked.Marked, WorkerEntry.WorkerEntry}
use Rattle.mum_record.specs.declared.journal.WorkerEntry.TheVariants.{Voice, Closed}
use Rattle.mum_record.specs.declared.{journal.Journal.Journal, draft.Draft.Draft, draft.Stage.Stage}
use Rattle.mum_record.specs.declared.draft.Stage.TheVariants.{Head, Workers, Limits, Config, Controls, Entries, Over}
use Rattle.mum_base.specs.declared.number.Cause.TheVariants as causes

-- ---- a control entry

-- a Version number, or none
unfoldable pub version_of : List ℕ → Option (Option ℕ)
version_of word = if bytes_eq word (codes "-") then Some None else option_map Some (place_of word)

-- the frame of a command, or none for a leave
unfoldable pub command_of : List ℕ → Option (Option (List ℕ))
command_of word = if bytes_eq word (codes "leave") then Some None else option_map Some (frame_of word)

-- a verdict of a word and a number
unfoldable pub verdict_with : List ℕ → List ℕ → Option Mark
verdict_with name word =
    if bytes_eq name (codes "accepted") then option_map Accepted (revision_of word)
    else if bytes_eq name (codes "refused") then option_map Refused (byte_of word)
    else if bytes_eq name (codes "rejected") then option_map Rejected (byte_of word)
    else if bytes_eq name (codes "ignored") then option_map Ignored (byte_of word)
    else None

-- the permission that was missing, and where
unfoldable pub lack_of : List ℕ → List ℕ → Option Mark
lack_of perm channel =
    option_and_then (λ (p : ℕ). option_map (λ (c : ℕ). Lacks (record { 0 = p }) (record { 0 = c })) (place_of channel))
    (place_of perm)

-- the verdict that the last words of a line say
unfoldable pub verdict_of : List (List ℕ) → Option Mark
verdict_of [] = None
verdict_of (name ∷ []) = if bytes_eq name (codes "answer") then Some Answer else None
verdict_of (name ∷ word ∷ []) = verdict_with name word
verdict_of (name ∷ perm ∷ channel ∷ []) = if bytes_eq name (codes "lacks") then lack_of perm channel else None
verdict_of (name ∷ perm ∷ channel ∷ more ∷ others) = None

-- an entry whose command may carry its Version number
abbrev pub carried : ControlEntry → Option ControlEntry
carried entry = if may_carry entry.version entry.frame then Some entry else None

-- the control entry of a connection, a Version number, a command and the words of a verdict
unfoldable pub control_with : List ℕ → List ℕ → List ℕ → List (List ℕ) → Option ControlEntry
control_with connection version command verdict =
    option_and_then
    (λ (c : ℕ). option_and_then
    (λ (v : Option ℕ). option_and_then (λ (f : Option (List ℕ)). option_and_then (λ (m : Mark).
    carried (record { connection = c; version = v; frame = f; verdict = m }))
    (verdict_of verdict)) (command_of command)) (version_of version)) (place_of connection)

-- the control entry that the words of a line say
unfoldable pub control_of : List (List ℕ) → Option ControlEntry
control_of [] = None
control_of (mark ∷ []) = None
control_of (mark ∷ connection ∷ []) = None
control_of (mark ∷ connection ∷ version ∷ []) = None
control_of (mark ∷ connection ∷ version ∷ command ∷ verdict) =
    if bytes_eq mark (codes "c") then control_with connection version command verdict else None

-- ---- an entry of a worker

-- the byte between the parts of a copy
abbrev pub is_slash : ℕ → Bool
is_slash byte = byte == 47

-- whether a copy was sent
unfoldable pub mark_of : List ℕ → Option Bool
mark_of word =
    if bytes_eq word (codes "s") then Some true
    else if bytes_eq word (codes "f") then Some false
    else None

-- the copy that three parts of a word say
unfoldable pub copy_with : List ℕ → List ℕ → List ℕ → Option Marked
copy_with session context mark =
    option_and_then (λ (s : ℕ). option_and_then (λ (c : ℕ). option_map (λ (m : Bool).
    record { session = record { 0 = s }; context = c; sent = m })
    (mark_of mark)) (byte_of context)) (place_of session)

-- the copy that the parts of a word say, which are three
abbrev pub copy_in : List (List ℕ) → Option Marked
copy_in [] = None
copy_in (session ∷ []) = None
copy_in (session ∷ context ∷ []) = None
copy_in (session ∷ context ∷ mark ∷ []) = copy_with session context mark
copy_in (session ∷ context ∷ mark ∷ more ∷ others) = None

-- the copy that a word says
unfoldable pub copy_of : List ℕ → Option Marked
copy_of word = copy_in (slice_split is_slash word)

-- the copies that words say, each one
unfoldable pub copies_of : List (List ℕ) → Option (List Marked)
copies_of [] = Some []
copies_of (word ∷ words) =
    option_and_then (λ (copy : Marked). option_map (λ (copies : List Marked). copy ∷ copies) (copies_of words))
    (copy_of word)

-- journals alone say the last cause
unfoldable pub closing_cause_of : List ℕ → Option Cause
closing_cause_of word = if bytes_eq word (codes "memory") then Some causes.Memory else cause_of word

-- the end of a connection, of the connection and the cause
unfoldable pub closed_of : List (List ℕ) → Option WorkerEntry
closed_of [] = None
closed_of (connection ∷ []) = None
closed_of (connection ∷ cause ∷ []) =
    option_and_then (λ (c : ℕ). option_map (Closed c) (closing_cause_of cause)) (place_of connection)
closed_of (connection ∷ cause ∷ more ∷ others) = None

-- a voice entry, where it has as many copies as it counts
abbrev pub counted : ℕ → ℕ → ℕ → List ℕ → List Marked → Option WorkerEntry
counted n connection revision packet copies =
    if n == length copies then Some (Voice connection revision packet copies) else None

-- the voice entry of a connection, a revision, a packet, a count and copies
unfoldable pub voice_with : List ℕ → List ℕ → List ℕ → List ℕ → List (List ℕ) → Option WorkerEntry
voice_with connection revision packet count copies =
    option_and_then
    (λ (c : ℕ). option_and_then
    (λ (r : ℕ). option_and_then (λ (p : List ℕ). option_and_then (λ (n : ℕ). option_and_then (λ (all : List Marked).
    counted n c r p all)
    (copies_of copies)) (revision_of count)) (bytes_of packet)) (revision_of revision)) (place_of connection)

-- the voice entry that the words after its mark say
unfoldable pub voice_of : List (List ℕ) → Option WorkerEntry
voice_of [] = None
voice_of (connection ∷ []) = None
voice_of (connection ∷ revision ∷ []) = None
voice_of (connection ∷ revision ∷ packet ∷ []) = None
voice_of (connection ∷ revision ∷ packet ∷ count ∷ copies) = voice_with connection revision packet count copies

-- the entry of a worker that the words of a line say
unfoldable pub entry_of : List (List ℕ) → Option WorkerEntry
entry_of [] = None
entry_of (mark ∷ words) =
    if bytes_eq mark (codes "v") then voice_of words
    else if bytes_eq mark (codes "x") then closed_of words
    else None

-- ---- the lines in order

-- the worker that the words of a line name
abbrev pub worker_in : List (List ℕ) → Option ℕ
worker_in (name ∷ word ∷ []) = if bytes_eq name (codes "worker") then revision_of word else None
worker_in others = None

-- whether the entries of worker n follow a line
abbrev pub is_worker_line : ℕ → List ℕ → Bool
is_worker_line n line = bytes_eq line (worker_line n)

-- the line that ends the entries of a worker: the next worker begins, or the journal ends
abbrev pub ends_entries : Draft → List ℕ → Bool
ends_entries draft line =
    if nat_lt (length draft.by_worker + 1) draft.workers then is_worker_line
    (length draft.by_worker + 1) line else bytes_eq line end_line

-- after the entries of a worker, those of the next follow or the journal is over
abbrev pub stage_after : Draft → Stage
stage_after draft = if nat_lt (length draft.by_worker + 1) draft.workers then Entries else Over

-- the draft once the entries of a worker are all there
abbrev pub with_entries : Draft → Draft
with_entries draft =
    record draft { stage = stage_after draft; by_worker = draft.by_worker ++ draft.entries ∷ []; entries = [] }

-- the draft with one control entry more
abbrev pub with_control : Draft → ControlEntry → Draft
with_control draft entry = record draft { controls = draft.controls ++ entry ∷ [] }

-- the draft with one entry of its worker more
abbrev pub with_entry : Draft → WorkerEntry → Draft
with_entry draft entry = record draft { entries = draft.entries ++ entry ∷ [] }

-- after the workers, version 2 has the line of the limits
abbrev pub after_workers : Version → Stage
after_workers One = Config
after_workers Two = Limits

-- the draft with one line more at a stage, if that line may come there
abbrev pub taken_at : Stage → Draft → List ℕ → Option Draft
taken_at Head draft line = option_map (λ (v : Version). record draft { stage = Workers v }) (journal_version line)
taken_at (Workers v) draft line =
    option_map (λ (w : ℕ). record draft { stage = after_workers v; workers = w }) (workers_of line)
taken_at Limits draft line =
    option_map (λ (limits : ℕ × ℕ). record draft { stage = Config; limits = Some limits }) (limits_of line)
taken_at Config draft line =
    option_map (λ (document : List ℕ). record draft { stage = Controls; config = document }) (config_of line)
taken_at Controls draft line =
    if is_worker_line 0 line then Some (record draft { stage = Entries })
    else option_map (with_control draft) (control_of (words_in line))
taken_at Entries draft line =
    if ends_entries draft line then Some (with_entries draft)
    else option_map (with_entry draft) (entry_of (words_in line))
taken_at Over draft line = None

-- the draft with one line more, if that line may come next
unfoldable pub taken : Draft → List ℕ → Option Draft
taken draft line = taken_at draft.stage draft line

-- before the first line
abbrev pub no_draft : Draft
no_draft = record { stage = Head; workers = 0; limits = None; config = []; controls = []; by_worker = []; entries = [] }

-- the journal that a draft holds
abbrev pub journal_in : Draft → Journal
journal_in draft = record {
  workers = draft.workers;
  limits = draft.limits;
  config = draft.config;
  controls = draft.controls;
  by_worker = draft.by_worker;
}

-- whether the journal has ended
abbrev pub is_over : Stage → Bool
is_over Over = true
is_over stage = false

-- after the last line feed: the journal has ended, and nothing follows
abbrev pub ending : Draft → ℕ → List ℕ → Result Journal ℕ
ending draft n [] = if is_over draft.stage then Ok (journal_in draft) else Err n
ending draft n (byte ∷ rest) = Err n

-- a line that may not come at line n ends the reading; else it goes on with the draft
abbrev pub goes_on : ℕ → Option Draft → (Draft → Result Journal ℕ) → Result Journal ℕ
goes_on n None rest = Err n
goes_on n (Some draft) rest = rest draft

-- the reading from line n on: a journal, or the number of the first line that may not come there. The
-- last piece is what no line feed ends
unfoldable pub reading_from : Draft → ℕ → List (List ℕ) → Result Journal ℕ
reading_from draft n [] = Err n
reading_from draft n (rest ∷ []) = ending draft n rest
reading_from draft n (line ∷ next ∷ more) =
    goes_on n (taken draft line) (λ (after : Draft). reading_from after (n + 1) (next ∷ more))

-- a text cut at its line feeds: its lines, and last what no line feed ends
abbrev pub pieces_of : List ℕ → List (List ℕ)
pieces_of text = slice_split is_line_feed text

-- the journal that a text says, or the number of the first line that is none of it
unfoldable pub journal_of : List ℕ → Result Journal ℕ
journal_of text = reading_from no_draft 1 (pieces_of text)
