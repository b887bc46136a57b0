-- What the program makes of a journal: the line of its counts, or the first fault.
use Rattle.std.specs.Prelude.{◌≡◌, ℕ, ◌-◌, List, [], ◌∷◌, ◌++◌, Option, Some, None, Result, Ok, Err, ⊤, codes, decimal}
use Rattle.std.specs.Option.{option_map}
use Rattle.mum_record.specs.{Head.first_step_line, Head.version_with, Words.line_of_words}
use Rattle.mum_record.specs.declared.journal.Journal.{Journal}
use Rattle.mum_document.specs.Fault.{Fault, fault_code}
use Rattle.mum_config.specs.Refusal.{told_fault}
use Rattle.mum_opening.specs.Opening.{document_fault}
use Rattle.mum_audit.specs.Audit.{audited}
use Rattle.mum_audit.specs.declared.audited.Audited.{Audited, TheVariants.Legal, TheVariants.Wrong}
use Rattle.mum_server.specs.declared.end.End.{End, TheVariants.Finished, TheVariants.Faulty, TheVariants.OutOfMemory}
use Rattle.mum_server.specs.declared.end.LineFault.{LineFault, TheVariants.BadConfig, TheVariants.AuditWrong}
use Rattle.mum_server.specs.{JournalText.journal_read, Replay.Outcome, Replay.stops_at}

-- ---- a journal that was read

-- the line of the counts of a legal journal
abbrev pub counts_words : ℕ → ℕ → ℕ → ℕ → List (List ℕ)
counts_words controls voices copies full =
    codes "legal" ∷ codes "controls" ∷ decimal controls ∷ codes "voices" ∷ decimal voices ∷ codes "copies" ∷ decimal copies ∷ codes "full" ∷ decimal full ∷ []

-- what an audit found
abbrev pub found : Audited → Outcome
found (Legal controls voices copies full) =
    record { text = line_of_words (counts_words controls voices copies full) ++ 10 ∷ []; ending = Finished }
found (Wrong line given defined) = stops_at line (AuditWrong given defined)

-- the line of the configuration is the last of the head
abbrev pub config_line : Option (ℕ × ℕ) → ℕ
config_line limits = first_step_line (version_with limits) - 1

-- the configuration is tested before the entries
abbrev pub judged_with : Option Fault → Journal → Outcome
judged_with (Some fault) journal = stops_at (config_line journal.limits) (BadConfig (fault_code fault.cause) fault.key)
judged_with None journal = found (audited journal)

abbrev pub judged : Journal → Outcome
judged journal = judged_with (document_fault journal.config) journal

-- ---- the input

abbrev pub answered : Result Journal (ℕ × LineFault) → Outcome
answered (Ok journal) = judged journal
answered (Err (n, fault)) = stops_at n fault

-- what the program makes of these bytes
unfoldable pub audit_of : List ℕ → Outcome
audit_of bytes = answered (journal_read bytes)

-- ---- what the code answers

-- the fault at which an outcome stops, or memory ran out
abbrev pub IsFaultOf : Outcome → End → Type 0
IsFaultOf outcome (Faulty n fault) = outcome ≡ stops_at n fault
IsFaultOf outcome OutOfMemory = Unit {0}
IsFaultOf outcome others = ⊥

-- the line of an outcome that ends well, or its fault
abbrev pub Judges : {A : Type 0} → (A → List ℕ) → Outcome → Result A End → Type 0
Judges bytes outcome (Ok line) = outcome ≡ record { text = bytes line; ending = Finished }
Judges bytes outcome (Err end) = IsFaultOf outcome end

-- the document of a journal has no fault, or this is its first
abbrev pub FindsFault : Journal → Result ⊤ End → Type 0
FindsFault journal (Ok done) = document_fault journal.config ≡ None
FindsFault journal (Err (Faulty n (BadConfig code key))) =
    (option_map told_fault (document_fault journal.config) ≡ Some (code, key)) × (n ≡ config_line journal.limits)
FindsFault journal (Err OutOfMemory) = Unit {0}
FindsFault journal (Err others) = ⊥
