-- A run of the program that serves: what it reads, what it writes, and how it ends.
use Rattle.std.specs.Option.{option_map}
use Rattle.std.specs.Prelude.{◌≡◌, ⊤, ◌⊎◌, ℕ, Bool, true, false, List, [], ◌∷◌, ◌++◌, codes, decimal, IfSome, Option, Some, None, Result, Ok, Err}
use Rattle.mum_io.specs.{Counts.Rose, Outside.Appends, Outside.AppendsFront, Outside.Keeps, Link.LinkFacts}
use Rattle.mum_io.specs.Door.{DoorFacts}
use Rattle.mum_crew.specs.Crew.{CrewCounts, RunCounts}
use Rattle.mum_crew.specs.declared.crew.CrewEnd.TheVariants.{Ran}
use Rattle.mum_record.specs.Words.{line_of_words}
use Rattle.mum_record.specs.declared.journal.Journal.{Journal}
use Rattle.mum_document.specs.Fault.{Fault}
use Rattle.mum_config.specs.declared.{config.Config.Config, refusal.BadConfig.BadConfig as DocumentError}
use Rattle.mum_config.specs.Refusal.{told_fault}
use Rattle.mum_opening.specs.Opening.{described, document_edits, document_fault}
use Rattle.mum_keeper.specs.Keeping.{KeeperFacts}
use Rattle.mum_serve.specs.{Asked.Lent, Asked.Service, Journals.journal_of, Journals.journal_text, Journals.where_asked}
use Rattle.mum_serve.specs.Serving.{RunsCounted, ServesOver}
use Rattle.mum_serve.specs.declared.{entries.Entries.Entries, program.Input.Input, program.ServerEnd.ServerEnd}
use Rattle.mum_serve.specs.declared.{server.Served.Served, summary.Summary.Summary, totals.Totals.Totals}
use Rattle.mum_serve.specs.declared.program.ServerEnd.TheVariants.{Finished, BadConfig, BadStore, ReadFault, WriteFault, DoorFault, CrewFault, KeeperFault, OutOfMemory}
use Rattle.mum_serve.specs.declared.server.Served.TheVariants.{Whole, KeeperFault as KeeperFails, BadStore as RowsAreBad, DoorFault as DoorStaysShut, CrewFault as CrewIsRefused, OutOfMemory as NothingStarts}
use Rattle.mum_config.specs.declared.refusal.BadConfig.TheVariants as errors

-- ---- what is read

-- the end names this fault, if there is one; the input may fail before it is known, and memory may run out
abbrev pub NamesFault : ServerEnd → Option Fault → Type 0
NamesFault (BadConfig code key) fault = option_map told_fault fault ≡ Some (code, key)
NamesFault ReadFault fault = ⊤
NamesFault OutOfMemory fault = ⊤
NamesFault others fault = ⊥

-- how a run ends whose document was not read
abbrev pub refusal : DocumentError → ServerEnd
refusal (errors.Fault code key) = BadConfig code key
refusal errors.OutOfMemory = OutOfMemory

-- the run ends before anything is opened or written
abbrev pub IsRefusal : ServerEnd → Type 0
IsRefusal (BadConfig code key) = ⊤
IsRefusal ReadFault = ⊤
IsRefusal OutOfMemory = ⊤
IsRefusal others = ⊥

-- the bytes describe a configuration
abbrev pub DescribesConfig : List ℕ → Config → Type 0
DescribesConfig bytes config = (document_fault bytes ≡ None) × (described bytes ≡ Some config)

-- the bytes describe a configuration, or are no such document
abbrev pub Describes : List ℕ → Result Config ServerEnd → Type 0
Describes bytes (Ok config) = DescribesConfig bytes config
Describes bytes (Err end) = NamesFault end (document_fault bytes)

-- what an input says: its bytes, all of them where they are known, and the configuration that they describe
pub record IsInput (left : Option (List ℕ)) (input : Input) : Type 0 where
  pub whole : IfSome left (λ bytes. input.document ≡ bytes)
  pub describes : DescribesConfig input.document input.config

-- the input says that, or its bytes are no such document
abbrev pub Says : Option (List ℕ) → Result Input ServerEnd → Type 0
Says left (Ok input) = IsInput left input
Says left (Err end) = IfSome left (λ bytes. NamesFault end (document_fault bytes))

-- ---- what is counted

-- a read that failed in the call is reported as such, and no other end hides one
abbrev pub ReadsCounted : ServerEnd → ℕ → ℕ → Type 0
ReadsCounted ReadFault old new = Rose old new
ReadsCounted others old new = new ≡ old

-- the same of writes
abbrev pub WritesCounted : ServerEnd → ℕ → ℕ → Type 0
WritesCounted WriteFault old new = Rose old new
WritesCounted others old new = new ≡ old

-- a run that wrote was one of the crew, and a crew that did not start counted that
abbrev pub RunsInCrew : ServerEnd → CrewCounts → CrewCounts → Type 0
RunsInCrew Finished old new = Rose old.runs new.runs
RunsInCrew WriteFault old new = Rose old.runs new.runs
RunsInCrew CrewFault old new = Rose old.refused new.refused
RunsInCrew others old new = ⊤

-- ---- what is written

-- the line of the totals, with its line feed
unfoldable pub served_line : Totals → List ℕ
served_line totals = line_of_words (codes "served"
    ∷ codes "connections" ∷ decimal totals.connections
    ∷ codes "accepted" ∷ decimal totals.accepted
    ∷ codes "looks" ∷ decimal totals.looks
    ∷ codes "copies" ∷ decimal totals.copies
    ∷ codes "full" ∷ decimal totals.full
    ∷ codes "stale" ∷ decimal totals.stale ∷ []) ++ 10 ∷ []

-- the line of the views, where there was a door for them
abbrev pub viewed_line : Option ℕ → List ℕ
viewed_line None = []
viewed_line (Some views) = line_of_words (codes "viewed" ∷ decimal views ∷ []) ++ 10 ∷ []

-- the last lines of a run
abbrev pub last_lines : Summary → List ℕ
last_lines summary = served_line summary.totals ++ viewed_line summary.viewed

-- how a run ends whose text is written. Memory that ran out on the way counts before a door that failed, and this before a
-- keeper that failed
abbrev pub written : (no_memory door_failed keeper_failed : Bool) → ServerEnd
written true door_failed keeper_failed = OutOfMemory
written false true keeper_failed = DoorFault
written false false true = KeeperFault
written false false false = Finished

-- so it ends where this is what it came to
abbrev pub written_of : Summary → ServerEnd
written_of summary = written summary.no_memory summary.door_failed summary.keeper_failed

-- the text is written whole; or the output failed in it, or memory ran out before it
abbrev pub WritesText : List ℕ → Summary → ServerEnd → Option (List ℕ) → Option (List ℕ) → Type 0
WritesText text summary Finished old new =
    (summary.no_memory ≡ false) × (summary.door_failed ≡ false) × (summary.keeper_failed ≡ false) × Appends old new text
WritesText text summary DoorFault old new =
    (summary.no_memory ≡ false) × (summary.door_failed ≡ true) × Appends old new text
WritesText text summary KeeperFault old new =
    (summary.no_memory ≡ false) × (summary.door_failed ≡ false) × (summary.keeper_failed ≡ true) × Appends old new text
WritesText text summary WriteFault old new = AppendsFront old new text
WritesText text summary OutOfMemory old new = Keeps old new ⊎ ((summary.no_memory ≡ true) × Appends old new text)
WritesText text summary others old new = ⊥

-- what is written of a run that came to its end: the journal, where one was made, and the last lines
abbrev pub text_of : Option Journal → Summary → List ℕ
text_of (Some journal) summary = journal_text journal ++ last_lines summary
text_of None summary = last_lines summary

-- ---- how it ends

module _ {D K P L : Type 0} (facts : L → LinkFacts) (door_facts : D → DoorFacts) (last calls : K → ℕ)
    (keeper_facts : P → KeeperFacts) where
  -- all were served, from the state that the configuration and the kept channels describe, in a run that the crew counted, and
  -- this is what was written of it
  pub record HasServed (asked : Service) (input : Input) (end : ServerEnd) (objects left : Lent D K P)
      (old new : Option (List ℕ)) (crew crew_after : CrewCounts) : Type 0 where
    pub summary : Summary
    pub entries : Entries
    pub serves : ServesOver facts door_facts last calls keeper_facts
        (document_edits input.document) asked input.config.workers objects (Whole summary entries) left
    pub ran : RunCounts Ran crew crew_after
    pub writes : WritesText
        (text_of (where_asked asked.journal
        (journal_of input.config.workers input.document entries)) summary) summary end old new

  -- nobody was served, which is what it came to, and nothing is written
  pub record ServesNobody (asked : Service) (input : Input) (served : Served) (objects left : Lent D K P)
      (old new : Option (List ℕ)) (crew crew_after : CrewCounts) : Type 0 where
    pub serves : ServesOver facts door_facts last calls keeper_facts
        (document_edits input.document) asked input.config.workers objects served left
    pub counted : RunsCounted served crew crew_after
    pub keeps : Keeps old new

  -- all were served; or the keeper failed or gave bad rows, a door did not open, the crew did not start, or memory ran out, and
  -- nothing is written
  abbrev pub EndsWith : Service → Input → ServerEnd → Lent D K P → Lent D K P → Option (List ℕ) → Option (List ℕ)
      → CrewCounts → CrewCounts → Type 0
  EndsWith asked input KeeperFault objects left old new crew crew_after =
      HasServed asked input KeeperFault objects left old new crew crew_after
      ⊎ ServesNobody asked input KeeperFails objects left old new crew crew_after
  EndsWith asked input BadStore objects left old new crew crew_after =
      ServesNobody asked input RowsAreBad objects left old new crew crew_after
  EndsWith asked input DoorFault objects left old new crew crew_after =
      HasServed asked input DoorFault objects left old new crew crew_after
      ⊎ ServesNobody asked input DoorStaysShut objects left old new crew crew_after
  EndsWith asked input CrewFault objects left old new crew crew_after =
      ServesNobody asked input CrewIsRefused objects left old new crew crew_after
  EndsWith asked input OutOfMemory objects left old new crew crew_after =
      HasServed asked input OutOfMemory objects left old new crew crew_after
      ⊎ ServesNobody asked input NothingStarts objects left old new crew crew_after
  EndsWith asked input end objects left old new crew crew_after =
      HasServed asked input end objects left old new crew crew_after

  -- the input describes a configuration, and the run ends with it; or it names a fault, the input failed or memory ran
  -- out, and nothing else happened
  abbrev pub EndsAt : Service → Option (List ℕ) → ServerEnd → Lent D K P → Lent D K P → Option (List ℕ)
      → Option (List ℕ) → CrewCounts → CrewCounts → Type 0
  EndsAt asked bytes end objects left old new crew crew_after =
      ((input : Input) × IsInput bytes input × EndsWith asked input end objects left old new crew crew_after)
      ⊎ (IsRefusal end × IfSome bytes (λ all. NamesFault end (document_fault all)) × (left ≡ objects) × Keeps old new
      × (crew_after ≡ crew))
