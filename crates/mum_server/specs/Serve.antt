-- What a run that serves answers and says.
use Rattle.std.specs.Prelude.{◌≡◌, ◌⊎◌, ℕ, true, List, [], ◌∷◌, ◌++◌, codes, Option, Some, None}
use Rattle.mum_io.specs.{Counts.Rose, Link.LinkFacts, Door.DoorFacts}
use Rattle.mum_crew.specs.Crew.{CrewCounts}
use Rattle.mum_opening.specs.Opening.{document_edits}
use Rattle.mum_kept.specs.Good.{IsGood}
use Rattle.mum_kept.specs.declared.rows.KeptRows.{KeptRows}
use Rattle.mum_audit.specs.Legal.{IsLegal}
use Rattle.mum_keeper.specs.Keeping.{AreRowsOf, KeeperFacts}
use Rattle.mum_serve.specs.{Asked.Lent, Asked.Service, Journals.journal_of, Loading.state_over}
use Rattle.mum_serve.specs.Program.{EndsAt, HasServed, ReadsCounted, RunsInCrew, WritesCounted}
use Rattle.mum_serve.specs.declared.program.{Input.Input, ServerEnd.ServerEnd}
use Rattle.mum_journal_laws.specs.OneServer.{IsOneServer}
use Rattle.mum_server.specs.{Plain.InputFacts, Plain.SinkFacts, Program.Reports, Program.Tells}
use Rattle.mum_server.specs.declared.end.End.TheVariants.{Finished, Faulty, ReadFault, WriteFault, OutOfMemory}
use Rattle.mum_server.specs.declared.end.LineFault.TheVariants.{BadConfig}
use Rattle.mum_serve.specs.declared.program.ServerEnd.TheVariants as ends

abbrev pub door_fault_line : List ℕ
door_fault_line = codes "murmur: 8 DoorFault" ++ 10 ∷ []

abbrev pub crew_fault_line : List ℕ
crew_fault_line = codes "murmur: 9 CrewFault" ++ 10 ∷ []

abbrev pub keeper_fault_line : List ℕ
keeper_fault_line = codes "murmur: 12 KeeperFault" ++ 10 ∷ []

abbrev pub bad_store_line : List ℕ
bad_store_line = codes "murmur: 13 BadStore" ++ 10 ∷ []

-- the status and the line are those of the end
abbrev pub ServerReports : ServerEnd → ℕ → Option (List ℕ) → Option (List ℕ) → Type 0 → Type 0
ServerReports ends.Finished status old new failed = Reports Finished status old new failed
ServerReports (ends.BadConfig code key) status old new failed =
    Reports (Faulty 1 (BadConfig code key)) status old new failed
ServerReports ends.ReadFault status old new failed = Reports ReadFault status old new failed
ServerReports ends.WriteFault status old new failed = Reports WriteFault status old new failed
ServerReports ends.DoorFault status old new failed = (status ≡ 8) × Tells door_fault_line old new failed
ServerReports ends.CrewFault status old new failed = (status ≡ 9) × Tells crew_fault_line old new failed
ServerReports ends.KeeperFault status old new failed = (status ≡ 12) × Tells keeper_fault_line old new failed
ServerReports ends.BadStore status old new failed = (status ≡ 13) × Tells bad_store_line old new failed
ServerReports ends.OutOfMemory status old new failed = Reports OutOfMemory status old new failed

-- the faults of a door rose
abbrev pub DoorFailed : {D : Type 0} → (D → DoorFacts) → Option D → Option D → Type 0
DoorFailed door_facts (Some door) (Some left) = Rose (door_facts door).counts.faults (door_facts left).counts.faults
DoorFailed door_facts door left = ⊥

-- those of one of the doors did
abbrev pub OneFailed : {D K P : Type 0} → (D → DoorFacts) → Lent D K P → Lent D K P → Type 0
OneFailed door_facts objects left =
    DoorFailed door_facts objects.door left.door ⊎ DoorFailed door_facts objects.view left.view

-- the faults of a keeper rose
abbrev pub KeeperFailed : {P : Type 0} → (P → KeeperFacts) → Option P → Option P → Type 0
KeeperFailed keeper_facts (Some keeper) (Some left) = Rose (keeper_facts keeper).faults (keeper_facts left).faults
KeeperFailed keeper_facts keeper left = ⊥

-- a keeper gave rows that are not good: its own, where they are known
abbrev pub GaveBadRows : {P : Type 0} → (P → KeeperFacts) → Option P → Type 0
GaveBadRows keeper_facts None = ⊥
GaveBadRows keeper_facts (Some left) = (rows : KeptRows) × AreRowsOf (keeper_facts left).rows rows × (IsGood rows → ⊥)

module _ {D K P L : Type 0} (facts : L → LinkFacts) (door_facts : D → DoorFacts) (last calls : K → ℕ)
    (keeper_facts : P → KeeperFacts) where
  -- the run of whoever was served in a run that ended so is that of one server
  abbrev pub ServesAsOne : Service → ServerEnd → Lent D K P → Lent D K P → Option (List ℕ) → Option (List ℕ)
      → CrewCounts → CrewCounts → Type 0
  ServesAsOne asked end objects left old new crew crew_after =
      (input : Input) (served : HasServed facts door_facts last calls keeper_facts asked input end objects left old new crew crew_after)
      → IsOneServer facts door_facts last calls keeper_facts
      (state_over (document_edits input.document) served.serves.serves.rows) asked
      input.config.workers served.serves.serves.rows served.serves.serves.serves.opened served.summary served.entries served.serves.left
      served.serves.serves.serves.run

  -- the journal that was asked for, of whoever was served in a run that ended so, is legal
  abbrev pub LeavesLegalJournal : Service → ServerEnd → Lent D K P → Lent D K P → Option (List ℕ) → Option (List ℕ)
      → CrewCounts → CrewCounts → Type 0
  LeavesLegalJournal asked end objects left old new crew crew_after =
      asked.journal ≡ true
      → (input : Input)
      (served : HasServed facts door_facts last calls keeper_facts asked input end objects left old new crew crew_after)
      → IsLegal (journal_of input.config.workers input.document served.entries)

  -- a server was run that was asked to do this: how it ended, and what was answered and said of that
  pub record RunsServer (asked : Service) (input input_after : InputFacts)
      (output output_after errors errors_after : SinkFacts) (objects left : Lent D K P) (crew crew_after : CrewCounts)
      (status : ℕ) : Type 0 where
    pub end : ServerEnd
    pub ends : EndsAt facts door_facts last calls keeper_facts asked input.left end objects left output.written output_after.written crew crew_after
    pub one : ServesAsOne asked end objects left output.written output_after.written crew crew_after
    pub legal : LeavesLegalJournal asked end objects left output.written output_after.written crew crew_after
    pub runs : RunsInCrew end crew crew_after
    pub reads : ReadsCounted end input.faults input_after.faults
    pub writes : WritesCounted end output.faults output_after.faults
    pub reports : ServerReports end status errors.written errors_after.written (Rose errors.faults errors_after.faults)
