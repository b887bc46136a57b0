-- The journal of a server is that of its run.
use Rattle.mum_journal_laws.proofs.Common.{◌≡◌, ℕ, true, List, Option, Some, None, ap, refl, subst, IsLegal, CrewCounts, DoorFacts, LinkFacts, KeeperFacts, KeptRows, document_edits, greatest_limits, opening, Lent, Service, journal_of, Loads, state_over, HasServed, HasRun, Objects, Entries, Input, ServerEnd, Summary, StateValue, KeepsJournal}

-- a server without rows begins as its configuration says
begins : (document : List ℕ) (rows : Option KeptRows) → rows ≡ None → state_over (document_edits document) rows ≡ opening greatest_limits document
begins document rows none = ap (state_over (document_edits document)) none

module _ {D K P L : Type 0} (facts : L → LinkFacts) (door_facts : D → DoorFacts) (last calls : K → ℕ) (keeper_facts : P → KeeperFacts) where
  -- a server that keeps no channels loads no rows
  no_rows : (keep : Option (List ℕ)) (keeper loaded : P) (rows : Option KeptRows) → keep ≡ None → Loads keeper_facts keep keeper loaded rows → rows ≡ None
  no_rows keep keeper loaded None none loads = refl
  no_rows keep keeper loaded (Some rows) none loads = absurd (subst (λ keep. Loads keeper_facts keep keeper loaded (Some rows)) none loads)

  -- the journals of all runs are legal
  abbrev RunsAreLegal : Type 0
  RunsAreLegal =
      (state : StateValue) (asked : Service) (workers : ℕ) (rows : Option KeptRows) (opened : Objects D K P) (summary : Summary) (entries : Entries) (left : Objects D K P)
      (run : HasRun facts door_facts last calls keeper_facts state asked workers rows opened summary entries left) (document : List ℕ)
      → KeepsJournal asked state document → IsLegal (journal_of workers document entries)

  -- so is that of a run of the program
  pub served_legal : RunsAreLegal → (asked : Service) (input : Input) (end : ServerEnd) (objects left : Lent D K P) (old new : Option (List ℕ)) (crew crew_after : CrewCounts)
      (served : HasServed facts door_facts last calls keeper_facts asked input end objects left old new crew crew_after) → asked.journal ≡ true → asked.keep ≡ None
      → IsLegal (journal_of input.config.workers input.document served.entries)
  served_legal law asked input end objects left old new crew crew_after served asked_for unkept =
      let loads = served.serves.serves in
      let state : StateValue = state_over (document_edits input.document) loads.rows in
      let keeps : KeepsJournal asked state input.document = record {
        asked_for = asked_for;
        began = begins input.document loads.rows (no_rows asked.keep served.serves.objects.keeper loads.loaded loads.rows unkept loads.loads);
      } in
      law state asked input.config.workers loads.rows loads.serves.opened served.summary served.entries served.serves.left loads.serves.run input.document keeps
