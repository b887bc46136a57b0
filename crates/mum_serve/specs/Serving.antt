-- How a server comes to its end.
use Rattle.std.specs.Prelude.{◌≡◌, ⊤, ◌⊎◌, ◌||◌, ℕ, Bool, true, List, Option, Some, None, IfSome, is_some}
use Rattle.std.specs.List.{AllByRecursion}
use Rattle.mum_io.specs.{Counts.CountsFault, Link.LinkFacts, Door.DoorFacts}
use Rattle.mum_crew.specs.Crew.{CrewCounts, RunCounts}
use Rattle.mum_crew.specs.declared.crew.CrewEnd.TheVariants.{Ran, Refused}
use Rattle.mum_state.specs.State.{StateValue}
use Rattle.mum_state.specs.declared.edit.Edit.{Edit}
use Rattle.mum_doorway.specs.declared.opening.DoorOpening.{DoorOpening}
use Rattle.mum_published.specs.Facts.{Opening}
use Rattle.mum_viewer.specs.Viewer.{ViewerFacts}
use Rattle.mum_kept.specs.declared.rows.KeptRows.{KeptRows}
use Rattle.mum_control.specs.Commanded.{current}
use Rattle.mum_keeper.specs.{Keeping.KeeperFacts, Mirror.opening_of, Store.StoreFacts}
use Rattle.mum_worker.specs.Facts.{WorkerFacts, is_done}
use Rattle.mum_owner.specs.{Facts.OwnerFacts, Turned.has_ended as owner_has_ended}
use Rattle.mum_serve.specs.Asked.{Lent, Service, ViewService, lent}
use Rattle.mum_serve.specs.{Clocks.clock_at, Clocks.clock_of, Roles.CameTo, Roles.ran_out, OneList.AreWithin}
use Rattle.mum_serve.specs.Running.{HaveTurned}
use Rattle.mum_serve.specs.Loading.{FailsToLoad, IsUnchanged, Loads, LoadsBadRows, state_over}
use Rattle.mum_serve.specs.Stores.{CameToStore, HasStored, KeepsWithin, archive_queue}
use Rattle.mum_serve.specs.Views.{CameToViews, HasViewed, SeesWithin, viewer_failed, viewer_memory}
use Rattle.mum_serve.specs.declared.{asked.Objects.Objects, entries.Entries.Entries, load.LoadFault.LoadFault}
use Rattle.mum_serve.specs.declared.{server.Served.Served, summary.Summary.Summary}
use Rattle.mum_serve.specs.declared.server.Served.TheVariants.{Whole, KeeperFault, BadStore, DoorFault, CrewFault, OutOfMemory}
use Rattle.mum_serve.specs.declared.load.LoadFault.TheVariants as faults

-- what a door has counted so far
abbrev pub opening_at : {D : Type 0} → (D → DoorFacts) → D → DoorOpening
opening_at door_facts door = record { counts = (door_facts door).counts; given = (door_facts door).given; opened_at = (door_facts door).opened_at }

-- how a server ends whose keeper gave no rows
abbrev pub unloaded : LoadFault → Served
unloaded faults.Failed = KeeperFault
unloaded faults.NotGood = BadStore
unloaded faults.OutOfMemory = OutOfMemory

-- where all were served, the crew counted a run, and where it did not start, that; nothing else changes its counts
abbrev pub RunsCounted : Served → CrewCounts → CrewCounts → Type 0
RunsCounted (Whole summary entries) old new = RunCounts Ran old new
RunsCounted KeeperFault old new = new ≡ old
RunsCounted BadStore old new = new ≡ old
RunsCounted DoorFault old new = new ≡ old
RunsCounted CrewFault old new = RunCounts Refused old new
RunsCounted OutOfMemory old new = new ≡ old

module _ {D : Type 0} (door_facts : D → DoorFacts) where
  -- the door was opened at this address
  pub record OpensAt (address : List ℕ) (door opened : D) : Type 0 where
    pub counted : (door_facts opened).counts ≡ (door_facts door).counts
    pub gave : (door_facts opened).given ≡ (door_facts door).given
    pub at : IfSome (door_facts opened).opened_at (λ known. known ≡ address)

  -- the door of the views was opened where views are asked for, and else it is as it was
  abbrev pub OpensView : Option ViewService → D → D → Type 0
  OpensView None door opened = opened ≡ door
  OpensView (Some view) door opened = OpensAt view.address door opened

  -- the doors were opened
  pub record Opens {K P : Type 0} (asked : Service) (doors opened : Objects D K P) : Type 0 where
    pub door : OpensAt asked.address doors.door opened.door
    pub view : OpensView asked.view doors.view opened.view

  -- the door counted a fault and nothing else, and gave no connection
  pub record StaysShut (door left : D) : Type 0 where
    pub counted : CountsFault (door_facts door).counts (door_facts left).counts
    pub gave : (door_facts left).given ≡ (door_facts door).given

  -- the door counted nothing, and gave no connection
  pub record IsUnasked (door left : D) : Type 0 where
    pub counted : (door_facts left).counts ≡ (door_facts door).counts
    pub gave : (door_facts left).given ≡ (door_facts door).given

  -- one of the doors did not open: the first, and then the second is as it was; or the second, where one is asked for, and
  -- then nobody asked the first for a connection
  abbrev pub OneStaysShut : {K P : Type 0} → Service → Objects D K P → Objects D K P → Type 0
  OneStaysShut asked doors left =
      (StaysShut doors.door left.door × (left.view ≡ doors.view))
      ⊎ ((is_some asked.view ≡ true) × IsUnasked doors.door left.door × StaysShut doors.view left.view)

module _ {K : Type 0} (last calls : K → ℕ) where
  -- where all were served, what became of the clock is said of its owner; else nobody asked it
  abbrev pub LeavesClock : Served → K → K → Type 0
  LeavesClock (Whole summary entries) clock left = ⊤
  LeavesClock others clock left = clock_at last calls left ≡ clock_at last calls clock

module _ {D K P L : Type 0} (facts : L → LinkFacts) (door_facts : D → DoorFacts) (last calls : K → ℕ)
    (keeper_facts : P → KeeperFacts) where
  -- an owner and workers were opened from this state over a door that was open, with a journal or without one, a viewer over
  -- a second one where views are asked for, and a store over the keeper where it gave rows; turns led each of them to its end,
  -- this is what they came to, and what the workers, the viewer and the store saw begins what was published. The store was
  -- settled with the state after all that was accepted. The owner asked the clock that was lent, which comes back, and so
  -- does the keeper
  pub record HasRun (state : StateValue) (asked : Service) (workers : ℕ) (rows : Option KeptRows)
      (opened : Objects D K P) (summary : Summary) (entries : Entries) (left : Objects D K P) : Type 0 where
    pub owner : OwnerFacts D L
    pub crew : List (WorkerFacts L)
    pub viewer : Option (ViewerFacts D L)
    pub store : Option (StoreFacts P)
    pub began : Opening
    pub began_at : began.state ≡ state
    pub turned : HaveTurned facts door_facts began opened.door
        (clock_at last calls opened.clock) asked.journal asked.connections workers owner crew
    pub viewed : HasViewed facts door_facts began asked.view opened.view viewer
    pub stored : HasStored keeper_facts began rows opened.keeper (archive_queue turned.first_owner) store
    pub owner_ended : owner_has_ended owner ≡ true
    pub crew_ended : AllByRecursion (λ worker. is_done worker ≡ true) crew
    pub came : CameTo door_facts state (opening_at door_facts opened.door) owner crew summary.totals entries left.door
    pub views_came : CameToViews door_facts (opening_at door_facts opened.view)
        (Some opened.view) viewer summary.viewed left.view
    -- whether memory ran out in the store, or as it was settled
    pub starved : Bool
    pub store_came : CameToStore keeper_facts (opening_of (keeper_facts opened.keeper)) (current owner.control)
        (Some opened.keeper) store summary.keeper_failed starved left.keeper
    pub memory : summary.no_memory ≡ ((ran_out owner crew || viewer_memory viewer) || starved)
    pub failed : summary.door_failed ≡ (owner.doorway.failed || viewer_failed viewer)
    pub one_list : AreWithin owner.control.publisher crew
    pub views_of_it : SeesWithin owner.control.publisher viewer
    pub kept_of_it : KeepsWithin owner.control.publisher store
    pub clock_back : clock_at last calls left.clock ≡ clock_of owner

  -- where all were served, the roles have run, and else the doors and the keeper are as they were
  abbrev pub Runs : StateValue → Service → ℕ → Option KeptRows → Objects D K P → Served → Objects D K P → Type 0
  Runs state asked workers rows opened (Whole summary entries) left =
      HasRun state asked workers rows opened summary entries left
  Runs state asked workers rows opened KeeperFault left = ⊥
  Runs state asked workers rows opened BadStore left = ⊥
  Runs state asked workers rows opened DoorFault left = ⊥
  Runs state asked workers rows opened others left =
      (left.door ≡ opened.door) × (left.view ≡ opened.view) × (left.keeper ≡ opened.keeper)

  -- the doors were opened, and the roles have run over them
  pub record OpensAndRuns (state : StateValue) (asked : Service) (workers : ℕ) (rows : Option KeptRows)
      (objects : Objects D K P) (summary : Summary) (entries : Entries) (left : Objects D K P) : Type 0 where
    pub opened : Objects D K P
    pub opens : Opens door_facts asked objects opened
    pub clock : opened.clock ≡ objects.clock
    pub keeper : opened.keeper ≡ objects.keeper
    pub run : HasRun state asked workers rows opened summary entries left

  -- of a keeper that gave what it had: where all were served, the doors were opened and the roles have run over them; or one
  -- of them did not open; or nobody asked them for a connection
  abbrev pub ServesAt : StateValue → Service → ℕ → Option KeptRows → Objects D K P → Served → Objects D K P → Type 0
  ServesAt state asked workers rows objects (Whole summary entries) left =
      OpensAndRuns state asked workers rows objects summary entries left
  ServesAt state asked workers rows objects KeeperFault left = ⊥
  ServesAt state asked workers rows objects BadStore left = ⊥
  ServesAt state asked workers rows objects DoorFault left =
      OneStaysShut door_facts asked objects left × (left.keeper ≡ objects.keeper)
  ServesAt state asked workers rows objects others left =
      IsUnasked door_facts objects.door left.door × IsUnasked door_facts objects.view left.view
      × (left.keeper ≡ objects.keeper)

  -- the keeper gave its rows, where channels are kept, and a server began with them, or with the configuration that has these
  -- edits
  pub record LoadsAndServes (edits : List Edit) (asked : Service) (workers : ℕ) (objects : Objects D K P)
      (served : Served) (left : Objects D K P) : Type 0 where
    pub loaded : P
    pub rows : Option KeptRows
    pub loads : Loads keeper_facts asked.keep objects.keeper loaded rows
    pub serves : ServesAt (state_over edits rows) asked workers rows (record objects { keeper = loaded }) served left

  -- a server was served so; or the keeper failed, or gave rows that are not good, and no door was opened; or memory ran out
  abbrev pub Serves : List Edit → Service → ℕ → Objects D K P → Served → Objects D K P → Type 0
  Serves edits asked workers objects KeeperFault left =
      (left.door ≡ objects.door) × (left.view ≡ objects.view)
      × FailsToLoad keeper_facts asked.keep objects.keeper left.keeper
  Serves edits asked workers objects BadStore left =
      (left.door ≡ objects.door) × (left.view ≡ objects.view)
      × LoadsBadRows keeper_facts asked.keep objects.keeper left.keeper
  Serves edits asked workers objects OutOfMemory left =
      IsUnasked door_facts objects.door left.door × IsUnasked door_facts objects.view left.view
      × IsUnchanged keeper_facts asked.keep objects.keeper left.keeper
  Serves edits asked workers objects served left = LoadsAndServes edits asked workers objects served left

  -- the doors, the clock and the keeper are there, before and after
  pub record ServesOver (edits : List Edit) (asked : Service) (workers : ℕ) (old : Lent D K P) (served : Served)
      (new : Lent D K P) : Type 0 where
    pub objects : Objects D K P
    pub left : Objects D K P
    pub was : old ≡ lent objects
    pub is : new ≡ lent left
    pub serves : Serves edits asked workers objects served left
    pub clock : LeavesClock last calls served objects.clock left.clock
