-- The doors, the clock and the keeper of a run that did not come to its end.
use Rattle.mum_serve.proofs.Common.{◌≡◌, ◌∙◌, ℕ, List, Option, None, Some, ap, refl, subst, sym, CrewCounts, LinkFacts, DoorFacts, KeeperFacts, KeptRows, StateValue, Edit, Service, ViewService, clock_at, IsUnchanged, Loads, LoadsNothing, state_over, IsUnasked, LeavesClock, Opens, OpensView, Runs, RunsCounted, Serves, ServesAt, unloaded, Objects, LoadFault, Served}
use Rattle.mum_serve.specs.declared.load.LoadFault.TheVariants as faults
use Rattle.mum_serve.specs.declared.server.Served.TheVariants as ends

module _ {D : Type 0} (door_facts : D → DoorFacts) where
  -- nobody asked a door that was opened alone
  opened_unasked : (door opened left : D) → (door_facts opened).counts ≡ (door_facts door).counts → (door_facts opened).given ≡ (door_facts door).given → left ≡ opened → IsUnasked door_facts door left
  opened_unasked door opened left counted gave same =
      record { counted = ap (λ (d : D). (door_facts d).counts) same ∙ counted; gave = ap (λ (d : D). (door_facts d).given) same ∙ gave }

  view_unasked : (asked : Option ViewService) (door opened left : D) → OpensView door_facts asked door opened → left ≡ opened → IsUnasked door_facts door left
  view_unasked None door opened left opens same =
      record { counted = ap (λ (d : D). (door_facts d).counts) (same ∙ opens); gave = ap (λ (d : D). (door_facts d).given) (same ∙ opens) }
  view_unasked (Some view) door opened left opens same = opened_unasked door opened left opens.counted opens.gave same

module _ {D K P : Type 0} (door_facts : D → DoorFacts) where
  unasked : (asked : Service) (objects opened left : Objects D K P) → Opens door_facts asked objects opened → opened.keeper ≡ objects.keeper
      → (left.door ≡ opened.door) × (left.view ≡ opened.view) × (left.keeper ≡ opened.keeper)
      → IsUnasked door_facts objects.door left.door × IsUnasked door_facts objects.view left.view × (left.keeper ≡ objects.keeper)
  unasked asked objects opened left opens kept same = (
    opened_unasked door_facts objects.door opened.door left.door opens.door.counted opens.door.gave same.0,
    view_unasked door_facts asked.view objects.view opened.view left.view opens.view same.1,
    same.2 ∙ kept,
  )

  -- what became of the clock, which the doors leave alone
  pub clock_so : (last calls : K → ℕ) (served : Served) (objects opened left : Objects D K P) → opened.clock ≡ objects.clock → LeavesClock last calls served opened.clock left.clock → LeavesClock last calls served objects.clock left.clock
  clock_so last calls served objects opened left same leaves = subst (λ (clock : K). LeavesClock last calls served clock left.clock) same leaves

  module _ {L : Type 0} (facts : L → LinkFacts) (last calls : K → ℕ) (keeper_facts : P → KeeperFacts) (asked : Service) (workers : ℕ) where
    -- what was run over doors that were opened is what was served over them
    pub serves_so : (state : StateValue) (rows : Option KeptRows) (objects opened left : Objects D K P) (served : Served) → Opens door_facts asked objects opened
        → opened.clock ≡ objects.clock → opened.keeper ≡ objects.keeper → Runs facts door_facts last calls keeper_facts state asked workers rows opened served left
        → ServesAt facts door_facts last calls keeper_facts state asked workers rows objects served left
    serves_so state rows objects opened left (ends.Whole summary entries) opens same kept runs = record { opened = opened; opens = opens; clock = same; keeper = kept; run = runs }
    serves_so state rows objects opened left ends.KeeperFault opens same kept runs = absurd runs
    serves_so state rows objects opened left ends.BadStore opens same kept runs = absurd runs
    serves_so state rows objects opened left ends.DoorFault opens same kept runs = absurd runs
    serves_so state rows objects opened left ends.CrewFault opens same kept runs = unasked asked objects opened left opens kept runs
    serves_so state rows objects opened left ends.OutOfMemory opens same kept runs = unasked asked objects opened left opens kept runs

    unchanged : (path : Option (List ℕ)) (keeper loaded left : P) (rows : Option KeptRows) → Loads keeper_facts path keeper loaded rows → left ≡ loaded → IsUnchanged keeper_facts path keeper left
    unchanged None keeper loaded left None loads same = same ∙ loads
    unchanged None keeper loaded left (Some rows) loads same = absurd loads
    unchanged (Some path) keeper loaded left None loads same = absurd loads
    unchanged (Some path) keeper loaded left (Some rows) loads same = (
      ap (λ (p : P). (keeper_facts p).faults) same ∙ loads.0.counted,
      ap (λ (p : P). (keeper_facts p).rows) same ∙ loads.0.same,
    )

    -- what was served over a keeper that gave its rows
    pub loads_so : (edits : List Edit) (rows : Option KeptRows) (objects loaded left : Objects D K P) (served : Served) → loaded ≡ record objects { keeper = loaded.keeper }
        → Loads keeper_facts asked.keep objects.keeper loaded.keeper rows
        → ServesAt facts door_facts last calls keeper_facts (state_over edits rows) asked workers rows loaded served left
        → Serves facts door_facts last calls keeper_facts edits asked workers objects served left
    loads_so edits rows objects loaded left (ends.Whole summary entries) same loads serves =
        record { loaded = loaded.keeper; rows = rows; loads = loads; serves = subst (λ (o : Objects D K P). ServesAt facts door_facts last calls keeper_facts (state_over edits rows) asked workers rows o (ends.Whole summary entries) left) same serves }
    loads_so edits rows objects loaded left ends.KeeperFault same loads serves = absurd serves
    loads_so edits rows objects loaded left ends.BadStore same loads serves = absurd serves
    loads_so edits rows objects loaded left ends.DoorFault same loads serves =
        record { loaded = loaded.keeper; rows = rows; loads = loads; serves = subst (λ (o : Objects D K P). ServesAt facts door_facts last calls keeper_facts (state_over edits rows) asked workers rows o ends.DoorFault left) same serves }
    loads_so edits rows objects loaded left ends.CrewFault same loads serves =
        record { loaded = loaded.keeper; rows = rows; loads = loads; serves = subst (λ (o : Objects D K P). ServesAt facts door_facts last calls keeper_facts (state_over edits rows) asked workers rows o ends.CrewFault left) same serves }
    loads_so edits rows objects loaded left ends.OutOfMemory same loads serves =
        let was = subst (λ (o : Objects D K P). ServesAt facts door_facts last calls keeper_facts (state_over edits rows) asked workers rows o ends.OutOfMemory left) same serves in
        (was.0, was.1, unchanged asked.keep objects.keeper loaded.keeper left.keeper rows loads was.2)

    -- a door that nobody touched
    untouched : (door left : D) → left ≡ door → IsUnasked door_facts door left
    untouched door left same = record { counted = ap (λ (d : D). (door_facts d).counts) same; gave = ap (λ (d : D). (door_facts d).given) same }

    -- a keeper that gave no rows
    pub nothing_so : (edits : List Edit) (objects left : Objects D K P) (fault : LoadFault) (served : Served) → served ≡ unloaded fault → left ≡ record objects { keeper = left.keeper }
        → LoadsNothing keeper_facts asked.keep objects.keeper fault left.keeper → Serves facts door_facts last calls keeper_facts edits asked workers objects served left
    nothing_so edits objects left faults.Failed served is same fails =
        subst (λ (s : Served). Serves facts door_facts last calls keeper_facts edits asked workers objects s left) (sym is)
        (ap (λ (o : Objects D K P). o.door) same, ap (λ (o : Objects D K P). o.view) same, fails)
    nothing_so edits objects left faults.NotGood served is same bad =
        subst (λ (s : Served). Serves facts door_facts last calls keeper_facts edits asked workers objects s left) (sym is)
        (ap (λ (o : Objects D K P). o.door) same, ap (λ (o : Objects D K P). o.view) same, bad)
    nothing_so edits objects left faults.OutOfMemory served is same unchanged_is =
        subst (λ (s : Served). Serves facts door_facts last calls keeper_facts edits asked workers objects s left) (sym is)
        (untouched objects.door left.door (ap (λ (o : Objects D K P). o.door) same), untouched objects.view left.view (ap (λ (o : Objects D K P). o.view) same), unchanged_is)

-- where a keeper gave no rows the crew was not called
pub nothing_counted : (fault : LoadFault) (served : Served) (old : CrewCounts) → served ≡ unloaded fault → RunsCounted served old old
nothing_counted faults.Failed served old is = rw is refl
nothing_counted faults.NotGood served old is = rw is refl
nothing_counted faults.OutOfMemory served old is = rw is refl

-- nor the clock
pub nothing_asked : {K : Type 0} (last calls : K → ℕ) (fault : LoadFault) (served : Served) (clock left : K) → served ≡ unloaded fault → left ≡ clock → LeavesClock last calls served clock left
nothing_asked {K} last calls faults.Failed served clock left is same = rw is (ap (λ (k : K). clock_at last calls k) same)
nothing_asked {K} last calls faults.NotGood served clock left is same = rw is (ap (λ (k : K). clock_at last calls k) same)
nothing_asked {K} last calls faults.OutOfMemory served clock left is same = rw is (ap (λ (k : K). clock_at last calls k) same)
