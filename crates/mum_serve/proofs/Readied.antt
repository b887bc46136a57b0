-- All roles of a server: what a crew gave back of what it was given, and what came of that.
use Rattle.mum_serve.proofs.Common.{◌≡◌, ◌∙◌, ℕ, ◌+◌, ◌≤◌, List, length, Option, None, is_some, false, true, IsTrue, refl, sym, ap, subst, arith, Vec, All, AllZip, CrewCounts, RunCounts, TurnsLead, CrewEnd, Ran, Refused, NoMemory, LinkFacts, DoorFacts, current, KeeperFacts, opening_of, StoreFacts, KeptRows, OwnerFacts, Opening, ViewerFacts, WorkerFacts, Service, clock_at, clock_of, AreBack, AreReady, ComeTo, ending_of, HasRoom, AreRoles, RoleTurned, has_ended, roles_of, HasRun, LeavesClock, Runs, RunsCounted, opening_at, GivesKeeperBack, archive_queue, Objects, Entries, Unused, Roles, Served, Summary}
use Rattle.mum_serve.proofs.{Ending.others_done, Ending.owner_done, Storing.has_stored, Storing.keeper_back, Storing.keeper_kept, Storing.store_came as keeps_came, Together.few_behind, Together.store_in, Together.store_is, Together.viewer_in, Together.viewer_is, Together.workers_are, Together.workers_in, Turning.as_many_workers, Turning.crew_led, Turning.door_back, Turning.no_store_back, Turning.none_back, Turning.owner_back, Turning.owner_led, Turning.roles_back, Turning.store_back, Turning.store_turned, Turning.viewer_back, Turning.viewer_turned, Viewing.door_kept, Viewing.has_viewed, Viewing.view_back, Viewing.views_came}

-- the crew counts how it ended
pub counted_so : (end : CrewEnd) (summary : Summary) (entries : Entries) (ended : Served) (old new : CrewCounts) → ended ≡ ending_of end summary entries → RunCounts end old new → RunsCounted ended old new
counted_so Ran summary entries ended old new is counts = rw is counts
counted_so Refused summary entries ended old new is counts = rw is counts
counted_so NoMemory summary entries ended old new is counts = rw is counts

-- what is lent comes back as it was
pub lent_back : {D K P : Type 0} (objects : Objects D K P) (door view : D) (clock : K) (keeper : P) → door ≡ objects.door → view ≡ objects.view → clock ≡ objects.clock → keeper ≡ objects.keeper
    → record { door = door; view = view; clock = clock; keeper = keeper } ≡ objects
lent_back {D} {K} {P} objects door view clock keeper same_door same_view same_clock same_keeper =
    ap (λ (d : D). record { door = d; view = view; clock = clock; keeper = keeper }) same_door
    ∙ ap (λ (v : D). record { door = objects.door; view = v; clock = clock; keeper = keeper }) same_view
    ∙ ap (λ (k : K). record { door = objects.door; view = objects.view; clock = k; keeper = keeper }) same_clock
    ∙ ap (λ (p : P). record { door = objects.door; view = objects.view; clock = objects.clock; keeper = p }) same_keeper

module _ {D K P G N R L : Type 0} where
  -- an owner, workers, a viewer and a store are those of the list that they make
  module _ (owner other : OwnerFacts D L) (crew others : List (WorkerFacts L)) (viewer later : Option (ViewerFacts D L)) (store stored : Option (StoreFacts P)) (all : List (Roles D K P G N R L)) where
    one_crew : all ≡ roles_of owner crew viewer store → all ≡ roles_of other others later stored → crew ≡ others
    one_crew are same = sym (workers_are K G N R crew viewer store) ∙ ap (λ (xs : List (Roles D K P G N R L)). workers_in xs) (sym are ∙ same) ∙ workers_are K G N R others later stored

    one_viewer : all ≡ roles_of owner crew viewer store → all ≡ roles_of other others later stored → viewer ≡ later
    one_viewer are same = sym (viewer_is K G N R crew viewer store) ∙ ap (λ (xs : List (Roles D K P G N R L)). viewer_in None xs) (sym are ∙ same) ∙ viewer_is K G N R others later stored

    one_store : all ≡ roles_of owner crew viewer store → all ≡ roles_of other others later stored → store ≡ stored
    one_store are same = sym (store_is K G N R crew viewer store) ∙ ap (λ (xs : List (Roles D K P G N R L)). store_in None xs) (sym are ∙ same) ∙ store_is K G N R others later stored

  pub back_roles : {workers : ℕ} {unused : Unused D P} {all : List (Roles D K P G N R L)} → AreBack workers unused all → AreRoles all
  back_roles back = record { owner = back.owner; crew = back.crew; viewer = back.viewer; store = back.store; are = back.are }

  -- no more roles come back than there are workers, and three
  pub back_room : {X : Type 0} (workers : ℕ) (unused : Unused D P) (all : List (Roles D K P G N R L)) (room : Vec X) → AreBack workers unused all → HasRoom (workers + 2) room → (count : ℕ) × (length all ≤ count + 1) × HasRoom count room
  back_room workers unused all room back has =
      let long = ap (λ (xs : List (Roles D K P G N R L)). length xs) back.are in
      let few = few_behind K G N R back.crew back.viewer back.store in
      let many = back.many in
      (workers + 2, omega (arith, long, few, many), has)

  module _ (workers : ℕ) (unused : Unused D P) (all : List (Roles D K P G N R L)) (owner : OwnerFacts D L) (crew : List (WorkerFacts L)) (viewer : Option (ViewerFacts D L)) (store : Option (StoreFacts P)) where
    -- there is room for what each worker wrote down
    pub has_room : {X : Type 0} (room : Vec X) → AreBack workers unused all → all ≡ roles_of owner crew viewer store → HasRoom workers room → HasRoom (length crew) room
    has_room room back are has =
        let many = sym (ap (λ (ws : List (WorkerFacts L)). length ws) (one_crew back.owner owner back.crew crew back.viewer viewer back.store store all back.are are)) ∙ back.many in
        subst (λ (n : ℕ). HasRoom n room) (sym many) has

    -- without a viewer its door is there
    pub back_unused : AreBack workers unused all → all ≡ roles_of owner crew viewer store → is_some viewer ≡ false → is_some unused.view ≡ true
    back_unused back are none =
        back.kept (ap (λ (v : Option (ViewerFacts D L)). is_some v) (one_viewer back.owner owner back.crew crew back.viewer viewer back.store store all back.are are) ∙ none)

    -- and without a store the keeper is
    pub back_keeper : AreBack workers unused all → all ≡ roles_of owner crew viewer store → is_some store ≡ false → is_some unused.keeper ≡ true
    back_keeper back are none =
        back.keeper_kept (ap (λ (s : Option (StoreFacts P)). is_some s) (one_store back.owner owner back.crew crew back.viewer viewer back.store store all back.are are) ∙ none)

module _ {D K P G N R L : Type 0} (facts : L → LinkFacts) (door_facts : D → DoorFacts) (keeper_facts : P → KeeperFacts) (opening : Opening) where
  abbrev AllLed : List (Roles D K P G N R L) → List (Roles D K P G N R L) → Type 0
  AllLed given back = AllZip (TurnsLead (RoleTurned facts door_facts keeper_facts opening)) given back

  -- what a crew gives back of what it was given
  abbrev pub GivesBack : CrewEnd → List (Roles D K P G N R L) → List (Roles D K P G N R L) → Type 0
  GivesBack Ran given back = AllZip (TurnsLead (RoleTurned facts door_facts keeper_facts opening)) given back × All (λ role. IsTrue (has_ended role)) back
  GivesBack others given back = back ≡ given

  pub gives_back : (end : CrewEnd) (given back : List (Roles D K P G N R L)) → (end ≡ Ran → AllLed given back) → (end ≡ Ran → All (λ role. IsTrue (has_ended role)) back)
      → (end ≡ Refused → back ≡ given) → (end ≡ NoMemory → back ≡ given) → GivesBack end given back
  gives_back Ran given back turned ended refused starved = (turned refl, ended refl)
  gives_back Refused given back turned ended refused starved = refused refl
  gives_back NoMemory given back turned ended refused starved = starved refl

  module _ (last calls : K → ℕ) (asked : Service) (workers : ℕ) (rows : Option KeptRows) (opened : Objects D K P) (unused : Unused D P) where
    -- as many workers come back, and a viewer and a store where there was one
    pub are_back : (end : CrewEnd) (given back : List (Roles D K P G N R L)) → AreReady last calls opening asked workers rows opened unused given
        → (end ≡ Ran → AllLed given back) → (end ≡ Refused → back ≡ given) → (end ≡ NoMemory → back ≡ given) → AreBack workers unused back
    are_back end given back ready turned refused starved =
        let these = roles_back K G N R facts door_facts keeper_facts opening end ready.owner ready.crew ready.viewer ready.store given back ready.are turned refused starved in
        record {
          owner = these.owner;
          crew = these.crew;
          viewer = these.viewer;
          store = these.store;
          are = these.are;
          many =
              as_many_workers K G N R facts door_facts keeper_facts opening ready.owner these.owner ready.crew these.crew ready.viewer these.viewer ready.store these.store given back end ready.are these.are turned refused starved
              ∙ ready.new.begun.crew_begins.many;
          kept =
              door_kept opening asked.view opened.view ready.viewer these.viewer unused.view ready.new.watched
              (none_back K G N R facts door_facts keeper_facts opening ready.owner these.owner ready.crew these.crew ready.viewer these.viewer ready.store these.store given back end ready.are these.are turned refused starved);
          keeper_kept =
              keeper_kept opening rows opened.keeper (archive_queue ready.owner) ready.store these.store unused.keeper ready.new.stored
              (no_store_back K G N R facts door_facts keeper_facts opening ready.owner these.owner ready.crew these.crew ready.viewer these.viewer ready.store these.store given back end ready.are these.are turned refused starved);
        }

    module _ (left : Objects D K P) (summary : Summary) (entries : Entries) where
      abbrev Comes : CrewEnd → List (Roles D K P G N R L) → Type 0
      Comes end back = ComeTo door_facts last calls keeper_facts end opening.state (opening_at door_facts opened.door) (opening_at door_facts opened.view) (opening_of (keeper_facts opened.keeper)) unused back summary entries left

      -- they have run
      has_run : (given back : List (Roles D K P G N R L)) → AreReady last calls opening asked workers rows opened unused given → GivesBack Ran given back → Comes Ran back
          → HasRun facts door_facts last calls keeper_facts opening.state asked workers rows opened summary entries left
      has_run given back ready (turned, ended) come =
          let others = others_done come.owner come.crew come.viewer come.store back come.are ended in
          record {
            owner = come.owner;
            crew = come.crew;
            viewer = come.viewer;
            store = come.store;
            began = opening;
            began_at = refl;
            turned = record {
              first_owner = ready.owner;
              first_crew = ready.crew;
              begun = ready.new.begun;
              owner_turned = owner_led K G N R facts door_facts keeper_facts opening ready.owner come.owner ready.crew come.crew ready.viewer come.viewer ready.store come.store given back ready.are come.are turned;
              crew_turned = crew_led K G N R facts door_facts keeper_facts opening ready.owner come.owner ready.crew come.crew ready.viewer come.viewer ready.store come.store given back ready.are come.are turned;
            };
            viewed =
                has_viewed facts door_facts opening asked.view opened.view ready.viewer come.viewer unused.view ready.new.watched
                (viewer_turned K G N R facts door_facts keeper_facts opening ready.owner come.owner ready.crew come.crew ready.viewer come.viewer ready.store come.store given back ready.are come.are turned)
                others.1.viewer_ended;
            stored =
                has_stored keeper_facts opening rows opened.keeper (archive_queue ready.owner) ready.store come.store unused.keeper ready.new.stored
                (store_turned K G N R facts door_facts keeper_facts opening ready.owner come.owner ready.crew come.crew ready.viewer come.viewer ready.store come.store given back ready.are come.are turned)
                others.1.store_ended;
            owner_ended = owner_done come.owner come.crew come.viewer come.store back come.are ended;
            crew_ended = others.0;
            came = come.came;
            views_came =
                views_came facts door_facts (opening_at door_facts opened.view) (opening_at door_facts opened.view) opening asked.view opened.view ready.viewer come.viewer unused.view summary.viewed left.view refl ready.new.watched
                (viewer_turned K G N R facts door_facts keeper_facts opening ready.owner come.owner ready.crew come.crew ready.viewer come.viewer ready.store come.store given back ready.are come.are turned)
                come.views_came;
            starved = come.starved;
            store_came =
                keeps_came keeper_facts (opening_of (keeper_facts opened.keeper)) (opening_of (keeper_facts opened.keeper)) opening rows opened.keeper (archive_queue ready.owner) ready.store come.store unused.keeper (current come.owner.control)
                summary.keeper_failed come.starved left.keeper refl ready.new.stored
                (store_turned K G N R facts door_facts keeper_facts opening ready.owner come.owner ready.crew come.crew ready.viewer come.viewer ready.store come.store given back ready.are come.are turned)
                come.store_came;
            memory = come.memory;
            failed = come.failed;
            one_list = come.one_list;
            views_of_it = come.views_of_it;
            kept_of_it = come.kept_of_it;
            clock_back = come.clock_back;
          }

      -- or none of them made a turn
      objects_back : (end : CrewEnd) (given back : List (Roles D K P G N R L)) → AreReady last calls opening asked workers rows opened unused given → back ≡ given → (come : Comes end back)
          → GivesKeeperBack unused.keeper come.store left.keeper
          → (left.door ≡ opened.door) × (left.view ≡ opened.view) × (left.keeper ≡ opened.keeper)
      objects_back end given back ready same come gives = (
        door_back K G N R facts door_facts keeper_facts opening ready.owner come.owner ready.crew come.crew ready.viewer come.viewer ready.store come.store given back opened.door (clock_at last calls opened.clock) asked.journal asked.connections workers left.door
            ready.are come.are ready.new.begun same come.came.door_is,
        view_back door_facts (opening_at door_facts opened.view) opening asked.view opened.view ready.viewer come.viewer unused.view summary.viewed left.view ready.new.watched
            (viewer_back K G N R facts door_facts keeper_facts opening ready.owner come.owner ready.crew come.crew ready.viewer come.viewer ready.store come.store given back ready.are come.are same) come.views_came,
        keeper_back opening rows opened.keeper (archive_queue ready.owner) ready.store come.store unused.keeper left.keeper ready.new.stored
            (store_back K G N R facts door_facts keeper_facts opening ready.owner come.owner ready.crew come.crew ready.viewer come.viewer ready.store come.store given back ready.are come.are same) gives,
      )

      clock_kept : (end : CrewEnd) (given back : List (Roles D K P G N R L)) → AreReady last calls opening asked workers rows opened unused given → back ≡ given → Comes end back
          → clock_at last calls left.clock ≡ clock_at last calls opened.clock
      clock_kept end given back ready same come =
          come.clock_back
          ∙ ap (λ (o : OwnerFacts D L). clock_of o) (owner_back K G N R facts door_facts keeper_facts opening ready.owner come.owner ready.crew come.crew ready.viewer come.viewer ready.store come.store given back ready.are come.are same)
          ∙ ready.new.begun.owner_begins.clock_is

      pub runs_so : (end : CrewEnd) (ended : Served) (given back : List (Roles D K P G N R L)) → ended ≡ ending_of end summary entries
          → AreReady last calls opening asked workers rows opened unused given → GivesBack end given back → Comes end back
          → Runs facts door_facts last calls keeper_facts opening.state asked workers rows opened ended left
      runs_so Ran ended given back is ready gives come = rw is (has_run given back ready gives come)
      runs_so Refused ended given back is ready gives come = rw is (objects_back Refused given back ready gives come come.store_came)
      runs_so NoMemory ended given back is ready gives come = rw is (objects_back NoMemory given back ready gives come come.store_came)

      pub leaves_so : (end : CrewEnd) (ended : Served) (given back : List (Roles D K P G N R L)) → ended ≡ ending_of end summary entries
          → AreReady last calls opening asked workers rows opened unused given → GivesBack end given back → Comes end back
          → LeavesClock last calls ended opened.clock left.clock
      leaves_so Ran ended given back is ready gives come = rw is tt
      leaves_so Refused ended given back is ready gives come = rw is (clock_kept Refused given back ready gives come)
      leaves_so NoMemory ended given back is ready gives come = rw is (clock_kept NoMemory given back ready gives come)
