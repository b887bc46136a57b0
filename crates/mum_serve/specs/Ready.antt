-- All roles of a server as one list: what a crew is given, what it gives back, and what they came to.
use Rattle.std.specs.Prelude.{◌≡◌, ◌||◌, ℕ, Bool, true, false, is_some, List, Option, length}
use Rattle.mum_io.specs.Door.{DoorFacts}
use Rattle.mum_crew.specs.declared.crew.CrewEnd.{CrewEnd, TheVariants.Ran, TheVariants.Refused, TheVariants.NoMemory}
use Rattle.mum_state.specs.State.{StateValue}
use Rattle.mum_doorway.specs.declared.opening.DoorOpening.{DoorOpening}
use Rattle.mum_published.specs.Facts.{Opening}
use Rattle.mum_viewer.specs.Viewer.{ViewerFacts}
use Rattle.mum_kept.specs.declared.rows.KeptRows.{KeptRows}
use Rattle.mum_control.specs.Commanded.{current}
use Rattle.mum_keeper.specs.{Keeping.KeeperFacts, Store.StoreFacts}
use Rattle.mum_keeper.specs.declared.naming.KeeperOpening.{KeeperOpening}
use Rattle.mum_worker.specs.Facts.{WorkerFacts}
use Rattle.mum_owner.specs.Facts.{OwnerFacts}
use Rattle.mum_serve.specs.{Asked.Service, Clocks.clock_at, Clocks.clock_of, OneList.AreWithin}
use Rattle.mum_serve.specs.{Roles.CameTo, Roles.ran_out, Roles.roles_of, Running.HaveBegun}
use Rattle.mum_serve.specs.Stores.{EndsStore, IsStoreOver, KeepsWithin, archive_queue}
use Rattle.mum_serve.specs.Views.{CameToViews, IsViewDoor, SeesWithin, viewer_failed, viewer_memory}
use Rattle.mum_serve.specs.declared.{asked.Objects.Objects, entries.Entries.Entries, later.Unused.Unused}
use Rattle.mum_serve.specs.declared.{roles.Roles.Roles, server.Served.Served, summary.Summary.Summary}
use Rattle.mum_serve.specs.declared.server.Served.TheVariants as served_as

module _ {D K P L : Type 0} (last calls : K → ℕ) where
  -- an owner and workers are new, over this door and by this clock; so is a viewer over the other door, where views are asked
  -- for; and so is a store over the keeper, where it gave rows
  pub record AreNew (opening : Opening) (asked : Service) (workers : ℕ) (rows : Option KeptRows)
      (objects : Objects D K P) (owner : OwnerFacts D L) (crew : List (WorkerFacts L))
      (viewer : Option (ViewerFacts D L)) (store : Option (StoreFacts P)) (unused : Unused D P) : Type 0 where
    pub begun : HaveBegun opening objects.door
        (clock_at last calls objects.clock) asked.journal asked.connections workers owner crew
    pub watched : IsViewDoor opening asked.view objects.view viewer unused.view
    pub stored : IsStoreOver opening rows objects.keeper (archive_queue owner) store unused.keeper

module _ {D K P G N R L : Type 0} (last calls : K → ℕ) where
  -- this is all that a crew is given
  pub record AreReady (opening : Opening) (asked : Service) (workers : ℕ) (rows : Option KeptRows)
      (objects : Objects D K P) (unused : Unused D P) (all : List (Roles D K P G N R L)) : Type 0 where
    pub owner : OwnerFacts D L
    pub crew : List (WorkerFacts L)
    pub viewer : Option (ViewerFacts D L)
    pub store : Option (StoreFacts P)
    pub are : all ≡ roles_of owner crew viewer store
    pub new : AreNew last calls opening asked workers rows objects owner crew viewer store unused

module _ {D K P G N R L : Type 0} where
  -- an owner, n workers, a viewer and a store came back; without a viewer its door was not used, and without a store the
  -- keeper was not
  pub record AreBack (workers : ℕ) (unused : Unused D P) (all : List (Roles D K P G N R L)) : Type 0 where
    pub owner : OwnerFacts D L
    pub crew : List (WorkerFacts L)
    pub viewer : Option (ViewerFacts D L)
    pub store : Option (StoreFacts P)
    pub are : all ≡ roles_of owner crew viewer store
    pub many : length crew ≡ workers
    pub kept : is_some viewer ≡ false → is_some unused.view ≡ true
    pub keeper_kept : is_some store ≡ false → is_some unused.keeper ≡ true

module _ {D K P G N R L : Type 0} (door_facts : D → DoorFacts) (last calls : K → ℕ)
    (keeper_facts : P → KeeperFacts) where
  -- what came of all these roles, by how the crew ended
  pub record ComeTo (end : CrewEnd) (state : StateValue) (door view : DoorOpening) (keeper : KeeperOpening)
      (unused : Unused D P) (all : List (Roles D K P G N R L)) (summary : Summary) (entries : Entries)
      (left : Objects D K P) : Type 0 where
    pub owner : OwnerFacts D L
    pub crew : List (WorkerFacts L)
    pub viewer : Option (ViewerFacts D L)
    pub store : Option (StoreFacts P)
    pub are : all ≡ roles_of owner crew viewer store
    pub came : CameTo door_facts state door owner crew summary.totals entries left.door
    pub views_came : CameToViews door_facts view unused.view viewer summary.viewed left.view
    pub starved : Bool
    pub store_came : EndsStore keeper_facts end keeper
        (current owner.control) unused.keeper store summary.keeper_failed starved left.keeper
    pub memory : summary.no_memory ≡ ((ran_out owner crew || viewer_memory viewer) || starved)
    pub failed : summary.door_failed ≡ (owner.doorway.failed || viewer_failed viewer)
    pub one_list : AreWithin owner.control.publisher crew
    pub views_of_it : SeesWithin owner.control.publisher viewer
    pub kept_of_it : KeepsWithin owner.control.publisher store
    pub clock_back : clock_at last calls left.clock ≡ clock_of owner

-- how a server ends whose roles a crew was given
abbrev pub ending_of : CrewEnd → Summary → Entries → Served
ending_of Ran summary entries = served_as.Whole summary entries
ending_of Refused summary entries = served_as.CrewFault
ending_of NoMemory summary entries = served_as.OutOfMemory
