-- The roles of a server: with what they were opened, and what they came to.
use Rattle.std.specs.Prelude.{◌≡◌, ◌||◌, Bool, true, false, List, [], ◌∷◌, ◌++◌, length, map, Option, Some, None}
use Rattle.mum_io.specs.{Counts.NoneFalls, Counts.Rose, Link.LinkFacts, Door.DoorFacts}
use Rattle.mum_crew.specs.declared.role.Turn.{Turn}
use Rattle.mum_state.specs.State.{StateValue}
use Rattle.mum_doorway.specs.Doors.{NoMoreCome, given_after_all}
use Rattle.mum_doorway.specs.declared.opening.DoorOpening.{DoorOpening}
use Rattle.mum_published.specs.{Calls.appended, Facts.Opening}
use Rattle.mum_viewer.specs.Viewer.{ViewerFacts, ViewerTurned, has_ended as viewer_has_ended, opening_of as viewer_opening}
use Rattle.mum_keeper.specs.{Keeping.KeeperFacts, Store.StoreFacts, Store.StoreTurned}
use Rattle.mum_keeper.specs.declared.naming.KeeperOpening.{KeeperOpening}
use Rattle.mum_worker.specs.{Facts.WorkerFacts, Facts.is_done, Turning.WorkerTurned}
use Rattle.mum_owner.specs.{Decided.HasWritten, Facts.OwnerFacts, Opened.opening_of as owner_opening}
use Rattle.mum_owner.specs.Turned.{OwnerTurned, has_ended as owner_has_ended}
use Rattle.mum_serve.specs.Journals.{AreWritable, entries_of}
use Rattle.mum_serve.specs.Totals.{nothing, totals_of, with_worker}
use Rattle.mum_serve.specs.declared.{entries.Entries.Entries, roles.RoleOpening.RoleOpening, roles.Roles.Roles}
use Rattle.mum_serve.specs.declared.totals.{Totals.Totals, WorkerTotals.WorkerTotals}
use Rattle.mum_serve.specs.declared.roles.RoleOpening.TheVariants as openings
use Rattle.mum_serve.specs.declared.roles.Roles.TheVariants as roles

-- ---- who they are

module _ {D K P G N R L : Type 0} where
  -- a store, where there is one
  abbrev pub stores_of : Option (StoreFacts P) → List (Roles D K P G N R L)
  stores_of None = []
  stores_of (Some store) = roles.Store store ∷ []

  -- a viewer, where there is one, and the store after it
  abbrev pub later_of : Option (ViewerFacts D L) → Option (StoreFacts P) → List (Roles D K P G N R L)
  later_of None store = stores_of store
  later_of (Some viewer) store = roles.Viewer viewer ∷ stores_of store

  -- workers, and the others after them
  abbrev pub others_of : List (WorkerFacts L) → Option (ViewerFacts D L) → Option (StoreFacts P)
      → List (Roles D K P G N R L)
  others_of crew viewer store = map roles.Worker crew ++ later_of viewer store

  -- all roles of a server: its owner, and the others after it
  abbrev pub roles_of : OwnerFacts D L → List (WorkerFacts L) → Option (ViewerFacts D L) → Option (StoreFacts P)
      → List (Roles D K P G N R L)
  roles_of owner crew viewer store = roles.Owner owner ∷ (map roles.Worker crew ++ later_of viewer store)

  -- they are workers, a viewer and a store
  pub record AreOthers (rest : List (Roles D K P G N R L)) : Type 0 where
    pub crew : List (WorkerFacts L)
    pub viewer : Option (ViewerFacts D L)
    pub store : Option (StoreFacts P)
    pub are : rest ≡ others_of crew viewer store

  -- they are the roles of a server
  pub record AreRoles (all : List (Roles D K P G N R L)) : Type 0 where
    pub owner : OwnerFacts D L
    pub crew : List (WorkerFacts L)
    pub viewer : Option (ViewerFacts D L)
    pub store : Option (StoreFacts P)
    pub are : all ≡ roles_of owner crew viewer store

  -- with what it was opened, where the published state began at this one, and the doors and the keeper had counted this
  abbrev pub opening_of : StateValue → DoorOpening → DoorOpening → KeeperOpening → Roles D K P G N R L → RoleOpening
  opening_of state door view keeper (roles.Owner owner) =
      openings.Owner (owner_opening state door owner.guests.limit owner.scribe.is_asked)
  opening_of state door view keeper (roles.Worker worker) =
      openings.Worker (record { number = worker.number; journal = worker.common.kept.journal })
  opening_of state door view keeper (roles.Viewer viewer) = openings.Viewer (viewer_opening view viewer.limit)
  opening_of state door view keeper (roles.Store store) = openings.Store keeper

  -- it has nothing more to do
  abbrev pub has_ended : Roles D K P G N R L → Bool
  has_ended (roles.Owner owner) = owner_has_ended owner
  has_ended (roles.Worker worker) = is_done worker
  has_ended (roles.Viewer viewer) = viewer_has_ended viewer
  has_ended (roles.Store store) = store.ended

-- ---- their turns

module _ {D K P G N R L : Type 0} (facts : L → LinkFacts) (door_facts : D → DoorFacts) (keeper_facts : P → KeeperFacts)
    (opening : Opening) where
  -- a turn of the owner is one of an owner, and so it is with workers, the viewer and the store
  abbrev pub RoleTurned : Roles D K P G N R L → Turn → Roles D K P G N R L → Type 0
  RoleTurned (roles.Owner old) answer (roles.Owner new) = OwnerTurned door_facts facts old answer new
  RoleTurned (roles.Worker old) answer (roles.Worker new) = WorkerTurned facts opening old answer new
  RoleTurned (roles.Viewer old) answer (roles.Viewer new) = ViewerTurned door_facts facts old answer new
  RoleTurned (roles.Store old) answer (roles.Store new) = StoreTurned keeper_facts old answer new
  RoleTurned old answer new = ⊥

-- ---- how they end

-- what these workers came to is added
abbrev pub with_workers : {L : Type 0} → List (WorkerFacts L) → WorkerTotals → WorkerTotals
with_workers [] totals = totals
with_workers (worker ∷ others) totals = with_workers others (with_worker worker totals)

-- memory ran out in the owner or in one of the workers
abbrev pub ran_out : {D L : Type 0} → OwnerFacts D L → List (WorkerFacts L) → Bool
ran_out owner crew = owner.scribe.no_memory || (with_workers crew nothing).no_memory

module _ {D L : Type 0} (door_facts : D → DoorFacts) where
  -- what a server of this owner and these workers came to: its totals, what was written down, and the door, at the address
  -- at which it was opened. It counted a fault exactly where the owner found that it failed. Where a journal was asked for,
  -- the control entries are the commands that were decided, and what they accepted is all that was appended. Where the
  -- owner has ended, as many connections were given as there were to be, or the door ended or failed
  pub record CameTo (state : StateValue) (opening : DoorOpening) (owner : OwnerFacts D L)
      (workers : List (WorkerFacts L)) (totals : Totals) (entries : Entries) (door : D) : Type 0 where
    pub began : owner.control.publisher.opening.state ≡ state
    pub controls : entries.controls ≡ owner.scribe.entries
    pub decided : HasWritten owner.control owner.scribe
    pub by_worker : entries.by_worker ≡ map entries_of workers
    pub writable : AreWritable entries
    pub sums : totals
        ≡ totals_of owner.guests.given (length (appended owner.control.publisher)) (with_workers workers nothing)
    pub counted : NoneFalls opening.counts (door_facts door).counts
    pub failed : owner.doorway.failed ≡ true → Rose opening.counts.faults (door_facts door).counts.faults
    pub steady : owner.doorway.failed ≡ false → (door_facts door).counts.faults ≡ opening.counts.faults
    pub gave : (door_facts door).given ≡ given_after_all opening.given owner.guests.given
    pub address : (door_facts door).opened_at ≡ opening.opened_at
    pub door_is : door ≡ owner.doorway.door
    pub over : owner_has_ended owner ≡ true
        → NoMoreCome owner.guests.given owner.guests.limit opening.counts (door_facts door).counts
