-- The store of a server, where channels are kept, and what it came to.
use Rattle.std.specs.Option.{option_map, option_map_or}
use Rattle.std.specs.Prelude.{◌≡◌, ⊤, ℕ, Bool, true, false, IfSome, Option, Some, None}
use Rattle.mum_outbox.specs.Facts.{QueueId}
use Rattle.mum_crew.specs.Turns.{TurnsLead}
use Rattle.mum_crew.specs.declared.crew.CrewEnd.{CrewEnd, TheVariants.Ran}
use Rattle.mum_state.specs.State.{StateValue}
use Rattle.mum_published.specs.Facts.{Opening, PublisherFacts}
use Rattle.mum_kept.specs.declared.rows.KeptRows.{KeptRows}
use Rattle.mum_keeper.specs.{Archive.ArchiveFacts, Keeping.AreRowsOf, Keeping.KeeperFacts}
use Rattle.mum_keeper.specs.Mirror.{IsSince, MirrorFacts}
use Rattle.mum_keeper.specs.Store.{IsOpened, Settles, StoreFacts, StoreTurned}
use Rattle.mum_keeper.specs.declared.{keeper.KeepEnd.KeepEnd, naming.KeeperOpening.KeeperOpening}
use Rattle.mum_owner.specs.Facts.{OwnerFacts}
use Rattle.mum_serve.specs.{OneList.IsWithin, Opened.fresh_pass}

-- how many passes a store takes, where the keeper gave rows
abbrev pub store_passes : Option KeptRows → ℕ
store_passes rows = option_map_or (λ one. 1) rows 0

-- the queue into which an owner puts what is for the store, if there is one
abbrev pub archive_queue : {D L : Type 0} → OwnerFacts D L → Option QueueId
archive_queue owner = option_map (λ (side : ArchiveFacts). side.queue) owner.archive

module _ {P : Type 0} where
  -- a store is new, over this keeper that gave these rows, and takes from the queue into which the owner puts
  pub record StoreBegins (opening : Opening) (rows : KeptRows) (keeper : P) (archive : Option QueueId)
      (store : StoreFacts P) : Type 0 where
    pub queue : QueueId
    pub is_archive : archive ≡ Some queue
    pub opened : IsOpened (fresh_pass opening) keeper rows queue store

  -- a store was opened over this keeper where rows were loaded; and else the owner puts into no queue for one, and the keeper
  -- is not used
  abbrev pub IsStoreOver : Opening → Option KeptRows → P → Option QueueId → Option (StoreFacts P) → Option P → Type 0
  IsStoreOver opening None keeper archive store unused = (store ≡ None) × (archive ≡ None) × (unused ≡ Some keeper)
  IsStoreOver opening (Some rows) keeper archive None unused = ⊥
  IsStoreOver opening (Some rows) keeper archive (Some store) unused = StoreBegins opening rows keeper archive store

  -- what the store saw and learnt begins what was published and accepted
  abbrev pub KeepsWithin : PublisherFacts → Option (StoreFacts P) → Type 0
  KeepsWithin publisher store = IfSome store (λ one. IsWithin publisher one.pass)

  -- a store that made no turn leaves its keeper as it was
  abbrev pub GivesKeeperBack : Option P → Option (StoreFacts P) → P → Type 0
  GivesKeeperBack unused None left = unused ≡ Some left
  GivesKeeperBack unused (Some store) left = left ≡ store.mirror.keeper

module _ {P : Type 0} (keeper_facts : P → KeeperFacts) where
  -- these rows are the keeper's, where they are known
  abbrev pub AreRowsFor : P → Option KeptRows → Type 0
  AreRowsFor keeper rows = IfSome rows (λ these. AreRowsOf (keeper_facts keeper).rows these)

  -- turns of its own led each store to what it is
  abbrev pub StoresTurned : Option (StoreFacts P) → Option (StoreFacts P) → Type 0
  StoresTurned None None = ⊤
  StoresTurned None (Some new) = ⊥
  StoresTurned (Some old) None = ⊥
  StoresTurned (Some old) (Some new) = TurnsLead (StoreTurned keeper_facts) old new

  -- a store was opened so, and turns of its own led it to its end
  pub record HasKept (opening : Opening) (rows : KeptRows) (keeper : P) (archive : Option QueueId)
      (store : StoreFacts P) : Type 0 where
    pub first : StoreFacts P
    pub begun : StoreBegins opening rows keeper archive first
    pub turned : TurnsLead (StoreTurned keeper_facts) first store
    pub ended : store.ended ≡ true

  -- there was a store exactly where rows were loaded
  abbrev pub HasStored : Opening → Option KeptRows → P → Option QueueId → Option (StoreFacts P) → Type 0
  HasStored opening None keeper archive None = archive ≡ None
  HasStored opening None keeper archive (Some store) = ⊥
  HasStored opening (Some rows) keeper archive None = ⊥
  HasStored opening (Some rows) keeper archive (Some store) = HasKept opening rows keeper archive store

  -- what came of a store whose keeper had counted this: after its last turn it was settled once, with this state; whether a
  -- call failed or memory ran out, in a turn or then; and the keeper, at the path at which it was opened. Its count of
  -- faults rose exactly where a call failed
  pub record LeavesKeeper (opening : KeeperOpening) (state : StateValue) (store : StoreFacts P)
      (failed no_memory : Bool) (left : P) : Type 0 where
    pub end : KeepEnd
    pub settled : MirrorFacts P
    pub settles : Settles keeper_facts store.mirror state end settled
    pub failed_is : failed ≡ settled.failed
    pub memory_is : no_memory ≡ settled.no_memory
    pub keeper_is : left ≡ settled.keeper
    pub since : IsSince opening (keeper_facts left) failed

  -- without a store nothing failed, and the keeper that was not used is as it was
  abbrev pub CameToStore : KeeperOpening → StateValue → Option P → Option (StoreFacts P) → (failed no_memory : Bool) → P
      → Type 0
  CameToStore opening state unused None failed no_memory left =
      (failed ≡ false) × (no_memory ≡ false) × (unused ≡ Some left)
  CameToStore opening state unused (Some store) failed no_memory left =
      LeavesKeeper opening state store failed no_memory left

  -- where the roles have run a store is settled with this state, and nothing else of it changes; else it is as it was
  abbrev pub SettlesWhereRan : CrewEnd → StoreFacts P → StateValue → StoreFacts P → Type 0
  SettlesWhereRan Ran old state new = ((end : KeepEnd) × Settles keeper_facts old.mirror state end new.mirror)
  SettlesWhereRan others old state new = new ≡ old

  -- what came of a store, by how the crew ended: it is settled only where the roles have run
  abbrev pub EndsStore : CrewEnd → KeeperOpening → StateValue → Option P → Option (StoreFacts P)
      → (failed no_memory : Bool) → P → Type 0
  EndsStore Ran opening state unused store failed no_memory left =
      CameToStore opening state unused store failed no_memory left
  EndsStore others opening state unused store failed no_memory left = GivesKeeperBack unused store left
