-- The turns that led the roles of a server from their opening to what they are.
use Rattle.std.specs.Prelude.{ℕ, Bool, List}
use Rattle.std.specs.List.{AllZip}
use Rattle.mum_io.specs.{Link.LinkFacts, Door.DoorFacts}
use Rattle.mum_crew.specs.Turns.{TurnsLead}
use Rattle.mum_published.specs.Facts.{Opening}
use Rattle.mum_worker.specs.{Facts.WorkerFacts, Turning.WorkerTurned}
use Rattle.mum_owner.specs.{Facts.OwnerFacts, Turned.OwnerTurned}
use Rattle.mum_serve.specs.{Clocks.ClockFacts, Joined.AreJoinedTo, Journals.closing_room, Numbers.AreNumbered}
use Rattle.mum_serve.specs.Opened.{AreOpened, OwnerBegins}

module _ {D L : Type 0} where
  -- an owner and workers that are new, joined by their queues, with passes that have numbers of their own
  pub record HaveBegun (opening : Opening) (door : D) (clock : ClockFacts) (journal : Bool) (connections workers : ℕ)
      (owner : OwnerFacts D L) (crew : List (WorkerFacts L)) : Type 0 where
    pub owner_begins : OwnerBegins opening door clock journal connections owner
    pub crew_begins : AreOpened opening (closing_room journal connections workers) workers crew
    pub joined : AreJoinedTo owner crew
    pub numbered : AreNumbered owner crew

module _ {D L : Type 0} (facts : L → LinkFacts) (door_facts : D → DoorFacts) where
  -- they were opened so, and turns of its own led each of them to what it is
  pub record HaveTurned (opening : Opening) (door : D) (clock : ClockFacts) (journal : Bool) (connections workers : ℕ)
      (owner : OwnerFacts D L) (crew : List (WorkerFacts L)) : Type 0 where
    pub first_owner : OwnerFacts D L
    pub first_crew : List (WorkerFacts L)
    pub begun : HaveBegun opening door clock journal connections workers first_owner first_crew
    pub owner_turned : TurnsLead (OwnerTurned door_facts facts) first_owner owner
    pub crew_turned : AllZip (TurnsLead (WorkerTurned facts opening)) first_crew crew
