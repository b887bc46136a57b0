-- A turn of a worker.
use Rattle.std.specs.Prelude.{◌≡◌, Bool, is_some, Option, if◌then◌else◌}
use Rattle.mum_io.specs.Link.{LinkFacts}
use Rattle.mum_crew.specs.Along.{EachAlong}
use Rattle.mum_crew.specs.declared.role.Turn.{Turn, TheVariants.Worked, TheVariants.Idle, TheVariants.Done}
use Rattle.mum_published.specs.{Bell.Rung, Facts.Opening}
use Rattle.mum_worker.specs.{Bell.BellFacts, Bell.TakesRung, Facts.WorkerFacts, Facts.is_done, Facts.stays}
use Rattle.mum_worker.specs.{Hearing.Hears, Stepping.PortSteps, Stepping.Shares}

module _ {L : Type 0} where
  -- a worker that is done says so, and another whether it did anything
  abbrev pub answer_of : WorkerFacts L → Bool → Turn
  answer_of worker worked = if is_done worker then Done else (if worked then Worked else Idle)

  -- what the ports of a worker change together
  abbrev pub shares_of : WorkerFacts L → Bool → Shares
  shares_of worker worked = record { common = worker.common; desk = worker.desk; worked = worked }

module _ {L : Type 0} (facts : L → LinkFacts) where
  -- the bell is asked once, and what it gave is heeded
  pub record HearsBell (old : WorkerFacts L) (heard : Bool) (new : WorkerFacts L) : Type 0 where
    pub item : Option (Rung L)
    pub bell : BellFacts L
    pub takes : TakesRung old.bell item bell
    pub hears : Hears facts item (record old { bell = bell }) new
    pub heard_is : heard ≡ is_some item

  -- each port makes its step, in their order, and those that are gone then are let go
  pub record StepsPorts (opening : Opening) (heard : Bool) (old : WorkerFacts L) (worked : Bool)
      (new : WorkerFacts L) : Type 0 where
    pub steps : EachAlong (PortSteps facts opening old.boxes) stays
        old.ports (shares_of old heard) new.ports (shares_of new worked)
    pub rest : new ≡ record old { common = new.common; desk = new.desk; ports = new.ports }

  -- a turn: what the bell gave is heeded, and then each port makes its step
  pub record Turned (opening : Opening) (old new : WorkerFacts L) (answer : Turn) : Type 0 where
    pub heard : Bool
    pub between : WorkerFacts L
    pub hears : HearsBell old heard between
    pub worked : Bool
    pub steps : StepsPorts opening heard between worked new
    pub answer_is : answer ≡ answer_of new worked

  -- the same, in the order in which a crew says what a turn makes of its role
  abbrev pub WorkerTurned : Opening → WorkerFacts L → Turn → WorkerFacts L → Type 0
  WorkerTurned opening old answer new = Turned opening old new answer
