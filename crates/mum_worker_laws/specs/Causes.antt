-- What a turn of a worker shows of its answer.
use Rattle.std.specs.Prelude.{◌≡◌, ◌≢◌, ◌⊎◌, ℕ, Bool, true, false, List, [], ◌∷◌, ◌++◌, slice_get, Some}
use Rattle.mum_io.specs.Link.{LinkFacts}
use Rattle.mum_outbox.specs.{Calls.one_more, Facts.PassFacts}
use Rattle.mum_crew.specs.Along.{EachAlong}
use Rattle.mum_published.specs.{Bell.Rung, Bell.NoMore, Facts.Opening}
use Rattle.mum_session.specs.Machine.{Machine}
use Rattle.mum_port.specs.{Did.PortDid, Facts.PortFacts, Life.Steps, Turn.IsIdle, Turn.did_nothing}
use Rattle.mum_port.specs.declared.item.DeskItem.{DeskItem}
use Rattle.mum_worker.specs.{Boxes.BoxesFacts, Facts.WorkerFacts, Facts.is_done, Facts.stays, Routing.RoutesPacket}
use Rattle.mum_worker.specs.{Stepping.PortSteps, Turning.shares_of}

-- the bell says that no connection comes any more
abbrev pub is_no_more : {L : Type 0} → Rung L → Bool
is_no_more NoMore = true
is_no_more other = false

module _ {L : Type 0} (facts : L → LinkFacts) where
  -- a port did nothing, and found nothing that it might do: see `IsIdle`
  abbrev pub FindsNothing : BoxesFacts → PortFacts L → PassFacts DeskItem → PortFacts L → PassFacts DeskItem → Type 0
  FindsNothing boxes old desk new after =
      (did : PortDid) × IsIdle facts boxes.posts boxes.voices old desk did new after

  -- the bell gave nothing, which is counted, each port found nothing that it might do, and the worker is not done
  pub record HasNothingToDo (old new : WorkerFacts L) : Type 0 where
    pub bell : new.bell ≡ record old.bell { empty = one_more old.bell.empty }
    pub ports : EachAlong (FindsNothing old.boxes) stays old.ports old.desk new.ports new.desk
    pub not_done : is_done new ≡ false

  -- the bell gave something, which is the last that was taken from it
  pub record HasHeard (old new : WorkerFacts L) : Type 0 where
    pub item : Rung L
    pub taken : new.bell ≡ record old.bell { taken = old.bell.taken ++ item ∷ [] }

  -- the step that led from one of these ports to the one at its place did something
  pub record StepWorked (opening : Opening) (boxes : BoxesFacts) (olds stepped : List (PortFacts L)) : Type 0 where
    pub place : ℕ
    pub port : PortFacts L
    pub there : slice_get olds place ≡ Some port
    pub after : PortFacts L
    pub after_there : slice_get stepped place ≡ Some after
    pub machine : Machine
    pub did : PortDid
    pub steps : Steps facts (RoutesPacket opening) port machine did after
    pub posts : steps.posts ≡ boxes.posts
    pub voices : steps.voices ≡ boxes.voices
    pub something : did ≢ did_nothing

  -- the bell gave nothing, which is counted, each port made its step, in their order, and those that stay then are left. The
  -- step of one of them did something
  pub record OneWorked (opening : Opening) (old new : WorkerFacts L) : Type 0 where
    pub bell : new.bell ≡ record old.bell { empty = one_more old.bell.empty }
    pub ports : EachAlong (PortSteps facts opening old.boxes) stays
        old.ports (shares_of old false) new.ports (shares_of new true)
    pub one : StepWorked opening old.boxes old.ports ports.stepped

  -- the bell gave something, or it gave nothing and one of the ports did something
  abbrev pub HasWorked : Opening → WorkerFacts L → WorkerFacts L → Type 0
  HasWorked opening old new = HasHeard old new ⊎ OneWorked opening old new
