-- The steps of a worker's ports, one after the other.
use Rattle.std.specs.Prelude.{◌≡◌, ◌||◌, Bool}
use Rattle.mum_io.specs.Link.{LinkFacts}
use Rattle.mum_outbox.specs.Facts.{PassFacts}
use Rattle.mum_published.specs.Facts.{Opening}
use Rattle.mum_port.specs.{Did.PortDid, Facts.PortFacts, Passes.HasTaken, Passes.told_by, Steps.PortChain}
use Rattle.mum_port.specs.{Taking.IsPosted, Taking.IsVoiced, Turn.PortTurn}
use Rattle.mum_port.specs.declared.{item.DeskItem.DeskItem, port.Step.Step}
use Rattle.mum_worker.specs.{Boxes.BoxesFacts, Hearing.LearnsGiven, Record.after_step}
use Rattle.mum_worker.specs.Routing.{CommonFacts, RoutesPacket}

-- what the ports of a worker change together, and whether one of them did anything so far
pub record Shares : Type 0 where
  pub common : CommonFacts
  pub desk : PassFacts DeskItem
  pub worked : Bool

-- the passes of a port are of the boxes of its slot
pub record OwnsPasses {L : Type 0} (boxes : BoxesFacts) (port : PortFacts L) : Type 0 where
  pub posted : IsPosted boxes.posts port.passes
  pub voiced : IsVoiced boxes.voices port.passes

module _ {L : Type 0} (facts : L → LinkFacts) (opening : Opening) (boxes : BoxesFacts) where
  -- a port makes its step, and what the step came to is noted
  pub record MakesStep (old : PortFacts L) (before : Shares) (new : PortFacts L) (after : Shares) : Type 0 where
    pub step : Step
    pub routed : CommonFacts
    pub chain : PortChain facts
        (RoutesPacket opening) boxes.posts boxes.voices old before.desk before.common step new after.desk routed
    pub turned : (did : PortDid)
        × PortTurn facts
        (RoutesPacket opening) boxes.posts boxes.voices old before.desk before.common did step new after.desk routed
    pub noted : after.common ≡ record routed { kept = after_step old.machine.connection step routed.kept }
    pub worked : after.worked ≡ before.worked || step.worked

  -- a port makes its step; what came with the parcels that it took is learnt, which is true of what it took, and no later look
  -- sees less; and what the step came to is noted
  pub record PortSteps (old : PortFacts L) (before : Shares) (new : PortFacts L) (after : Shares) : Type 0 where
    pub step : Step
    pub routed : CommonFacts
    pub chain : PortChain facts
        (RoutesPacket opening) boxes.posts boxes.voices old before.desk before.common step new after.desk routed
    pub turned : (did : PortDid)
        × PortTurn facts
        (RoutesPacket opening) boxes.posts boxes.voices old before.desk before.common did step new after.desk routed
    pub taken : HasTaken opening new.passes
    pub learns : LearnsGiven (told_by new.passes) routed.router after.common.router
    pub noted : after.common
        ≡ record { router = after.common.router; kept = after_step old.machine.connection step routed.kept }
    pub worked : after.worked ≡ before.worked || step.worked
