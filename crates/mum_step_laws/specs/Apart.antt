-- The steps that change what a role has of the core: no step of another role does.
use Rattle.std.specs.Prelude.{◌≡◌, ◌==◌, ℕ, Bool, true, false}
use Rattle.mum_record.specs.declared.step.Step.{Step}
use Rattle.mum_record.specs.declared.step.Step.TheVariants.{Edit, Frame, Look, Offer, Post, Publish, Tell}
use Rattle.mum_core.specs.{Core.CoreState, Core.connection_at, Core.worker_at, Step.does}
use Rattle.mum_control.specs.Facts.{ControlFacts}
use Rattle.mum_step_laws.specs.ControlSteps.{OwnsAs}

-- the steps of the owner
abbrev pub is_of_owner : Step → Bool
is_of_owner (Edit c) = true
is_of_owner Publish = true
is_of_owner Post = true
is_of_owner others = false

-- the steps of a worker: its looks and its offers, and of its connections the frames and the replies
abbrev pub is_of_worker : CoreState → ℕ → Step → Bool
is_of_worker core w (Frame c bytes) = (connection_at core c).worker == w
is_of_worker core w (Tell c revision) = (connection_at core c).worker == w
is_of_worker core w (Look v revision) = v == w
is_of_worker core w (Offer v) = v == w
is_of_worker core w others = false

-- what a control owner has of the core is the same after a step that is not of the owner
abbrev pub OwnersAreApart : Type 0
OwnersAreApart =
    (control : ControlFacts) (core : CoreState) (step : Step) → is_of_owner step ≡ false
    → OwnsAs control core → OwnsAs control (does core step)

-- a worker of the core is the same after a step that is not its own
abbrev pub WorkersAreApart : Type 0
WorkersAreApart =
    (core : CoreState) (w : ℕ) (step : Step) → is_of_worker core w step ≡ false
    → worker_at (does core step) w ≡ worker_at core w
