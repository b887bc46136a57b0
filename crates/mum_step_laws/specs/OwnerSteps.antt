-- What an owner publishes in its turn as a step of the core.
use Rattle.std.specs.Prelude.{◌≡◌, None}
use Rattle.mum_record.specs.declared.step.Step.TheVariants.{Publish}
use Rattle.mum_published.specs.Calls.{all_published}
use Rattle.mum_core.specs.{Core.CoreState, Step.does, Step.illegal}
use Rattle.mum_owner.specs.Facts.{OwnerFacts}
use Rattle.mum_step_laws.specs.ControlSteps.{OwnsAs}

-- what an owner publishes in its turn is the step Publish
abbrev pub PublishesArePublishes : Type 0 → Type 0 → Type 0
PublishesArePublishes D L =
    (old new : OwnerFacts D L)
    → new ≡ record old { control = record old.control { publisher = all_published old.control.publisher } }
    → (core : CoreState) → OwnsAs old.control core
    → (illegal core Publish ≡ None) × OwnsAs new.control (does core Publish)
