-- The copies that a worker offers, and those that its looks find.
use Rattle.std.specs.Prelude.{ℕ, ◌==◌, List, [], if◌then◌else◌, take}
use Rattle.mum_record.specs.declared.step.Step.{Step, TheVariants.Look, TheVariants.Offer}
use Rattle.mum_state.specs.After.{led_to}
use Rattle.mum_core.specs.{Core.CoreState, Core.worker_at, steps.Look.copies}
use Rattle.mum_core.specs.declared.worker.Outgoing.{Outgoing}

-- the copies that worker w finds in a step: by a look, in the state after n accepted edits
abbrev pub found : ℕ → CoreState → Step → List Outgoing
found w core (Look v revision) =
    if v == w then copies (led_to core.opening (take revision core.accepted)) (worker_at core w).held else []
found w core step = []

-- the copy that worker w offers in a step, whether there is room for it or not
abbrev pub offered : ℕ → CoreState → Step → List Outgoing
offered w core (Offer v) = if v == w then take 1 (worker_at core w).copies else []
offered w core step = []
