-- What a worker took from its bell, as plain data.
use Rattle.std.specs.Prelude.{◌≡◌, ℕ, List, [], ◌∷◌, ◌++◌, map, Option, Some, None}
use Rattle.mum_outbox.specs.{Calls.one_more, Facts.PassFacts, Facts.QueueId}
use Rattle.mum_outbox.specs.declared.rule.Tagged.{Tagged}
use Rattle.mum_published.specs.Bell.{Rung, rung}
use Rattle.mum_published.specs.declared.bell.BellItem.{BellItem}

-- which queue a bell is, the items that were taken from it, in order, and how often there was none
pub record BellFacts (L : Type 0) : Type 0 where
  pub queue : QueueId
  pub taken : List (Rung L)
  pub empty : ℕ

-- a bell from which nothing was taken yet
abbrev pub new_bell : {L : Type 0} → QueueId → BellFacts L
new_bell queue = record { queue = queue; taken = []; empty = 0 }

-- what was taken by a pass
abbrev pub bell_of : {L N : Type 0} → PassFacts (BellItem L N) → BellFacts L
bell_of {L} {N} pass =
    record {
      queue = pass.queue;
      taken = map
          (λ (x : Tagged (BellItem L N)). rung x.item) pass.taken;
      empty = pass.empty;
    }

-- the bell is asked once: what it gave is the last that was taken, or there was nothing, which is counted
abbrev pub TakesRung : {L : Type 0} → BellFacts L → Option (Rung L) → BellFacts L → Type 0
TakesRung old None new = new ≡ record old { empty = one_more old.empty }
TakesRung old (Some item) new = new ≡ record old { taken = old.taken ++ item ∷ [] }
