-- What the bell of a store carries, as plain data, and what the store took from it.
use Rattle.std.specs.Prelude.{◌≡◌, ℕ, List, [], ◌∷◌, ◌++◌, map, Option, Some, None}
use Rattle.mum_outbox.specs.{Calls.one_more, Facts.PassFacts, Facts.QueueId}
use Rattle.mum_outbox.specs.declared.rule.Tagged.{Tagged}
use Rattle.mum_published.specs.Facts.{NoteFacts}
use Rattle.mum_keeper.specs.declared.item.StoreItem.{StoreItem}
use Rattle.mum_keeper.specs.declared.item.StoreItem.TheVariants as items

-- an item of a bell: a note, or that no note comes after it
pub data Ring : Type 0 where
  Noted : NoteFacts → Ring
  NoMore : Ring

-- which queue a bell is, the items that were taken from it, in order, and how often there was none
pub record BellFacts : Type 0 where
  pub queue : QueueId
  pub taken : List Ring
  pub empty : ℕ

-- a bell from which nothing was taken yet
abbrev pub new_bell : QueueId → BellFacts
new_bell queue = record { queue = queue; taken = []; empty = 0 }

module _ {N : Type 0} where
  abbrev pub ring_of : StoreItem N → Ring
  ring_of (items.Note note) = Noted note
  ring_of items.Last = NoMore

  abbrev pub rings_of : List (Tagged (StoreItem N)) → List Ring
  rings_of tagged = map (λ (x : Tagged (StoreItem N)). ring_of x.item) tagged

  -- what was taken by a pass
  abbrev pub bell_of : PassFacts (StoreItem N) → BellFacts
  bell_of pass = record { queue = pass.queue; taken = rings_of pass.taken; empty = pass.empty }

-- the bell is asked once: what it gave is the last that was taken, or there was nothing, which is counted
abbrev pub TakesRing : BellFacts → Option Ring → BellFacts → Type 0
TakesRing old None new = new ≡ record old { empty = one_more old.empty }
TakesRing old (Some ring) new = new ≡ record old { taken = old.taken ++ ring ∷ [] }
