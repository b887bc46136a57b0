-- What the calls of a queue do to it and to a pass.
use Rattle.std.specs.Prelude.{◌≡◌, ℕ, ◌+◌, ◌≤◌, min, Option, Some, None, List, [], ◌∷◌, ◌++◌}
use Rattle.std.specs.List.{AllPairs}
use Rattle.crossbeam_queue.specs.Fifo.{Held}
use Rattle.mum_outbox.specs.declared.{rule.TheConstants.LAST, rule.Tagged.Tagged, queue.Offered.Offered}
use Rattle.mum_outbox.specs.declared.queue.Offered.TheVariants.{Sent, Full}
use Rattle.mum_outbox.specs.Rule.{IsBefore, IsMomentOf, least_number, middle}
use Rattle.mum_outbox.specs.Facts.{QueueFacts, PassFacts, hand_of_pass}

-- a count that stays at its last value
abbrev pub one_more : ℕ → ℕ
one_more count = min (count + 1) LAST

module _ {I : Type 0} (capacity : ℕ) (pass : PassFacts I) where
  -- the queue held these items under the rule, when the pass had done what it has done. The hands of all other passes are
  -- some of which the rule holds
  abbrev pub WasThen : List (Tagged I) → Type 0
  WasThen items = IsMomentOf capacity (hand_of_pass pass) items

  -- an offer: the item is the last that the pass has offered, or it comes back, counted, since the queue held its
  -- capacity at one moment of the call
  abbrev pub Offers : I → Offered I → PassFacts I → Type 0
  Offers item Sent after = after ≡ record pass { offered = pass.offered ++ item ∷ [] }
  Offers item (Full back) after =
      (back ≡ item) × (after ≡ record pass { full = one_more pass.full }) × Held capacity WasThen

  -- a take: the item, with its tag, is the last that the pass has taken, and the items of each pass lie in all that it has
  -- taken in the order of their offers; or there is none, counted, since the queue was empty at one moment of the call
  abbrev pub Takes : Option I → PassFacts I → Type 0
  Takes (Some item) after =
      (x : Tagged I) × (x.item ≡ item) × (after ≡ record pass { taken = pass.taken ++ x ∷ [] })
      × AllPairs IsBefore after.taken
  Takes None after = (after ≡ record pass { empty = one_more pass.empty }) × Held 0 WasThen

-- the first owner of a queue of this name: it may give every number below the last
pub record IsFirst (name : ℕ) (owner : QueueFacts) : Type 0 where
  pub name_is : owner.queue.name ≡ name
  pub low_is : owner.low ≡ 0
  pub end_is : owner.end ≡ LAST

-- the owner has at least n numbers to give, each below the last
pub record HasNumbers (count : ℕ) (owner : QueueFacts) : Type 0 where
  pub enough : owner.low + count ≤ owner.end
  pub below : owner.end ≤ LAST

-- a new pass of this owner: it has offered and taken nothing, and its number is the least that the owner may give
abbrev pub new_pass : {I : Type 0} → QueueFacts → PassFacts I
new_pass owner = record {
  queue = owner.queue;
  number = least_number owner.low owner.end;
  offered = [];
  taken = [];
  full = 0;
  empty = 0;
}

abbrev pub IsNewPass : {I : Type 0} → QueueFacts → PassFacts I → Type 0
IsNewPass owner pass = pass ≡ new_pass owner

-- the owner after another was made of it, which keeps the lower half of its numbers, and that other one, which may give the
-- upper half
abbrev pub lower_half : QueueFacts → QueueFacts
lower_half owner = record owner { end = middle owner.low owner.end }

abbrev pub upper_half : QueueFacts → QueueFacts
upper_half owner = record owner { low = middle owner.low owner.end }

abbrev pub Halves : QueueFacts → QueueFacts → QueueFacts → Type 0
Halves old new other = (new ≡ lower_half old) × (other ≡ upper_half old)
