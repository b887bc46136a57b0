-- What an offer makes of the outbox of its slot.
use Rattle.std.specs.Prelude.{◌≡◌, ◌<◌, ◌⊎◌, ℕ, Bool, List, [], ◌∷◌, ◌++◌, codes, decimal, filter, length, nat_lt, not, take}
use Rattle.mum_record.specs.declared.step.Step.{Step, TheVariants.Offer}
use Rattle.mum_core.specs.Core.{CoreState, outbox_at, up, worker_at}
use Rattle.mum_core.specs.Step.{lines}
use Rattle.mum_core.specs.declared.worker.Outgoing.{Outgoing}

-- ---- one offer

-- the line of an offer: what became of the copy, the worker, the session and the context
abbrev pub offer_line : List ℕ → ℕ → Outgoing → List (List ℕ)
offer_line word w copy = word ∷ decimal w ∷ decimal copy.to.0 ∷ decimal copy.context ∷ []

-- the outbox of its slot had room, and has the copy at its back; no other outbox changed
pub record IsSent (old : CoreState) (w : ℕ) (copy : Outgoing) (new : CoreState) : Type 0 where
  pub room : length (outbox_at old copy.slot.0) < 128
  pub back : outbox_at new copy.slot.0 ≡ outbox_at old copy.slot.0 ++ record { to = copy.to; bytes = copy.bytes } ∷ []
  pub others : (slot : ℕ) → (slot ≡ copy.slot.0 → ⊥) → outbox_at new slot ≡ outbox_at old slot
  pub counted : new.totals ≡ record old.totals { copies = up old.totals.copies }
  pub told : lines old (Offer w) ≡ offer_line (codes "sent") w copy ∷ []

-- 128 copies waited in the outbox of its slot; no outbox changed
pub record IsLeftOut (old : CoreState) (w : ℕ) (copy : Outgoing) (new : CoreState) : Type 0 where
  pub waited : length (outbox_at old copy.slot.0) ≡ 128
  pub outboxes : new.outboxes ≡ old.outboxes
  pub counted : new.totals ≡ record old.totals { full = up old.totals.full }
  pub told : lines old (Offer w) ≡ offer_line (codes "full") w copy ∷ []

-- the first copy that the worker has left is offered, and no other worker changes
pub record Offers (old : CoreState) (w : ℕ) (new : CoreState) : Type 0 where
  pub copy : Outgoing
  pub first : (worker_at old w).copies ≡ copy ∷ (worker_at new w).copies
  pub workers : (v : ℕ) → (v ≡ w → ⊥) → worker_at new v ≡ worker_at old v
  pub put : IsSent old w copy new ⊎ IsLeftOut old w copy new

-- ---- the offers of a run

abbrev pub has_room : CoreState → Outgoing → Bool
has_room core copy = nat_lt (length (outbox_at core copy.slot.0)) 128

-- the copy that a step puts into an outbox
abbrev pub sent : CoreState → Step → List Outgoing
sent core (Offer w) = filter (has_room core) (take 1 (worker_at core w).copies)
sent core step = []

-- the copy that finds the outbox of its slot full
abbrev pub found_full : CoreState → Step → List Outgoing
found_full core (Offer w) = filter (λ copy. not (has_room core copy)) (take 1 (worker_at core w).copies)
found_full core step = []
