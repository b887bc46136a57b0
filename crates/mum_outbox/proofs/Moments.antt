-- What a call learns of the queue at one moment of it, and what a take that gives an item answers.
use Rattle.mum_outbox.proofs.Common.{◌≡◌, ℕ, true, [], ◌∷◌, ◌++◌, Option, Some, None, MatchOption, is_some, ap, ◌∙◌, AllPairs, TableId, Learns, Held, Tagged, Hand, AreTagged, IsBefore, TaggedRule, IsMomentOf, PassFacts, hand_of_pass, Takes}

module _ {I : Type 0} where
  pub learns : (capacity port : ℕ) (v : Hand I) → Learns (TaggedRule {I = I} capacity) port v (AreTagged (IsMomentOf capacity v))
  learns capacity port v items hands is at = (is.0, is.1, (hands, port, at, is.2))

  -- a take that gives an item answers of the pass what it reports of its hand
  pub taken_so : (capacity : ℕ) (pass : PassFacts I) (was hand : Hand I) (table : TableId) (taken : Option I) → is_some taken ≡ true → table ≡ pass.queue.table → was ≡ hand_of_pass pass
      → MatchOption taken ((hand ≡ was) × Held 0 (AreTagged (IsMomentOf capacity was))) (λ item. (x : Tagged I) × (x.item ≡ item) × (hand ≡ record was { taken = was.taken ++ x ∷ [] }) × AllPairs IsBefore hand.taken)
      → Takes capacity pass taken (record { queue = record { table = table; name = pass.queue.name }; number = hand.number; offered = hand.offered; taken = hand.taken; full = pass.full; empty = pass.empty })
  taken_so capacity pass was hand table None some here is told = cc
  taken_so capacity pass was hand table (Some item) some here is told =
      let same : hand ≡ record (hand_of_pass pass) { taken = pass.taken ++ told.0 ∷ [] } = told.2 ∙ ap (λ (h : Hand I). record h { taken = h.taken ++ told.0 ∷ [] }) is in
      (told.0, told.1, λ i. record { queue = record { table = here i; name = pass.queue.name }; number = (same i).number; offered = (same i).offered; taken = (same i).taken; full = pass.full; empty = pass.empty }, told.3)
