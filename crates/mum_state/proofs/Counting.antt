-- Counts never fall.
use Rattle.mum_state.proofs.Common.{ℕ, ◌+◌, ◌≤◌, Bool, true, false, List, [], ◌∷◌, arith, led_to, applied, raised_slots, raised_where, AreAtMost, AreCountsOn, CountsNeverFall, Counts, StateValue}

raised : (holds : Bool) (count : ℕ) → count ≤ raised_where holds count
raised true count = omega arith
raised false count = omega arith

same : (counts : List ℕ) → AreAtMost counts counts
same [] = tt
same (count ∷ counts) = (omega arith, same counts)

further : (before middle later : List ℕ) → AreAtMost before middle → AreAtMost middle later → AreAtMost before later
further [] [] [] low high = tt
further [] [] (l ∷ ls) low high = absurd high
further [] (m ∷ ms) later low high = absurd low
further (b ∷ bs) [] later low high = absurd low
further (b ∷ bs) (m ∷ ms) [] low high = absurd high
further (b ∷ bs) (m ∷ ms) (l ∷ ls) (low, lows) (high, highs) = (omega arith, further bs ms ls lows highs)

raised_each : (holds : ℕ → Bool) (slot : ℕ) (counts : List ℕ) → AreAtMost counts (raised_slots holds slot counts)
raised_each holds slot [] = tt
raised_each holds slot (count ∷ counts) = (raised (holds slot) count, raised_each holds (slot + 1) counts)

on_and_on : (before middle later : Counts) → AreCountsOn before middle → AreCountsOn middle later → AreCountsOn before later
on_and_on before middle later low high = record {
  revision = (let a : before.revision ≤ middle.revision = low.revision in let b : middle.revision ≤ later.revision = high.revision in omega arith);
  policy = (let a : before.policy ≤ middle.policy = low.policy in let b : middle.policy ≤ later.policy = high.policy in omega arith);
  routing = (let a : before.routing ≤ middle.routing = low.routing in let b : middle.routing ≤ later.routing = high.routing in omega arith);
  slots = further before.slots middle.slots later.slots low.slots high.slots;
}

-- by one edit, whatever it raises
by_one : (state : StateValue) (revision policy routing : Bool) (slots : ℕ → Bool) → AreCountsOn state.counts (record {
  revision = raised_where revision state.counts.revision;
  policy = raised_where policy state.counts.policy;
  routing = raised_where routing state.counts.routing;
  slots = raised_slots slots 0 state.counts.slots;
})
by_one state revision policy routing slots = record {
  revision = raised revision state.counts.revision;
  policy = raised policy state.counts.policy;
  routing = raised routing state.counts.routing;
  slots = raised_each slots 0 state.counts.slots;
}

pub counts_never_fall_lem : CountsNeverFall
counts_never_fall_lem state [] = record { revision = omega arith; policy = omega arith; routing = omega arith; slots = same state.counts.slots }
counts_never_fall_lem state (edit ∷ edits) =
    on_and_on state.counts (applied state edit).counts (led_to (applied state edit) edits).counts
    (by_one state _ _ _ _) (counts_never_fall_lem (applied state edit) edits)
