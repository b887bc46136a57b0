-- What follows of counts: a count that rose has risen later, no call makes one fall, and where one is greater the
-- answer was the one that counts it.
use Rattle.mum_io.proofs.Common.{◌≡◌, ℕ, zero, suc, ◌<◌, ◌≤◌, ◌⊎◌, inl, inr, refl, sym, ap, subst, arith, le_trans, ⊎_elim, Counts, CountsEnd, CountsFault, CountsStall, NoneFalls, Rose, AcceptCounts, OpenCounts, PollReadCounts, PollWriteCounts, Accept, DoorOpen, PollRead, PollWrite}
use Rattle.mum_io.specs.declared.door.Accept.TheVariants as accepted
use Rattle.mum_io.specs.declared.door.DoorOpen.TheVariants as opening
use Rattle.mum_io.specs.declared.link.PollRead.TheVariants as read
use Rattle.mum_io.specs.declared.link.PollWrite.TheVariants as written

-- a number that does not fall rises or stays
rises_or_stays : (old new : ℕ) → old ≤ new → (old < new) ⊎ (new ≡ old)
rises_or_stays zero zero up = inr refl
rises_or_stays zero (suc new) up = inl (omega arith)
rises_or_stays (suc old) zero up = absurd (omega arith)
rises_or_stays (suc old) (suc new) up =
    ⊎_elim (λ (less : old < new). inl (omega arith)) (λ (same : new ≡ old). inr (ap suc same)) (rises_or_stays old new (omega arith))

pub Rose-≤ : (old new : ℕ) → Rose old new → old ≤ new
Rose-≤ old new (inl less) = omega arith
Rose-≤ old new (inr (last, same)) = omega arith

-- what rose has risen at any later moment
pub Rose-later : (old mid new : ℕ) → Rose old mid → mid ≤ new → Rose old new
Rose-later old mid new (inl less) up = inl (omega arith)
Rose-later old mid new (inr (last, same)) up =
    ⊎_elim (λ (less : old < new). inl less) (λ (stays : new ≡ old). inr (last, stays)) (rises_or_stays old new (omega arith))

-- and since any earlier one
pub Rose-earlier : (old mid new : ℕ) → old ≤ mid → Rose mid new → Rose old new
Rose-earlier old mid new up (inl less) = inl (omega arith)
Rose-earlier old mid new up (inr (last, same)) =
    ⊎_elim (λ (less : old < new). inl less) (λ (stays : new ≡ old). inr (omega arith, stays)) (rises_or_stays old new (omega arith))

-- ---- no count falls

pub NoneFalls-refl : (counts : Counts) → NoneFalls counts counts
NoneFalls-refl counts = record { faults = omega arith; stalls = omega arith; ends = omega arith }

pub NoneFalls-same : (old new : Counts) → new ≡ old → NoneFalls old new
NoneFalls-same old new same = subst (NoneFalls old) (sym same) (NoneFalls-refl old)

pub NoneFalls-trans : (old mid new : Counts) → NoneFalls old mid → NoneFalls mid new → NoneFalls old new
NoneFalls-trans old mid new first next = record {
  faults = le_trans first.faults next.faults;
  stalls = le_trans first.stalls next.stalls;
  ends = le_trans first.ends next.ends;
}

pub CountsFault-none_falls : (old new : Counts) → CountsFault old new → NoneFalls old new
CountsFault-none_falls old new counts = record {
  faults = Rose-≤ old.faults new.faults counts.rose;
  stalls = omega (arith, ap (λ (c : Counts). c.stalls) counts.others);
  ends = omega (arith, ap (λ (c : Counts). c.ends) counts.others);
}

pub CountsStall-none_falls : (old new : Counts) → CountsStall old new → NoneFalls old new
CountsStall-none_falls old new counts = record {
  faults = omega (arith, ap (λ (c : Counts). c.faults) counts.others);
  stalls = Rose-≤ old.stalls new.stalls counts.rose;
  ends = omega (arith, ap (λ (c : Counts). c.ends) counts.others);
}

pub CountsEnd-none_falls : (old new : Counts) → CountsEnd old new → NoneFalls old new
CountsEnd-none_falls old new counts = record {
  faults = omega (arith, ap (λ (c : Counts). c.faults) counts.others);
  stalls = omega (arith, ap (λ (c : Counts). c.stalls) counts.others);
  ends = Rose-≤ old.ends new.ends counts.rose;
}

pub PollReadCounts-none_falls : (answer : PollRead) (old new : Counts) → PollReadCounts answer old new → NoneFalls old new
PollReadCounts-none_falls (read.Got n) old new counts = NoneFalls-same old new counts
PollReadCounts-none_falls read.End old new counts = CountsEnd-none_falls old new counts
PollReadCounts-none_falls read.NotYet old new counts = CountsStall-none_falls old new counts
PollReadCounts-none_falls read.Failed old new counts = CountsFault-none_falls old new counts

pub PollWriteCounts-none_falls : (answer : PollWrite) (old new : Counts) → PollWriteCounts answer old new → NoneFalls old new
PollWriteCounts-none_falls (written.Took n) old new counts = NoneFalls-same old new counts
PollWriteCounts-none_falls written.NotYet old new counts = CountsStall-none_falls old new counts
PollWriteCounts-none_falls written.Failed old new counts = CountsFault-none_falls old new counts

pub OpenCounts-none_falls : (answer : DoorOpen) (old new : Counts) → OpenCounts answer old new → NoneFalls old new
OpenCounts-none_falls opening.Opened old new counts = NoneFalls-same old new counts
OpenCounts-none_falls opening.Failed old new counts = CountsFault-none_falls old new counts

pub AcceptCounts-none_falls : {L : Type 0} (answer : Accept L) (old new : Counts) → AcceptCounts answer old new → NoneFalls old new
AcceptCounts-none_falls (accepted.Conn link) old new counts = NoneFalls-same old new counts
AcceptCounts-none_falls accepted.NotYet old new counts = CountsStall-none_falls old new counts
AcceptCounts-none_falls accepted.End old new counts = CountsEnd-none_falls old new counts
AcceptCounts-none_falls accepted.Failed old new counts = CountsFault-none_falls old new counts

-- ---- a count that is greater shows the answer: none is hidden by another

no_less : {P : Type 0} (old new : ℕ) → new ≡ old → old < new → P
no_less old new same less = absurd (omega arith)

pub PollReadCounts-fault : (answer : PollRead) (old new : Counts) → PollReadCounts answer old new → old.faults < new.faults → answer ≡ read.Failed
PollReadCounts-fault (read.Got n) old new counts more = no_less _ _ (ap (λ (c : Counts). c.faults) counts) more
PollReadCounts-fault read.End old new counts more = no_less _ _ (ap (λ (c : Counts). c.faults) counts.others) more
PollReadCounts-fault read.NotYet old new counts more = no_less _ _ (ap (λ (c : Counts). c.faults) counts.others) more
PollReadCounts-fault read.Failed old new counts more = refl

pub PollReadCounts-stall : (answer : PollRead) (old new : Counts) → PollReadCounts answer old new → old.stalls < new.stalls → answer ≡ read.NotYet
PollReadCounts-stall (read.Got n) old new counts more = no_less _ _ (ap (λ (c : Counts). c.stalls) counts) more
PollReadCounts-stall read.End old new counts more = no_less _ _ (ap (λ (c : Counts). c.stalls) counts.others) more
PollReadCounts-stall read.NotYet old new counts more = refl
PollReadCounts-stall read.Failed old new counts more = no_less _ _ (ap (λ (c : Counts). c.stalls) counts.others) more

pub PollReadCounts-end : (answer : PollRead) (old new : Counts) → PollReadCounts answer old new → old.ends < new.ends → answer ≡ read.End
PollReadCounts-end (read.Got n) old new counts more = no_less _ _ (ap (λ (c : Counts). c.ends) counts) more
PollReadCounts-end read.End old new counts more = refl
PollReadCounts-end read.NotYet old new counts more = no_less _ _ (ap (λ (c : Counts). c.ends) counts.others) more
PollReadCounts-end read.Failed old new counts more = no_less _ _ (ap (λ (c : Counts). c.ends) counts.others) more
