-- What a door has counted since its role was opened.
use Rattle.std.specs.Prelude.{◌≡◌, ◌⊎◌, ℕ, zero, suc, Bool, false, IsTrue, List, Option}
use Rattle.mum_io.specs.Counts.{Counts, NoneFalls, Rose, next_count}
use Rattle.mum_doorway.specs.declared.opening.DoorOpening.{DoorOpening}

-- the count of ends or that of faults rose
abbrev pub HasStopped : Counts → Counts → Type 0
HasStopped old new = Rose old.ends new.ends ⊎ Rose old.faults new.faults

-- no count of the door fell; where it ended or failed, the count of ends or that of faults rose, and where it failed, that
-- of faults; no fault was counted unless it failed, and no end unless it ended or failed; and it is open at the address at
-- which it was
pub record IsSince (opening : DoorOpening) (counts : Counts) (opened_at : Option (List ℕ))
    (stopped failed : Bool) : Type 0 where
  pub none_falls : NoneFalls opening.counts counts
  pub stops : IsTrue stopped → HasStopped opening.counts counts
  pub fails : IsTrue failed → Rose opening.counts.faults counts.faults
  pub steady : failed ≡ false → counts.faults ≡ opening.counts.faults
  pub open_on : stopped ≡ false → counts.ends ≡ opening.counts.ends
  pub address : opened_at ≡ opening.opened_at

-- how many a door has given in all, where it had given this many, and then these, one by one
abbrev pub given_after_all : ℕ → ℕ → ℕ
given_after_all given zero = given
given_after_all given (suc more) = next_count (given_after_all given more)

-- no more connections come, since as many were given as are in all, or since the door stopped
abbrev pub NoMoreCome : ℕ → ℕ → Counts → Counts → Type 0
NoMoreCome given limit old new = (given ≡ limit) ⊎ HasStopped old new
