-- Counts of what happened outside, by which an answer shows its cause.
use Rattle.std.specs.Prelude.{ℕ, ◌≡◌, ◌+◌, ◌-◌, ◌^◌, ◌<◌, ◌≤◌, ◌⊎◌, min}

-- a count of 64 bits rose, or stays at its last value
abbrev pub Rose : ℕ → ℕ → Type 0
Rose old new = (old < new) ⊎ ((2 ^ 64 - 1 ≤ old) × (new ≡ old))

-- one more, in a count of 64 bits that stays at its last value
abbrev pub next_count : ℕ → ℕ
next_count count = min (count + 1) (2 ^ 64 - 1)

-- how many calls on a link or a door failed, how many found it not ready, and how many found it at its end
pub record Counts : Type 0 where
  pub faults : ℕ
  pub stalls : ℕ
  pub ends : ℕ

-- no call yet
abbrev pub no_counts : Counts
no_counts = record { faults = 0; stalls = 0; ends = 0 }

-- no count fell
pub record NoneFalls (old new : Counts) : Type 0 where
  pub faults : old.faults ≤ new.faults
  pub stalls : old.stalls ≤ new.stalls
  pub ends : old.ends ≤ new.ends

-- a fault was counted, and nothing else
pub record CountsFault (old new : Counts) : Type 0 where
  pub rose : Rose old.faults new.faults
  pub others : new ≡ record old { faults = new.faults }

-- a stall was counted, and nothing else
pub record CountsStall (old new : Counts) : Type 0 where
  pub rose : Rose old.stalls new.stalls
  pub others : new ≡ record old { stalls = new.stalls }

-- an end was counted, and nothing else
pub record CountsEnd (old new : Counts) : Type 0 where
  pub rose : Rose old.ends new.ends
  pub others : new ≡ record old { ends = new.ends }
