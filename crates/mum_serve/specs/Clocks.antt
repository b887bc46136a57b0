-- The clock that a server is lent, as far as it can be seen.
use Rattle.std.specs.Prelude.{ℕ}
use Rattle.mum_owner.specs.Facts.{OwnerFacts}

-- what a clock answered last, and how often it was asked
pub record ClockFacts : Type 0 where
  pub last : ℕ
  pub calls : ℕ

-- what a clock has counted
abbrev pub clock_at : {K : Type 0} → (K → ℕ) → (K → ℕ) → K → ClockFacts
clock_at last calls clock = record { last = last clock; calls = calls clock }

-- so much has the clock of an owner
abbrev pub clock_of : {D L : Type 0} → OwnerFacts D L → ClockFacts
clock_of owner = record { last = owner.warden.last; calls = owner.warden.calls }
