-- The calls on an object in memory, which are numbered from 1.
use Rattle.std.specs.Prelude.{ℕ, ◌==◌, Bool, List}
use Rattle.std.specs.List.{list_any}
use Rattle.mum_io.specs.Counts.{next_count}

-- the numbers of the calls that fail, and how many calls there were
pub record CallNumbers : Type 0 where
  pub failing : List ℕ
  pub made : ℕ

abbrev pub is_named : List ℕ → ℕ → Bool
is_named numbers number = list_any (λ named. named == number) numbers

-- the next call is one of those that fail
abbrev pub next_fails : CallNumbers → Bool
next_fails calls = is_named calls.failing (next_count calls.made)

-- no call yet
abbrev pub before_calls : List ℕ → CallNumbers
before_calls failing = record { failing = failing; made = 0 }

abbrev pub after_call : CallNumbers → CallNumbers
after_call calls = record calls { made = next_count calls.made }
