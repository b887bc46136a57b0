-- A clock in memory: its answers, one after the other, and then the last of them for ever.
use Rattle.std.specs.Prelude.{ℕ, List, [], ◌∷◌}
use Rattle.mum_io.specs.Counts.{next_count}

pub record ClockState : Type 0 where
  pub moments : List ℕ
  -- the last answer, 0 before the first
  pub last : ℕ
  pub calls : ℕ

abbrev pub new_clock : List ℕ → ClockState
new_clock moments = record { moments = moments; last = 0; calls = 0 }

-- the next moment, or the last answer where there is none
abbrev pub moment_after : List ℕ → ℕ → ℕ
moment_after [] last = last
moment_after (moment ∷ moments) last = moment

abbrev pub moments_behind : List ℕ → List ℕ
moments_behind [] = []
moments_behind (moment ∷ moments) = moments

abbrev pub after_now : ClockState → ClockState
after_now clock = record {
  moments = moments_behind clock.moments;
  last = moment_after clock.moments clock.last;
  calls = next_count clock.calls;
}
