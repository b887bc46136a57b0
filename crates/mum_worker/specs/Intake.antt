-- Which connections a worker takes in.
use Rattle.std.specs.Prelude.{ℕ, ◌-◌, ◌%◌, ◌==◌, ◌&&◌, max, nat_lt, Bool}
use Rattle.mum_worker.specs.declared.intake.Intake.{Intake}

-- the number of the worker to whom a connection belongs, where there are this many. Connections are numbered from 1,
-- and the workers have them in turn
abbrev pub worker_of : ℕ → ℕ → ℕ
worker_of connection workers = (connection - 1) % max workers 1

-- nothing was taken in yet
abbrev pub first_intake : ℕ → ℕ → Intake
first_intake number workers = record { number = number; workers = workers; last = 0 }

-- a connection of this worker that is above the last that it took in
abbrev pub is_next : Intake → ℕ → Bool
is_next intake connection = nat_lt intake.last connection && worker_of connection intake.workers == intake.number
