-- How the threads of a crew share its roles.
use Rattle.std.specs.Prelude.{◌≡◌, ℕ, ◌+◌, ◌-◌, ◌%◌, ◌<◌, ◌≤◌, max, nat_lt, Bool, true, false, Option, Some, if◌then◌else◌}
use Rattle.mum_crew.specs.Deal.{needed_threads, thread_at}
use Rattle.mum_link.specs.declared.shares.Shares.{Shares}

-- how many threads n roles after the workers have
abbrev pub later_threads : ℕ → ℕ
later_threads count = if nat_lt 0 count then 1 else 0

-- where there is a thread for the owner, one for workers, and one for the roles after them, if there are any, somebody shares
-- the workers, and the threads are enough for all roles
abbrev pub IsEnough : ℕ → ℕ → ℕ → ℕ → ℕ → Type 0
IsEnough threads later workers spread roles =
    2 + later_threads later ≤ threads → (0 < spread) × (needed_threads spread workers roles ≤ threads)

-- the place of its worker among all roles, whose first is the owner: connections are numbered from 1, and the workers have them
-- in turn
abbrev pub worker_of : Shares → ℕ → ℕ
worker_of shares connection = (connection - 1) % max shares.workers 1 + 1

-- the thread of the link of a connection is that to which the crew deals its worker
abbrev pub thread_of_link : Shares → ℕ → ℕ
thread_of_link shares connection = thread_at shares.spread shares.workers (worker_of shares connection)

-- a socket is watched by the thread of its worker, where the links of a door are shared out, and else by this one
abbrev pub IsWatched : Bool → ℕ → ℕ → Option ℕ → Type 0
IsWatched true thread connection watched = (shares : Shares) × (watched ≡ Some (thread_of_link shares connection))
IsWatched false thread connection watched = watched ≡ Some thread
