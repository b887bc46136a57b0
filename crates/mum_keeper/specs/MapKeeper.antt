-- A keeper in memory: what it has, and what its calls leave.
use Rattle.std.specs.Prelude.{ℕ, List, [], Option, Some, None}
use Rattle.mum_io.specs.{Calls.CallNumbers, Calls.after_call, Calls.before_calls, Counts.next_count}
use Rattle.mum_kept.specs.declared.rows.KeptRows.{KeptRows}
use Rattle.mum_keeper.specs.{Changes.all_made, Keeping.KeeperFacts}
use Rattle.mum_keeper.specs.declared.{change.Change.Change, keeper.KeepEnd.KeepEnd, keeper.Loaded.Loaded}
use Rattle.mum_keeper.specs.declared.keeper.KeepEnd.TheVariants as ends
use Rattle.mum_keeper.specs.declared.keeper.Loaded.TheVariants as loaded

pub record KeeperState : Type 0 where
  pub rows : KeptRows
  pub calls : CallNumbers
  pub faults : ℕ
  -- the path at which it was opened last
  pub opened_at : Option (List ℕ)

abbrev pub no_rows : KeptRows
no_rows = record { channels = []; links = [] }

-- it has no rows, and was not opened; the calls with these numbers fail
abbrev pub new_keeper : List ℕ → KeeperState
new_keeper failing = record { rows = no_rows; calls = before_calls failing; faults = 0; opened_at = None }

-- all of it is known but its calls, of which it keeps the number alone
abbrev pub facts_of : KeeperState → KeeperFacts
facts_of keeper = record { faults = keeper.faults; rows = Some keeper.rows; opened_at = keeper.opened_at; calls = None }

abbrev pub called : KeeperState → KeeperState
called keeper = record keeper { calls = after_call keeper.calls }

abbrev pub failed : KeeperState → KeeperState
failed keeper = record keeper { calls = after_call keeper.calls; faults = next_count keeper.faults }

abbrev pub after_open : KeeperState → List ℕ → KeepEnd → KeeperState
after_open keeper path ends.Kept = record keeper { calls = after_call keeper.calls; opened_at = Some path }
after_open keeper path ends.Failed = failed keeper
after_open keeper path ends.NoMemory = called keeper

abbrev pub after_load : KeeperState → Loaded → KeeperState
after_load keeper (loaded.Rows rows) = called keeper
after_load keeper loaded.Failed = failed keeper
after_load keeper loaded.NoMemory = called keeper

abbrev pub after_keep : KeeperState → List Change → KeepEnd → KeeperState
after_keep keeper changes ends.Kept =
    record keeper { calls = after_call keeper.calls; rows = all_made changes keeper.rows }
after_keep keeper changes ends.Failed = failed keeper
after_keep keeper changes ends.NoMemory = called keeper
