-- A connection begins at a worker.
use Rattle.std.specs.Prelude.{ℕ, ◌+◌, ◌==◌, not, List, [], ◌∷◌, ◌++◌, length, codes, decimal}
use Rattle.mum_core.specs.{Case.Case, Case.no_worker, Connection.fresh, Core.CoreState}

abbrev pub forbids : CoreState → ℕ → ℕ → List Case
forbids core c w =
    record { stands = not (c == length core.connections + 1); given = c; against = length core.connections + 1 }
    ∷ no_worker core w
    ∷ []

abbrev pub does : CoreState → ℕ → CoreState
does core w = record core { connections = core.connections ++ fresh w ∷ [] }

abbrev pub lines : ℕ → ℕ → List (List (List ℕ))
lines c w = (codes "opened" ∷ decimal c ∷ decimal w ∷ []) ∷ []
