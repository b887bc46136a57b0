-- All accepted edits are published.
use Rattle.std.specs.Prelude.{ℕ, List, [], ◌∷◌, length, codes, decimal}
use Rattle.mum_core.specs.{Case.Case, Core.CoreState}

abbrev pub forbids : List Case
forbids = []

abbrev pub does : CoreState → CoreState
does core = record core { published = length core.accepted }

abbrev pub lines : CoreState → List (List (List ℕ))
lines core = (codes "published" ∷ decimal (length core.accepted) ∷ []) ∷ []
