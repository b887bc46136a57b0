-- The recording ends.
use Rattle.std.specs.Prelude.{ℕ, List, [], ◌∷◌, codes, decimal}
use Rattle.mum_core.specs.declared.machine.Totals.{Totals}
use Rattle.mum_core.specs.{Case.Case, Core.CoreState}

abbrev pub forbids : List Case
forbids = []

abbrev pub does : CoreState → CoreState
does core = core

abbrev pub totals_words : Totals → List (List ℕ)
totals_words t =
    codes "totals" ∷ codes "looks" ∷ decimal t.looks ∷ codes "copies" ∷ decimal t.copies ∷ codes "full" ∷ decimal t.full ∷ codes "stale" ∷ decimal t.stale ∷ []

abbrev pub lines : CoreState → List (List (List ℕ))
lines core = totals_words core.totals ∷ []
