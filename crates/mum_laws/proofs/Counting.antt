-- What steps add to a count that stays at its last value.
use Rattle.mum_laws.proofs.Common.{◌≡◌, ℕ, ◌+◌, ◌-◌, ◌≤◌, ◌^◌, min, List, [], ◌∷◌, length, refl, arith, length-append, Step, CoreState, gathered, ran, does, Totals}

pub counts_none : (old new : ℕ) → new ≡ old → old ≤ 2 ^ 64 - 1 → new ≡ min (old + 0) (2 ^ 64 - 1)
counts_none old new same low = omega (arith, same, low)

counts_both : (first second last now later all : ℕ) → second ≡ min (first + now) (2 ^ 64 - 1) → last ≡ min (second + later) (2 ^ 64 - 1) → all ≡ now + later
    → last ≡ min (first + all) (2 ^ 64 - 1)
counts_both first second last now later all a b c = omega (arith, a, b, c)

counts_low : (old new more : ℕ) → new ≡ min (old + more) (2 ^ 64 - 1) → new ≤ 2 ^ 64 - 1
counts_low old new more is = omega (arith, is)

-- what is counted from nothing on
pub counts_first : (last all : ℕ) → last ≡ min (0 + all) (2 ^ 64 - 1) → last ≡ min all (2 ^ 64 - 1)
counts_first last all is = omega (arith, is)

module _ {A : Type 0} (count : Totals → ℕ) (adds : CoreState → Step → List A) where
  -- a step counts what it adds
  abbrev pub CountsEach : Type 0
  CountsEach =
      (core : CoreState) (step : Step) → count core.totals ≤ 2 ^ 64 - 1
      → count (does core step).totals ≡ min (count core.totals + length (adds core step)) (2 ^ 64 - 1)

  -- and a run all that its steps add
  pub counts_all : CountsEach → (core : CoreState) (run : List Step) → count core.totals ≤ 2 ^ 64 - 1
      → count (ran core run).totals ≡ min (count core.totals + length (gathered adds core run)) (2 ^ 64 - 1)
  counts_all each core [] low = counts_none (count core.totals) (count core.totals) refl low
  counts_all each core (step ∷ run) low =
      let first = each core step low in
      let later = counts_all each (does core step) run (counts_low (count core.totals) (count (does core step).totals) (length (adds core step)) first) in
      counts_both (count core.totals) (count (does core step).totals) (count (ran core (step ∷ run)).totals) (length (adds core step))
      (length (gathered adds (does core step) run)) (length (gathered adds core (step ∷ run))) first later
      (length-append (adds core step) (gathered adds (does core step) run))
