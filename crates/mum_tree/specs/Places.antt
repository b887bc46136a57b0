-- The places of channels.
use Rattle.std.specs.Prelude.{◌≢◌, ℕ, zero, suc, ◌+◌, ◌<◌, ◌==◌, Bool, List, length, if◌then◌else◌}
use Rattle.std.specs.List.{list_any, All}
use Rattle.mum_tree.specs.declared.channel.Row.{Row}

-- a row has the place
abbrev pub has_place : List Row → ℕ → Bool
has_place rows place = list_any (λ row. row.place == place) rows

-- the first of the next n places, from this one on, that no row has
unfoldable pub first_place : List Row → ℕ → ℕ → ℕ
first_place rows zero place = place
first_place rows (suc more) place = if has_place rows place then first_place rows more (place + 1) else place

-- the least place that no row has; n rows leave one of n + 1 places free
abbrev pub least_place : List Row → ℕ
least_place rows = first_place rows (length rows) 0

-- no row has the place
abbrev pub IsFree : List Row → ℕ → Type 0
IsFree rows place = All (λ row. row.place ≢ place) rows

-- no row has the place, and each lower one is had
abbrev pub IsLeastFree : List Row → ℕ → Type 0
IsLeastFree rows place = IsFree rows place × ((lower : ℕ) → lower < place → IsFree rows lower → ⊥)
