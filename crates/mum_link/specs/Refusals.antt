-- Writes that take nothing.
use Rattle.std.specs.Prelude.{◌≡◌, ℕ, ◌<◌, ◌⊎◌, List, [], Result, Ok, Err}
use Rattle.mum_io.specs.Counts.{Rose}

-- such a write is counted, and no other
abbrev pub CountsRefusal : {E : Type 0} → Result ℕ E → ℕ → ℕ → Type 0
CountsRefusal (Ok count) old new = (0 < count → new ≡ old) × (count ≡ 0 → Rose old new)
CountsRefusal (Err error) old new = Rose old new

-- all that was kept is sent, or a write of it took nothing
abbrev pub IsSentOrRefused : List ℕ → ℕ → ℕ → Type 0
IsSentOrRefused kept old new = (kept ≡ []) ⊎ Rose old new
