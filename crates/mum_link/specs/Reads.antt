-- Reading on, of a connection that waits for its header.
use Rattle.std.specs.Prelude.{◌≡◌, ◌++◌, ℕ, List, Option}
use Rattle.std.specs.Io.KnownBytes.{Consumes}

-- its reader has these bytes more, and no others were taken from its socket
abbrev pub ReadsOn : List ℕ → List ℕ → Option (List ℕ) → Option (List ℕ) → Type 0
ReadsOn reader after left rest = (bytes : List ℕ) × (after ≡ reader ++ bytes) × Consumes left rest bytes
