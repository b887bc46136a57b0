-- The bytes that a wire took to be sent.
use Rattle.std.specs.Prelude.{ℕ, List, Option}
use Rattle.std.specs.Io.KnownBytes.{append_known}

-- those that its socket has, and then those that are kept back
abbrev pub taken : Option (List ℕ) → List ℕ → Option (List ℕ)
taken written kept = append_known written kept
