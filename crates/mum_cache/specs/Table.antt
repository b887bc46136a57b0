-- A table of which a beginning is written.
use Rattle.std.specs.Prelude.{ℕ, ◌-◌, ◌++◌, List, length, replicate}

-- what is written, and after it, up to the room, this value
unfoldable pub padded : {X : Type 0} → ℕ → X → List X → List X
padded room blank written = written ++ replicate (room - length written) blank
