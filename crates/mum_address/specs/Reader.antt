-- A reader of headers.
use Rattle.std.specs.Prelude.{ℕ, ◌≤◌, List, [], ◌++◌, length}
use Rattle.mum_address.specs.Header.{Reading, reading, Reading.needs, Reading.whole, Reading.refused}

-- how many bytes may be read next
abbrev pub wanted : Reading → ℕ
wanted (needs count) = count
wanted (whole told) = 0
wanted refused = 0

-- these bytes came piece by piece, none of which was longer than what was wanted before it
pub data IsRead : List ℕ → Type 0 where
  nothing : IsRead []
  piece : (bytes next : List ℕ) → IsRead bytes → length next ≤ wanted (reading bytes) → IsRead (bytes ++ next)
