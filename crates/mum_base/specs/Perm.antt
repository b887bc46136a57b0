-- Sets of permissions as numbers, a bit for each.
use Rattle.std.specs.Prelude.{◌≡◌, ℕ, bit_and}
use Rattle.std.specs.Int.{bit_not, w32}

-- every bit of the wanted set is held
abbrev pub Holds : ℕ → ℕ → Type 0
Holds held wanted = bit_and held wanted ≡ wanted

-- the bits that are held and not taken
abbrev pub without_bits : ℕ → ℕ → ℕ
without_bits held taken = bit_and held (bit_not w32 taken)
