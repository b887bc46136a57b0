-- What a varint stands for in a field of a smaller type (Protocol Buffers, "Encoding").
use Rattle.std.specs.Prelude.{ℕ, ◌%◌, ◌^◌, ◌==◌, Bool, true, false, not, ℤ}
use Rattle.std.specs.Int.{w32, w64, cast_signed, cast_unsigned}

-- the low 32 bits
abbrev pub low_32 : ℕ → ℕ
low_32 n = n % 2 ^ 32

-- the low 32 bits as two's complement
abbrev pub signed_32 : ℕ → ℤ
signed_32 n = cast_signed w32 (n % 2 ^ 32)

-- true where it is not 0
abbrev pub truth : ℕ → Bool
truth n = not (n == 0)

-- two's complement in 64 bits, so that a negative number takes ten bytes
abbrev pub extended : ℤ → ℕ
extended n = cast_unsigned w64 n

abbrev pub truth_number : Bool → ℕ
truth_number true = 1
truth_number false = 0
