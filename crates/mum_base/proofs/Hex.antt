-- Bytes as a text of their digits, so that a worked fact reads like the document that it is from.
use Prim.Native.String.{String}
use Rattle.std.proofs.Common.{ℕ, ◌+◌, ◌-◌, ◌*◌, ◌==◌, not, List, [], ◌∷◌, nat_lt, codes, filter, if◌then◌else◌}

-- the value of a digit 0 to 9 or a to f
abbrev pub digit_value : ℕ → ℕ
digit_value digit = if nat_lt digit 97 then digit - 48 else digit - 87

-- the bytes of these digits, two for each
abbrev pub bytes_of_digits : List ℕ → List ℕ
bytes_of_digits [] = []
bytes_of_digits (digit ∷ []) = []
bytes_of_digits (high ∷ low ∷ digits) = (digit_value high * 16 + digit_value low) ∷ bytes_of_digits digits

-- `hex "80ff 01"` is the bytes 128, 255 and 1: spaces are for the reader
abbrev pub hex : String → List ℕ
hex text = bytes_of_digits (filter (λ letter. not (letter == 32)) (codes text))
