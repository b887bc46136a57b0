-- What reading a line, or a word of it, answers.
use Rattle.std.specs.Prelude.{◌≡◌, ℕ, ◌<◌, ◌≤◌, ◌&&◌, Bool, not, List, length, slice_index, Option, Some, None, IsSome, Result, Ok, Err}
use Rattle.std.specs.Char.{is_ascii_hexdigit, is_ascii_uppercase}
use Rattle.hex.specs.Hex.{encode_lower, IsBytes}
use Rattle.mum_frame.specs.Frame.{is_one_frame}
use Rattle.mum_record.specs.declared.step.LineFault.{LineFault, TheVariants.NotALine, TheVariants.OutOfMemory}

-- the value that was to be read, or none where there is none; memory runs out only where there is one
abbrev pub Reads : {X : Type 0} → Result X LineFault → Option X → Type 0
Reads (Ok value) read = read ≡ Some value
Reads (Err NotALine) read = read ≡ None
Reads (Err OutOfMemory) read = IsSome read

-- a digit 0 to 9 or a to f
abbrev pub is_lower_digit : ℕ → Bool
is_lower_digit letter = is_ascii_hexdigit letter && not (is_ascii_uppercase letter)

-- whether bytes are one frame, where the word is their digits
abbrev pub TestsFrame : List ℕ → Bool → Type 0
TestsFrame word tested = (bytes : List ℕ) → IsBytes bytes → word ≡ encode_lower bytes → tested ≡ is_one_frame bytes

-- the first letter is a digit, and a zero only where it is alone
abbrev pub BeginsPlainly : List ℕ → Type 0
BeginsPlainly word =
    (0 < length word) × (48 ≤ slice_index word 0) × (slice_index word 0 ≤ 57)
    × (slice_index word 0 ≡ 48 → length word ≡ 1)
