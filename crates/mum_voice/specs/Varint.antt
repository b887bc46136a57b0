-- Which bytes encode which 64-bit word: the section "Variable length integer encoding" of the Mumble
-- protocol documentation, a rule for each row of its table.
use Rattle.std.specs.Prelude.{ℕ, ◌≡◌, ◌%◌, zero, suc, ◌+◌, ◌-◌, ◌*◌, ◌^◌, ◌<◌, ◌≤◌, List, [], ◌∷◌, length, take, drop, Option, Some, None, nat_lt, if◌then◌else◌}
use Rattle.std.specs.Option.{option_map}
use Rattle.std.specs.Int.{w16, w32, w64, to_be_bytes, bit_not}

-- exactly this many bytes
abbrev pub AreSoManyBytes : ℕ → List ℕ → Type 0
AreSoManyBytes zero [] = Unit {0}
AreSoManyBytes zero (b ∷ bytes) = ⊥
AreSoManyBytes (suc count) [] = ⊥
AreSoManyBytes (suc count) (b ∷ bytes) = (b < 2 ^ 8) × AreSoManyBytes count bytes

-- the number that these bytes are, the highest first
abbrev pub big_endian : List ℕ → ℕ
big_endian [] = 0
big_endian (b ∷ bytes) = b * 2 ^ (8 * length bytes) + big_endian bytes

-- the bitwise inverse of a 64-bit word, so that of 4 stands for -5
abbrev pub inverse : ℕ → ℕ
inverse word = bit_not w64 word

-- The six rows of positive numbers. The free bits x of the first byte are the number's highest, or ignored.
pub data SpellsNumber : List ℕ → ℕ → Type 0 where
  -- 0xxxxxxx
  bits_7 : (x : ℕ) → x < 2 ^ 7 → SpellsNumber (x ∷ []) x
  -- 10xxxxxx and 1 byte
  bits_14 : (x : ℕ) (more : List ℕ) → x < 2 ^ 6 → AreSoManyBytes 1 more
      → SpellsNumber ((0x80 + x) ∷ more) (x * 2 ^ 8 + big_endian more)
  -- 110xxxxx and 2 bytes
  bits_21 : (x : ℕ) (more : List ℕ) → x < 2 ^ 5 → AreSoManyBytes 2 more
      → SpellsNumber ((0xC0 + x) ∷ more) (x * 2 ^ 16 + big_endian more)
  -- 1110xxxx and 3 bytes
  bits_28 : (x : ℕ) (more : List ℕ) → x < 2 ^ 4 → AreSoManyBytes 3 more
      → SpellsNumber ((0xE0 + x) ∷ more) (x * 2 ^ 24 + big_endian more)
  -- 111100xx and 4 bytes
  bits_32 : (x : ℕ) (more : List ℕ) → x < 2 ^ 2 → AreSoManyBytes 4 more
      → SpellsNumber ((0xF0 + x) ∷ more) (big_endian more)
  -- 111101xx and 8 bytes
  bits_64 : (x : ℕ) (more : List ℕ) → x < 2 ^ 2 → AreSoManyBytes 8 more
      → SpellsNumber ((0xF4 + x) ∷ more) (big_endian more)

-- All eight rows. What is inverted is a positive number, and no inverse again.
pub data SpellsWord : List ℕ → ℕ → Type 0 where
  positive : (bytes : List ℕ) (number : ℕ) → SpellsNumber bytes number → SpellsWord bytes number
  -- 111110xx and a positive number
  inverted : (x : ℕ) (bytes : List ℕ) (number : ℕ) → x < 2 ^ 2 → SpellsNumber bytes number
      → SpellsWord ((0xF8 + x) ∷ bytes) (inverse number)
  -- 111111nn
  inverted_small : (n : ℕ) → n < 2 ^ 2 → SpellsWord ((0xFC + n) ∷ []) (inverse n)

-- the bits that a reader ignores in the encoding of a positive number are 0
abbrev pub IsClearNumber : List ℕ → Type 0
IsClearNumber [] = Unit {0}
IsClearNumber (first ∷ bytes) = 0xF0 ≤ first → first % 2 ^ 2 ≡ 0

-- the same of any encoding: its own ignored bits, and those of the number that it inverts
abbrev pub IsClear : List ℕ → Type 0
IsClear [] = Unit {0}
IsClear (first ∷ bytes) =
    (0xF0 ≤ first → first < 0xFC → first % 2 ^ 2 ≡ 0) × (0xF8 ≤ first → IsClearNumber bytes)

-- the first len of the bytes encode the word
pub record BeginsWith (bytes : List ℕ) (word len : ℕ) : Type 0 where
  pub within : len ≤ length bytes
  pub spelled : SpellsWord (take len bytes) word

-- no encoding begins the bytes
abbrev pub BeginsWithNone : List ℕ → Type 0
BeginsWithNone bytes = (word len : ℕ) → BeginsWith bytes word len → ⊥

-- ---- reading, as a function: the word that begins the bytes, and how many of them encode it

-- the number of these high bits and n bytes, where they are there
abbrev pub row_number : ℕ → ℕ → List ℕ → Option (ℕ × ℕ)
row_number high count bytes =
    if nat_lt (length bytes) count then None
    else Some (high * 2 ^ (8 * count) + big_endian (take count bytes), count + 1)

-- the positive number of this first byte and the bytes after it
abbrev pub number_by : ℕ → List ℕ → Option (ℕ × ℕ)
number_by first bytes =
    if nat_lt first 0x80 then row_number first 0 bytes
    else if nat_lt first 0xC0 then row_number (first - 0x80) 1 bytes
    else if nat_lt first 0xE0 then row_number (first - 0xC0) 2 bytes
    else if nat_lt first 0xF0 then row_number (first - 0xE0) 3 bytes
    else if nat_lt first 0xF4 then row_number 0 4 bytes
    else if nat_lt first 0xF8 then row_number 0 8 bytes
    else None

unfoldable pub number_at : List ℕ → Option (ℕ × ℕ)
number_at [] = None
number_at (first ∷ bytes) = number_by first bytes

unfoldable pub word_at : List ℕ → Option (ℕ × ℕ)
word_at [] = None
word_at (first ∷ bytes) =
    if nat_lt first 0xF8 then number_by first bytes
    else if nat_lt first 0xFC then option_map (λ number. (inverse number.0, number.1 + 1)) (number_at bytes)
    else Some (inverse (first - 0xFC), 1)

-- ---- writing: the shortest encoding, with its ignored bits 0

unfoldable pub shortest_number : ℕ → List ℕ
shortest_number number =
    if nat_lt number (2 ^ 7) then number ∷ []
    else if nat_lt number (2 ^ 14) then to_be_bytes w16 (0x8000 + number)
    else if nat_lt number (2 ^ 21) then drop 1 (to_be_bytes w32 (0xC00000 + number))
    else if nat_lt number (2 ^ 28) then to_be_bytes w32 (0xE0000000 + number)
    else if nat_lt number (2 ^ 32) then 0xF0 ∷ to_be_bytes w32 number
    else 0xF4 ∷ to_be_bytes w64 number

-- A word below 2 ^ 32 takes at most five bytes as it is. Above that its number takes nine, and its
-- inverse is shorter exactly where that is below 2 ^ 32.
unfoldable pub shortest_word : ℕ → List ℕ
shortest_word word =
    if nat_lt (inverse word) (2 ^ 2) then (0xFC + inverse word) ∷ []
    else if nat_lt (inverse word) (2 ^ 32) then 0xF8 ∷ shortest_number (inverse word)
    else shortest_number word
