-- Lines as words, and the numbers that words say.
use Rattle.std.specs.Prelude.{◌≡◌, ℕ, ◌-◌, ◌^◌, ◌<◌, ◌&&◌, ◌==◌, Bool, List, [], ◌∷◌, length, Option, Some, None, nat_le, nat_lt, option_and_then, if◌then◌else◌}
use Rattle.std.specs.{List.slice_split, List.join_with_byte, Fmt.decimal, Str.bytes_eq, Str.Parse.digits_value}
use Rattle.std.specs.Result.{result_ok}
use Rattle.hex.specs.Hex.{encode_lower, decode_of}
use Rattle.mum_record.specs.declared.{words.Words.Words, line.Word.Word}
use Rattle.mum_record.specs.declared.line.Word.TheVariants.{Name, Number, Digits}
use Rattle.mum_record.specs.declared.words.Words.TheVariants.{One, Two, Three, More}

-- the byte between words
abbrev pub is_space : ℕ → Bool
is_space byte = byte == 32

-- the words of a line, which are separated by one space
abbrev pub words_in : List ℕ → List (List ℕ)
words_in line = slice_split is_space line

-- the line of words
abbrev pub line_of_words : List (List ℕ) → List ℕ
line_of_words words = join_with_byte 32 words

-- the number from the least to the greatest that a word says, in decimal and without leading zeros
unfoldable pub number_within : ℕ → ℕ → List ℕ → Option ℕ
number_within least greatest word =
    let number = digits_value 10 word in
    if nat_le least number && nat_le number greatest && bytes_eq word (decimal number) then Some number else None

-- the connection or worker that a word says, which fits 32 bits
abbrev pub place_of : List ℕ → Option ℕ
place_of word = number_within 0 (2 ^ 32 - 1) word

-- the number of 64 bits that a word says
abbrev pub revision_of : List ℕ → Option ℕ
revision_of word = number_within 0 (2 ^ 64 - 1) word

-- the type, reason or context that a word says, which fits 8 bits
abbrev pub byte_of : List ℕ → Option ℕ
byte_of word = number_within 0 (2 ^ 8 - 1) word

-- the bytes whose digits a word is, at least one
unfoldable pub bytes_of : List ℕ → Option (List ℕ)
bytes_of word =
    option_and_then
    (λ bytes. if bytes_eq word (encode_lower bytes) && nat_lt 0 (length bytes) then Some bytes else None)
    (result_ok (decode_of word))

-- ---- in the code

-- the bytes of a word of a line
abbrev pub spelled_word : Word → List ℕ
spelled_word (Name name) = name.now
spelled_word (Number number) = decimal number
spelled_word (Digits bytes) = encode_lower bytes.now

-- a word of a line after a space
abbrev pub behind_space : Word → List ℕ
behind_space word = 32 ∷ spelled_word word

-- a word after a space
abbrev pub behind_word : List ℕ → List ℕ
behind_word word = 32 ∷ word

-- the words of what follows a space, if anything does
abbrev pub words_after : Option (List ℕ) → List (List ℕ)
words_after None = []
words_after (Some rest) = words_in rest

-- the words of a line, where they are three at most, or that there are more
abbrev pub AreWords : List (List ℕ) → Words → Type 0
AreWords words (One verb) = words ≡ verb.now ∷ []
AreWords words (Two verb name) = words ≡ verb.now ∷ name.now ∷ []
AreWords words (Three verb name word) = words ≡ verb.now ∷ name.now ∷ word.now ∷ []
AreWords words More = 3 < length words
