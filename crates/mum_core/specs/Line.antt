-- A line of the transcript as its words, without its line feed.
use Rattle.std.specs.Prelude.{ℕ, List, ◌∷◌, [], ◌++◌, map, codes, decimal}
use Rattle.std.specs.List.{flat_map, join_with_byte}
use Rattle.hex.specs.Hex.{encode_lower}
use Rattle.mum_record.specs.Words.{line_of_words}

-- the text of lines, separated by line feeds
abbrev pub joined : List (List (List ℕ)) → List ℕ
joined lines = join_with_byte 10 (map line_of_words lines)

-- the same, each ended by a line feed
abbrev pub text_of : List (List (List ℕ)) → List ℕ
text_of lines = flat_map (λ words. line_of_words words ++ 10 ∷ []) lines

-- words of a connection, whose number comes after the first of them
abbrev pub said_of : ℕ → List (List ℕ) → List (List ℕ)
said_of c [] = []
said_of c (word ∷ words) = word ∷ decimal c ∷ words

-- the bytes of a frame on the wire to a connection
abbrev pub wire_words : ℕ → List ℕ → List (List ℕ)
wire_words c bytes = codes "wire" ∷ decimal c ∷ encode_lower bytes ∷ []
