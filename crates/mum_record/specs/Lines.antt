-- The lines of a text.
use Rattle.std.specs.Prelude.{◌≡◌, ℕ, ◌==◌, Bool, List, [], ◌∷◌, Option, Some, None}
use Rattle.std.specs.{List.slice_split, Borrow.Bor}

-- the byte that ends a line
abbrev pub is_line_feed : ℕ → Bool
is_line_feed byte = byte == 10

-- the first line of bytes and what follows its line feed, where one ends it
abbrev pub IsCut : List ℕ → Option (Bor (List ℕ) × Bor (List ℕ)) → Type 0
IsCut bytes None = slice_split is_line_feed bytes ≡ bytes ∷ []
IsCut bytes (Some (first, rest)) = slice_split is_line_feed bytes ≡ first.now ∷ slice_split is_line_feed rest.now
