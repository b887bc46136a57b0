-- The lines of an input that is read in pieces: what is kept of it, and what is given.
use Rattle.std.specs.Prelude.{◌≡◌, ℕ, ◌+◌, ◌<◌, ◌≤◌, ◌⊎◌, min, List, [], ◌∷◌, ◌++◌, length, position, Option, None, IfSome}
use Rattle.std.specs.List.{position_or_len}
use Rattle.mum_io.specs.Outside.{Consumes, IsAtEnd, Rose}
use Rattle.mum_record.specs.Lines.{is_line_feed}
use Rattle.mum_record.specs.declared.split.TheConstants.{INPUT_LIMIT, LINE_LIMIT}
use Rattle.mum_lines.specs.declared.reader.LineEnd.{LineEnd}
use Rattle.mum_lines.specs.declared.reader.LineEnd.TheVariants.{Line, End, Rest, TooLong, Failed}

-- ---- a line in bytes

-- no byte is a line feed
abbrev pub HasNoLineFeed : List ℕ → Type 0
HasNoLineFeed bytes = position is_line_feed bytes ≡ None

-- how many bytes come before the first line feed, or all of them where there is none
abbrev pub line_length : List ℕ → ℕ
line_length bytes = position_or_len is_line_feed bytes

-- how many bytes of the first line there are, its line feed counted
abbrev pub begun : List ℕ → ℕ
begun bytes = min (line_length bytes + 1) (length bytes)

-- the first line is above the greatest length, or the input, which may have n bytes, passes that in it
abbrev pub IsTooLong : ℕ → List ℕ → Type 0
IsTooLong room bytes = (LINE_LIMIT < line_length bytes) ⊎ (room < begun bytes)

-- ---- a reader

-- the bytes that were read and are not given yet, how many bytes the input may have from these on, and how many bytes the
-- buffer has
pub record ReaderState : Type 0 where
  pub kept : List ℕ
  pub room : ℕ
  pub buffer : ℕ

-- before the first line; the buffer has room for the longest line and its line feed
abbrev pub at_start : ReaderState
at_start = record { kept = []; room = INPUT_LIMIT; buffer = LINE_LIMIT + 1 }

-- a line of which this much was read has not ended, and is not too long yet for an input that may have n bytes
pub record IsUnended (line : List ℕ) (room : ℕ) : Type 0 where
  pub unended : HasNoLineFeed line
  pub short : length line ≤ LINE_LIMIT
  pub within : length line ≤ room

-- the line that is kept is such a line
abbrev pub IsOpen : ReaderState → Type 0
IsOpen reader = IsUnended reader.kept reader.room

-- bytes were read, and none was given
pub record Reads (old new : ReaderState) (left left_after : Option (List ℕ)) : Type 0 where
  pub taken : List ℕ
  pub consumed : Consumes left left_after taken
  pub kept : new.kept ≡ old.kept ++ taken
  pub room : new.room ≡ old.room
  pub buffer : new.buffer ≡ old.buffer

-- bytes were read, and a line was given: what was kept and what was read are the line, its line feed and what is kept
pub record Parts (line : List ℕ) (old new : ReaderState) (left left_after : Option (List ℕ)) : Type 0 where
  pub taken : List ℕ
  pub consumed : Consumes left left_after taken
  pub parts : old.kept ++ taken ≡ line ++ 10 ∷ new.kept
  pub one_line : HasNoLineFeed line
  pub short : length line ≤ LINE_LIMIT
  pub room : old.room ≡ length line + 1 + new.room
  pub buffer : new.buffer ≡ old.buffer

-- of a source that reported its bytes none is left
abbrev pub IsExhausted : Option (List ℕ) → Option (List ℕ) → Type 0
IsExhausted left left_after = IfSome left (λ bytes. IsAtEnd left_after)

-- what the next line is. The end is seen where the source is at its end, and a read that failed left a line that may
-- still go on
abbrev pub GivesLine : LineEnd → ReaderState → ReaderState → Option (List ℕ) → Option (List ℕ) → Type 0
GivesLine (Line line) old new left left_after = Parts line.now old new left left_after
GivesLine End old new left left_after = Reads old new left left_after × (new.kept ≡ []) × IsExhausted left left_after
GivesLine (Rest rest) old new left left_after =
    Reads old new left left_after × IsOpen new × (rest.now ≡ new.kept) × (rest.now ≡ [] → ⊥)
    × IsExhausted left left_after
GivesLine TooLong old new left left_after = Reads old new left left_after × IsTooLong new.room new.kept
GivesLine Failed old new left left_after = Reads old new left left_after × IsOpen new

-- a read that failed is reported as one, and no other answer hides one
abbrev pub CountsLine : LineEnd → ℕ → ℕ → Type 0
CountsLine Failed old new = Rose old new
CountsLine others old new = new ≡ old
