-- What the parts of a reader of lines do. No public clause cites this module.
use Rattle.std.specs.Prelude.{◌≡◌, ℕ, ◌<◌, ◌≤◌, List, [], ◌++◌, length, position, slice_range, Option, Some}
use Rattle.mum_io.specs.Outside.{Consumes, IsAtEnd, Keeps, Rose}
use Rattle.mum_io.specs.declared.source.ReadEnd.{ReadEnd}
use Rattle.mum_record.specs.Lines.{is_line_feed}
use Rattle.mum_lines.specs.declared.{buffer.Buffer.Buffer, reader.LineEnd.LineEnd, reader.Sought.Sought}
use Rattle.mum_lines.specs.declared.reader.Sought.TheVariants.{LineFeed, End, TooLong, Failed}
use Rattle.mum_lines.specs.Lines.{IsExhausted, IsTooLong, IsUnended}
use Rattle.mum_io.specs.declared.source.ReadEnd.TheVariants as reads
use Rattle.mum_lines.specs.declared.reader.LineEnd.TheVariants as ends

-- the bytes that were read and are not given yet
abbrev pub kept_in : Buffer → List ℕ
kept_in buffer = slice_range buffer.bytes.items buffer.start buffer.end

-- one read appends what it got
abbrev pub ReadKeeps : ReadEnd → List ℕ → List ℕ → Option (List ℕ) → Option (List ℕ) → Type 0
ReadKeeps (reads.Got n) old new left left_after =
    (more : List ℕ) × (1 ≤ length more) × (new ≡ old ++ more) × Consumes left left_after more
ReadKeeps reads.End old new left left_after = (new ≡ old) × IsAtEnd left × Keeps left left_after
ReadKeeps reads.Failed old new left left_after = (new ≡ old) × Keeps left left_after

-- several reads append what they got
pub record ReadOn (old new : List ℕ) (left left_after : Option (List ℕ)) : Type 0 where
  pub taken : List ℕ
  pub consumed : Consumes left left_after taken
  pub kept : new ≡ old ++ taken

-- and they end at a line feed, or where no more is to be read
abbrev pub Seeks : Sought → ℕ → List ℕ → List ℕ → Option (List ℕ) → Option (List ℕ) → Type 0
Seeks (LineFeed at) room old new left left_after =
    ReadOn old new left left_after × (position is_line_feed new ≡ Some at) × (at < room)
Seeks End room old new left left_after =
    ReadOn old new left left_after × IsUnended new room × IsExhausted left left_after
Seeks TooLong room old new left left_after = ReadOn old new left left_after × IsTooLong room new
Seeks Failed room old new left left_after = ReadOn old new left left_after × IsUnended new room

-- a failed read is counted, and nothing else
abbrev pub CountsSought : Sought → ℕ → ℕ → Type 0
CountsSought Failed old new = Rose old new
CountsSought others old new = new ≡ old

-- the end of an input after bytes that no line feed ends
abbrev pub Ended : List ℕ → LineEnd → Type 0
Ended rest ends.End = rest ≡ []
Ended rest (ends.Rest bytes) = (bytes.now ≡ rest) × (rest ≡ [] → ⊥)
Ended rest others = ⊥
