-- What a reader of lines is once the bytes that it gave are let go.
use mathlib.Core.Option.{none}
use Rattle.std.specs.Prelude.{⊤}
use Rattle.std.specs.Borrow.{follows_so, MutBor, Fml}
use Rattle.mum_lines.specs.{Lines.ReaderState, contracts.reader.LineReader.the_row}

-- P holds of it then
abbrev pub Leaves : MutBor ReaderState → (ReaderState → Type 0) → Fml
Leaves reader P = follows_so the_row the_row reader.ghost_name none (λ _ _. ⊤) P
