-- What comes in from the outside and what goes out to it, where it is reported, and what counts of faults say.
use Rattle.std.specs.Prelude.{ℕ, ◌≡◌, ◌<◌, ◌≤◌, ◌⊎◌, List, ◌++◌, length, take, Option, Result, Ok, Err}
use Rattle.mum_io.specs.declared.source.ReadEnd.{ReadEnd, TheVariants.Got, TheVariants.End, TheVariants.Failed}
use Rattle.mum_io.specs.declared.sink.WriteEnd.{WriteEnd, TheVariants.Took, TheVariants.Failed as WriteFailed}
use Rattle.mum_io.specs.declared.whole.ReadFault.{ReadFault, TheVariants.Failed as ReadFailed, TheVariants.OutOfMemory}
use Rattle.mum_io.specs.declared.whole.WriteFault.{WriteFault}
pub use Rattle.mum_io.specs.Counts.{Rose}
pub use Rattle.std.specs.Io.KnownBytes.{Appends, Consumes, IsAtEnd, Keeps}

-- what a read says of the count of faults: it rose where the read failed, and else stayed
abbrev pub ReadCounts : ReadEnd → ℕ → ℕ → Type 0
ReadCounts (Got n) old new = new ≡ old
ReadCounts End old new = new ≡ old
ReadCounts Failed old new = Rose old new

-- the same of a write
abbrev pub WriteCounts : WriteEnd → ℕ → ℕ → Type 0
WriteCounts (Took n) old new = new ≡ old
WriteCounts WriteFailed old new = Rose old new

-- the same of reads until an answer: a failed read is reported as one, and no other answer hides one
abbrev pub ReadsCount : {A : Type 0} → Result A ReadFault → ℕ → ℕ → Type 0
ReadsCount (Ok bytes) old new = new ≡ old
ReadsCount (Err ReadFailed) old new = Rose old new
ReadsCount (Err OutOfMemory) old new = new ≡ old

-- the same of writes until all is written
abbrev pub WritesCount : {A : Type 0} → Result A WriteFault → ℕ → ℕ → Type 0
WritesCount (Ok done) old new = new ≡ old
WritesCount (Err fault) old new = Rose old new

-- what a read into a slice, which it leaves as buf, did to the bytes that are left
abbrev pub ReadLeaves : ReadEnd → Option (List ℕ) → Option (List ℕ) → List ℕ → Type 0
ReadLeaves (Got n) old new buf = (1 ≤ n) × (n ≤ length buf) × Consumes old new (take n buf)
ReadLeaves End old new buf = IsAtEnd old × Keeps old new
ReadLeaves Failed old new buf = Keeps old new

-- what a write of a piece did to the bytes that were written
abbrev pub WriteLeaves : WriteEnd → Option (List ℕ) → Option (List ℕ) → List ℕ → Type 0
WriteLeaves (Took n) old new piece = (1 ≤ n) × (n ≤ length piece) × Appends old new (take n piece)
WriteLeaves WriteFailed old new piece = Keeps old new

-- some front of the bytes was written
abbrev pub AppendsFront : Option (List ℕ) → Option (List ℕ) → List ℕ → Type 0
AppendsFront old new bytes = (n : ℕ) × (n ≤ length bytes) × Appends old new (take n bytes)

-- some front of the bytes that were left was taken
abbrev pub ConsumesFront : Option (List ℕ) → Option (List ℕ) → Type 0
ConsumesFront old new = (taken : List ℕ) × Consumes old new taken

-- the bytes that were read of those that were left: all, or a front of them longer than the limit
abbrev pub IsAllOrLonger : ℕ → List ℕ → List ℕ → Type 0
IsAllOrLonger limit left bytes =
    (bytes ≡ left) ⊎ ((rest : List ℕ) × (left ≡ bytes ++ rest) × (limit < length bytes))
