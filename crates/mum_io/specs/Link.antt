-- What the calls on a link answer: the count that shows the cause of each answer, and the bytes that went over it.
use Rattle.std.specs.Prelude.{ℕ, ◌≡◌, ◌≤◌, Bool, List, length, take, Option}
use Rattle.mum_io.specs.Counts.{Counts, CountsEnd, CountsFault, CountsStall}
use Rattle.mum_io.specs.declared.link.{PollRead.PollRead, PollWrite.PollWrite}
use Rattle.mum_io.specs.declared.link.PollRead.TheVariants.{Got, End, NotYet, Failed}
use Rattle.mum_io.specs.declared.link.PollWrite.TheVariants as written
pub use Rattle.std.specs.Io.KnownBytes.{Appends, Consumes, IsAtEnd, Keeps}

-- what is known of a link: what was counted, the bytes that are left to be read and those that were written, where they are
-- known (once known, they stay known), the address of its peer as the sixteen bytes of IPv6, and whether it was shut
pub record LinkFacts : Type 0 where
  pub counts : Counts
  pub left : Option (List ℕ)
  pub written : Option (List ℕ)
  pub address : List ℕ
  pub is_shut : Bool

-- a read counts what it answers, and nothing else
abbrev pub PollReadCounts : PollRead → Counts → Counts → Type 0
PollReadCounts (Got n) old new = new ≡ old
PollReadCounts End old new = CountsEnd old new
PollReadCounts NotYet old new = CountsStall old new
PollReadCounts Failed old new = CountsFault old new

-- so does a write
abbrev pub PollWriteCounts : PollWrite → Counts → Counts → Type 0
PollWriteCounts (written.Took n) old new = new ≡ old
PollWriteCounts written.NotYet old new = CountsStall old new
PollWriteCounts written.Failed old new = CountsFault old new

-- what a read into a slice, which it leaves as buf, did to the bytes that are left
abbrev pub PollReadLeaves : PollRead → Option (List ℕ) → Option (List ℕ) → List ℕ → Type 0
PollReadLeaves (Got n) old new buf = (1 ≤ n) × (n ≤ length buf) × Consumes old new (take n buf)
PollReadLeaves End old new buf = IsAtEnd old × Keeps old new
PollReadLeaves NotYet old new buf = Keeps old new
PollReadLeaves Failed old new buf = Keeps old new

-- what a write of a piece did to the bytes that were written
abbrev pub PollWriteLeaves : PollWrite → Option (List ℕ) → Option (List ℕ) → List ℕ → Type 0
PollWriteLeaves (written.Took n) old new piece = (1 ≤ n) × (n ≤ length piece) × Appends old new (take n piece)
PollWriteLeaves written.NotYet old new piece = Keeps old new
PollWriteLeaves written.Failed old new piece = Keeps old new
