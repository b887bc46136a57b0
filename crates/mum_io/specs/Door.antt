-- What the calls on a door answer: the count that shows the cause of each answer, the address at which it is open, and
-- how many connections it gave.
use Rattle.std.specs.Prelude.{ℕ, ◌≡◌, List, Option, IfSome}
use Rattle.mum_io.specs.Counts.{Counts, CountsEnd, CountsFault, CountsStall, next_count}
use Rattle.mum_io.specs.declared.door.DoorOpen.{DoorOpen, TheVariants.Opened, TheVariants.Failed}
use Rattle.mum_io.specs.declared.door.Accept.{Accept}
use Rattle.mum_io.specs.declared.door.Accept.TheVariants as accepted

-- what is known of a door: what was counted, how many connections it gave, and the address at which it was opened, where
-- that is known
pub record DoorFacts : Type 0 where
  pub counts : Counts
  pub given : ℕ
  pub opened_at : Option (List ℕ)

-- an opening counts a fault exactly where it failed, and nothing else
abbrev pub OpenCounts : DoorOpen → Counts → Counts → Type 0
OpenCounts Opened old new = new ≡ old
OpenCounts Failed old new = CountsFault old new

-- the address of the door, where it is known, is the one at which it was opened, or as before
abbrev pub OpensAt : DoorOpen → Option (List ℕ) → Option (List ℕ) → List ℕ → Type 0
OpensAt Opened old new address = IfSome new (λ known. known ≡ address)
OpensAt Failed old new address = new ≡ old

-- an accept counts what it answers, and nothing else
abbrev pub AcceptCounts : {L : Type 0} → Accept L → Counts → Counts → Type 0
AcceptCounts (accepted.Conn link) old new = new ≡ old
AcceptCounts accepted.NotYet old new = CountsStall old new
AcceptCounts accepted.End old new = CountsEnd old new
AcceptCounts accepted.Failed old new = CountsFault old new

-- how many connections were given, after this answer: one more at a connection, and else as many as before
abbrev pub given_after : {L : Type 0} → Accept L → ℕ → ℕ
given_after (accepted.Conn link) given = next_count given
given_after accepted.NotYet given = given
given_after accepted.End given = given
given_after accepted.Failed given = given
