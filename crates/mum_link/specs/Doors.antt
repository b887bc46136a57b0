-- What a door over a listener is opened at, and what it gives.
use Rattle.std.specs.Prelude.{◌≡◌, ℕ, Bool, true, false, List, Option, Some, None}
use Rattle.mum_address.specs.Address.{SaysHeaders}
use Rattle.mum_io.specs.declared.door.{Accept.Accept, DoorOpen.DoorOpen}
use Rattle.mum_io.specs.declared.door.DoorOpen.TheVariants.{Opened, Failed}
use Rattle.mum_io.specs.declared.door.Accept.TheVariants as accepted

-- it listens at this address from now on, or at the one before
abbrev pub ListensAt : Bool → Option (List ℕ) → Option (List ℕ) → List ℕ → Type 0
ListensAt true old new address = new ≡ Some address
ListensAt false old new address = new ≡ old

-- it is open at this address, or, if the opening failed, as before
abbrev pub IsOpenAt : DoorOpen → Option (List ℕ) → Option (List ℕ) → List ℕ → Type 0
IsOpenAt Opened old new address = new ≡ Some address
IsOpenAt Failed old new address = new ≡ old

-- where it is open from now on, connections begin with headers as this address says; else nothing has changed
abbrev pub BeginsAt : Bool → Bool → Bool → List ℕ → Type 0
BeginsAt true old new address = SaysHeaders address new
BeginsAt false old new address = new ≡ old

abbrev pub BeginsWhereOpen : DoorOpen → Bool → Bool → List ℕ → Type 0
BeginsWhereOpen Opened old new address = SaysHeaders address new
BeginsWhereOpen Failed old new address = new ≡ old

-- the answer gives no link, or one of which this is true
abbrev pub ForConn : {L : Type 0} → Accept L → (L → Type 0) → Type 0
ForConn (accepted.Conn link) P = P link
ForConn accepted.NotYet P = Unit {0}
ForConn accepted.End P = Unit {0}
ForConn accepted.Failed P = Unit {0}

-- it fails only where it is closed
abbrev pub FailsOnlyClosed : {L T : Type 0} → Accept L → Option T → Type 0
FailsOnlyClosed (accepted.Conn link) opened_at = Unit {0}
FailsOnlyClosed accepted.NotYet opened_at = Unit {0}
FailsOnlyClosed accepted.End opened_at = Unit {0}
FailsOnlyClosed accepted.Failed opened_at = opened_at ≡ None
