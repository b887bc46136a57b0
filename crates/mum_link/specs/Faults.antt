-- Why no byte goes over a link any more, and why a door ends.
use Rattle.std.specs.Prelude.{◌≡◌, ℕ, ◌<◌, nat_lt, Bool, true, false, not, Option, Some, None, is_some, IsTrue, Result, Ok, Err}
use Rattle.std.specs.IoError.{error_kind}
use Rattle.std.specs.declared.io.ErrorKind.{ErrorKind, TheVariants.WouldBlock, TheVariants.Interrupted}
use Rattle.std.specs.declared.io.Error.{Error}
use Rattle.mum_pace.specs.Waits.{has_waited}
use Rattle.mum_io.specs.Counts.{Rose}
use Rattle.mum_io.specs.declared.door.Accept.{Accept}
use Rattle.mum_link.specs.Timely.{has_run_out}
use Rattle.mum_link.specs.declared.{hub.Ending.Ending, fault.Fault.Fault, patience.Patience.Patience}
use Rattle.mum_link.specs.declared.fault.Fault.TheVariants.{Call, TookNothing, LeftBehind, Stop, Shut}
use Rattle.mum_io.specs.declared.door.Accept.TheVariants as accepted

-- ---- calls that fail

-- an error that says only that nothing has come yet, that there is no room yet, or that the call was interrupted
abbrev pub is_passing : ErrorKind → Bool
is_passing WouldBlock = true
is_passing Interrupted = true
is_passing _ = false

-- a failure is counted, if there was one, and else nothing is
abbrev pub CountsOneIf : Bool → ℕ → ℕ → Type 0
CountsOneIf true old new = Rose old new
CountsOneIf false old new = new ≡ old

-- a read fails by any other error, and is counted then
abbrev pub CountsFailedRead : Result ℕ Error → ℕ → ℕ → Type 0
CountsFailedRead (Ok count) old new = new ≡ old
CountsFailedRead (Err error) old new = CountsOneIf (not (is_passing (error_kind error))) old new

-- so does a write, and one that takes nothing
abbrev pub CountsFailedWrite : Result ℕ Error → ℕ → ℕ → Type 0
CountsFailedWrite (Ok count) old new = (0 < count → new ≡ old) × (count ≡ 0 → Rose old new)
CountsFailedWrite (Err error) old new = CountsOneIf (not (is_passing (error_kind error))) old new

-- ---- links

-- Whether a fault of a line has its cause: a call on its socket failed; at that time its peer had taken nothing for as long as
-- it may; at that time the line had waited as long as it may for a peer that had hung up; or the server stops.
abbrev pub has_cause : Fault → ℕ → Patience → Option ℕ → Bool
has_cause Call failures patience since = nat_lt 0 failures
has_cause (TookNothing now) failures patience since = has_run_out patience.limit patience.since now
has_cause (LeftBehind now) failures patience since = has_waited since true now
has_cause (Stop ending) failures patience since = ending.is_stop
has_cause Shut failures patience since = true

-- the line is broken: it has a fault
abbrev pub IsBroken : Option Fault → Type 0
IsBroken fault = IsTrue (is_some fault)

-- the fault is that of a link that was shut
abbrev pub is_of_shut : Option Fault → Bool
is_of_shut None = false
is_of_shut (Some Call) = false
is_of_shut (Some (TookNothing now)) = false
is_of_shut (Some (LeftBehind now)) = false
is_of_shut (Some (Stop ending)) = false
is_of_shut (Some Shut) = true

-- a fault stays what it is; and where there was none, there is none of a link that was shut
abbrev pub Stays : Option Fault → Option Fault → Type 0
Stays None new = is_of_shut new ≡ false
Stays (Some fault) new = new ≡ Some fault

-- a shut makes a fault, and an earlier one stays
abbrev pub Closes : Option Fault → Option Fault → Type 0
Closes None new = new ≡ Some Shut
Closes (Some fault) new = new ≡ Some fault

-- ---- doors

-- a door ends where its hub says that the server stops, or, if it ends with the owner, that this has ended; and else it
-- gives a link or stalls
abbrev pub EndsWhereOver : {L : Type 0} → Accept L → Bool → Option Ending → Type 0
EndsWhereOver (accepted.Conn link) with_owner ending = ending ≡ None
EndsWhereOver accepted.NotYet with_owner ending = ending ≡ None
EndsWhereOver accepted.End with_owner None = ⊥
EndsWhereOver accepted.End with_owner (Some ending) = ending.is_stop ≡ false → with_owner ≡ true
EndsWhereOver accepted.Failed with_owner ending = Unit {0}
