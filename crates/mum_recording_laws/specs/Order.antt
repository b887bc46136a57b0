-- Which journals are in order: each entry could come where it is.
use Rattle.std.specs.Prelude.{◌≡◌, ℕ, ◌<◌, ◌≤◌, ◌==◌, ◌&&◌, ⊤, Bool, true, false, List, length, take, is_none, is_some, IsSome, Some, None, slice_get}
use Rattle.std.specs.List.{AllByRecursion, list_any}
use Rattle.mum_frame.specs.Frame.{kind_of}
use Rattle.mum_frame.specs.declared.kind.TheConstants.{AUTHENTICATE}
use Rattle.mum_record.specs.declared.journal.{ControlEntry.ControlEntry, Journal.Journal, WorkerEntry.WorkerEntry}
use Rattle.mum_record.specs.declared.journal.WorkerEntry.TheVariants.{Closed, Voice}
use Rattle.mum_session.specs.declared.{command.Asked.Asked, heard.Heard.TheVariants.Message}
use Rattle.mum_core.specs.Connection.{is_rejected}
use Rattle.mum_audit.specs.{Audit.entries_of, Legal.past_at, Past.Past, Past.session_of}
use Rattle.mum_recording_laws.specs.Recorded.{command_of}

-- ---- what an entry says of a connection

-- its leave
abbrev pub leaves : ℕ → ControlEntry → Bool
leaves c entry = (entry.connection == c) && is_none entry.frame

-- its login was rejected
abbrev pub rejects : ℕ → ControlEntry → Bool
rejects c entry = (entry.connection == c) && is_rejected entry.verdict

-- it had reported a version when it logged in
abbrev pub has_version : ℕ → ControlEntry → Bool
has_version c entry = (entry.connection == c) && is_some entry.version

-- ---- control entries

-- a frame of a connection that was not rejected asks for a command: for a login where the connection has no session, and a
-- version that was there at one login is there at each later one
pub record IsCommand (past : Past) (earlier : List ControlEntry) (entry : ControlEntry) (bytes : List ℕ) : Type 0 where
  pub what : Asked
  pub asks : command_of entry.version (Some bytes) ≡ Message what
  pub welcome : list_any (rejects entry.connection) earlier ≡ false
  pub logs_in : session_of past entry.connection ≡ None → kind_of bytes ≡ AUTHENTICATE
  pub no_version : kind_of bytes ≡ AUTHENTICATE → entry.version ≡ None
      → list_any (has_version entry.connection) earlier ≡ false

-- connections are numbered from 1, and each leaves once
pub record IsAsked (past : Past) (earlier : List ControlEntry) (entry : ControlEntry) : Type 0 where
  pub numbered : 0 < entry.connection
  pub once : entry.frame ≡ None → list_any (leaves entry.connection) earlier ≡ false
  pub command : (bytes : List ℕ) → entry.frame ≡ Some bytes → IsCommand past earlier entry bytes

-- each control entry of a journal could be asked for after those before it
abbrev pub AreAsked : Journal → Type 0
AreAsked journal =
    (i : ℕ) (entry : ControlEntry) → slice_get journal.controls i ≡ Some entry
    → IsAsked (past_at journal i) (take i journal.controls) entry

-- nothing is decided of a connection after its leave
abbrev pub NoneIsLate : Journal → Type 0
NoneIsLate journal =
    (i : ℕ) (entry : ControlEntry) → slice_get journal.controls i ≡ Some entry
    → list_any (leaves entry.connection) (take i journal.controls) ≡ false

-- ---- voice entries

-- the packet is routed by the worker of its connection
abbrev pub IsPlaced : (ℕ → ℕ) → ℕ → WorkerEntry → Type 0
IsPlaced worker_of w (Voice c revision bytes copies) = worker_of c ≡ w
IsPlaced worker_of w (Closed c cause) = ⊤

-- all packets of a connection are routed by one worker
abbrev pub ArePlaced : Journal → Type 0
ArePlaced journal =
    (worker_of : ℕ → ℕ)
    × ((w : ℕ) (entries : List WorkerEntry) → slice_get journal.by_worker w ≡ Some entries
    → AllByRecursion (IsPlaced worker_of w) entries)

-- the revision has the login of the connection, but nothing from its leave on
pub record IsInTime (journal : Journal) (c revision : ℕ) : Type 0 where
  pub logged_in : (i : ℕ) → revision ≤ length (past_at journal i).accepted → IsSome (session_of (past_at journal i) c)
  pub there : (i : ℕ) (entry : ControlEntry) → slice_get journal.controls i ≡ Some entry → leaves c entry ≡ true
      → revision ≤ length (past_at journal i).accepted

-- so it is of the revision of a packet
abbrev pub IsTimely : Journal → WorkerEntry → Type 0
IsTimely journal (Voice c revision bytes copies) = IsInTime journal c revision
IsTimely journal (Closed c cause) = ⊤

-- ---- a journal

-- each entry could come where it is. A run of the core may miss what is said of leaves and of revisions: a connection that
-- lagged may ask for more after its leave, a worker notified of no revision may look at one before the login of its
-- speaker, and one that holds a packet may look for it when its connection has left
pub record IsInOrder (journal : Journal) : Type 0 where
  pub asked : AreAsked journal
  pub placed : ArePlaced journal
  pub on_time : NoneIsLate journal
  pub timely : AllByRecursion (IsTimely journal) (entries_of journal)
