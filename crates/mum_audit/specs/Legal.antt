-- What a legal journal is, in words about its entries.
use Rattle.std.specs.Prelude.{◌≡◌, ◌≢◌, ℕ, ◌≤◌, List, length, take, Option, Some, None, Ok, AllPairs, ⊤, slice_get}
use Rattle.std.specs.List.{All, filter_map}
use Rattle.mum_base.specs.declared.number.SessionId.{SessionId}
use Rattle.mum_voice.specs.Packet.{Parts, packet}
use Rattle.mum_record.specs.declared.journal.{ControlEntry.ControlEntry, Journal.Journal, Marked.Marked}
use Rattle.mum_record.specs.declared.journal.WorkerEntry.{WorkerEntry, TheVariants.Voice, TheVariants.Closed}
use Rattle.mum_route.specs.Route.{route}
use Rattle.mum_audit.specs.Audit.{entries_of, past_before, past_of}
use Rattle.mum_audit.specs.{Controls.after_entries, Controls.mark_on, Finding.members_of}
use Rattle.mum_audit.specs.Past.{Past, session_of, state_at}

-- what the entries before one of the control entries leave
abbrev pub past_at : Journal → ℕ → Past
past_at journal i = after_entries (past_before journal) (take i journal.controls)

-- the revision at which a voice entry was routed
abbrev pub revision_of : WorkerEntry → Option ℕ
revision_of (Voice connection revision packet copies) = Some revision
revision_of (Closed connection cause) = None

-- the connection that a closing entry is about
abbrev pub closed_by : WorkerEntry → Option ℕ
closed_by (Voice connection revision packet copies) = None
closed_by (Closed connection cause) = Some connection

-- the copies of a packet are for those who hear it: the packet parses, its connection has a session, and these are the
-- members of the route by that session, in the state after the first accepted edits
pub record IsHeard (past : Past) (connection revision : ℕ) (bytes : List ℕ) (copies : List Marked) : Type 0 where
  pub accepted : revision ≤ length past.accepted
  pub parts : Parts
  pub parsed : packet bytes ≡ Ok parts
  pub speaker : SessionId
  pub logged_in : session_of past connection ≡ Some speaker
  pub audience : members_of copies ≡ route (state_at past revision) speaker parts.target

-- a closing entry may say anything
abbrev pub IsRight : Past → WorkerEntry → Type 0
IsRight past (Voice connection revision bytes copies) = IsHeard past connection revision bytes copies
IsRight past (Closed connection cause) = ⊤

pub record IsLegal (journal : Journal) : Type 0 where
  -- each control entry has the verdict of the state that the accepted entries before it leave
  pub verdicts : (i : ℕ) (entry : ControlEntry) → slice_get journal.controls i ≡ Some entry
      → entry.verdict ≡ mark_on (past_at journal i) entry
  -- the revisions of a worker never fall
  pub rising : All
      (λ entries. AllPairs (λ earlier later. earlier ≤ later) (filter_map revision_of entries)) journal.by_worker
  -- each packet went to those who hear it
  pub heard : All (IsRight (past_of journal)) (entries_of journal)
  -- no connection has two closing entries
  pub closed_once : AllPairs (λ one other. one ≢ other) (filter_map closed_by (entries_of journal))
