-- What an owner decided, as its turns have it.
use Rattle.std.specs.Prelude.{◌≡◌, ◌+◌, ℕ, Bool, true, false, List, [], ◌∷◌, ◌++◌, length, map, Option}
use Rattle.std.specs.List.{AllByRecursion, flat_map}
use Rattle.mum_io.specs.{Door.DoorFacts, Link.LinkFacts}
use Rattle.mum_outbox.specs.Facts.{QueueId}
use Rattle.mum_crew.specs.Turns.{TurnsTo}
use Rattle.mum_crew.specs.declared.role.Turn.{Turn}
use Rattle.mum_record.specs.declared.journal.ControlEntry.{ControlEntry}
use Rattle.mum_state.specs.declared.edit.Edit.{Edit}
use Rattle.mum_published.specs.declared.roll.Login.{Login}
use Rattle.mum_published.specs.{Calls.appended, Calls.state_of, Facts.Opening, Rolls.login_of}
use Rattle.mum_session.specs.{Reply.mark, Verdict.verdict}
use Rattle.mum_session.specs.declared.command.Command.{Command}
use Rattle.mum_core.specs.Laws.{IsSubsequenceBy}
use Rattle.mum_control.specs.Facts.{ControlFacts}
use Rattle.mum_owner.specs.{Decided.with_command, Facts.OwnerFacts, Given.roll_of, Guests.session_of}
use Rattle.mum_owner.specs.{Laws.Settled, Laws.connections_given, Laws.settled_in, Opened.IsOpened, Turned.OwnerTurned}
use Rattle.mum_owner.specs.Written.{is_leave, own_frame, version_of}
use Rattle.mum_step_laws.specs.OwnerTurns.{Decision, decisions_of}

-- ---- what turns decided, and what they settled

-- a command that was given to the control owner, or answered since memory ran out; or a leave, of its connection, that
-- was decided
pub data Work : Type 0 where
  Gave : Command → Work
  Left : ℕ → Work

abbrev pub work_of : Settled → List Work
work_of what = map Gave what.commands ++ map Left what.leaves

module _ {D L : Type 0} (door_facts : D → DoorFacts) (link_facts : L → LinkFacts) where
  -- the commands that turns decided, leaves included, in order
  abbrev pub decisions : (old : OwnerFacts D L) (turns : List Turn) (new : OwnerFacts D L)
      → TurnsTo (OwnerTurned door_facts link_facts) old turns new → List Decision
  decisions old [] new all = []
  decisions old (turn ∷ turns) new all =
      decisions_of door_facts link_facts old turn all.0 all.1 ++ decisions all.0 turns new all.2

  -- what turns settled, in order
  abbrev pub work_done : (old : OwnerFacts D L) (turns : List Turn) (new : OwnerFacts D L)
      → TurnsTo (OwnerTurned door_facts link_facts) old turns new → List Work
  work_done old [] new all = []
  work_done old (turn ∷ turns) new all =
      work_of (settled_in door_facts link_facts old turn all.0 all.1) ++ work_done all.0 turns new all.2

-- the decision is on this command, whatever session it named; or on the leave of this connection
abbrev pub IsOn : Decision → Work → Type 0
IsOn decision (Gave command) = decision.command ≡ record command { session = decision.command.session }
IsOn decision (Left connection) = (decision.command.connection ≡ connection) × (is_leave decision.command.what ≡ true)

-- ---- what they accepted, and what they have in a journal

-- these edits, and after them what commands add that are decided one after the other, each at the state after all that
-- was accepted before it
abbrev pub edits_after : Opening → List Edit → List Decision → List Edit
edits_after opening edits [] = edits
edits_after opening edits (decision ∷ others) = edits_after opening (with_command opening edits decision.command) others

-- the entry of a command that is decided after these edits: its connection, the version that a login reports, its own
-- frame, and its outcome at their state, where an accepted edit gets the next revision
abbrev pub entry_of : Opening → List Edit → Command → ControlEntry
entry_of opening edits command = record {
  connection = command.connection;
  version = version_of command.what;
  frame = own_frame command.what;
  verdict = mark (length edits + 1) (verdict (state_of opening edits) command.session command.what);
}

-- the entries of commands that are decided so, in order
abbrev pub entries_after : Opening → List Edit → List Decision → List ControlEntry
entries_after opening edits [] = []
entries_after opening edits (decision ∷ others) =
    entry_of opening edits decision.command ∷ entries_after opening (with_command opening edits decision.command) others

-- the logins that were accepted by these decisions, in order: each of the connection of its command, with the session that
-- its reply gives
abbrev pub logins_decided : List Decision → List Login
logins_decided decisions = flat_map (λ decision. login_of decision.command.connection decision.reply.end) decisions

-- ---- the laws

-- what an owner appended are the edits of its decisions
abbrev pub EditsAreTheDecisions : (D L : Type 0) → (D → DoorFacts) → (L → LinkFacts) → Type 0
EditsAreTheDecisions D L door_facts link_facts =
    (old owner : OwnerFacts D L) (turns : List Turn) (all : TurnsTo (OwnerTurned door_facts link_facts) old turns owner)
    → appended owner.control.publisher
    ≡ edits_after old.control.publisher.opening (appended old.control.publisher)
    (decisions door_facts link_facts old turns owner all)

-- what it puts on its roll are the logins of its decisions
abbrev pub LoginsAreTheDecisions : (D L : Type 0) → (D → DoorFacts) → (L → LinkFacts) → Type 0
LoginsAreTheDecisions D L door_facts link_facts =
    (old owner : OwnerFacts D L) (turns : List Turn) (all : TurnsTo (OwnerTurned door_facts link_facts) old turns owner)
    → roll_of owner ≡ roll_of old ++ logins_decided (decisions door_facts link_facts old turns owner all)

-- what it has in a journal that was asked for are the entries of its decisions
abbrev pub EntriesAreTheDecisions : (D L : Type 0) → (D → DoorFacts) → (L → LinkFacts) → Type 0
EntriesAreTheDecisions D L door_facts link_facts =
    (old owner : OwnerFacts D L) (turns : List Turn) (all : TurnsTo (OwnerTurned door_facts link_facts) old turns owner)
    → old.scribe.is_asked ≡ true
    → owner.scribe.entries
    ≡ old.scribe.entries
    ++ entries_after old.control.publisher.opening (appended old.control.publisher)
    (decisions door_facts link_facts old turns owner all)

-- and without a journal it has no more than it had
abbrev pub NoEntriesUnasked : (D L : Type 0) → (D → DoorFacts) → (L → LinkFacts) → Type 0
NoEntriesUnasked D L door_facts link_facts =
    (old owner : OwnerFacts D L) (turns : List Turn) → TurnsTo (OwnerTurned door_facts link_facts) old turns owner
    → old.scribe.is_asked ≡ false → owner.scribe.entries ≡ old.scribe.entries

-- each decision is on one thing that was settled, in the order of the settling, and no two are on the same
abbrev pub DecisionsAreOfTheDesk : (D L : Type 0) → (D → DoorFacts) → (L → LinkFacts) → Type 0
DecisionsAreOfTheDesk D L door_facts link_facts =
    (old owner : OwnerFacts D L) (turns : List Turn) (all : TurnsTo (OwnerTurned door_facts link_facts) old turns owner)
    → IsSubsequenceBy IsOn (decisions door_facts link_facts old turns owner all)
    (work_done door_facts link_facts old turns owner all)

-- each command that a turn decides is decided for the session that is kept for its connection before the turn
abbrev pub DecisionsAreForTheirSessions : (D L : Type 0) → (D → DoorFacts) → (L → LinkFacts) → Type 0
DecisionsAreForTheirSessions D L door_facts link_facts =
    (old : OwnerFacts D L) (turn : Turn) (new : OwnerFacts D L)
    (turned : OwnerTurned door_facts link_facts old turn new)
    → AllByRecursion (λ decision. decision.command.session ≡ session_of decision.command.connection old.guests.rows)
    (decisions_of door_facts link_facts old turn new turned)

-- as many connections are counted as the door gave in the turns
abbrev pub ConnectionsAreThoseGiven : (D L : Type 0) → (D → DoorFacts) → (L → LinkFacts) → Type 0
ConnectionsAreThoseGiven D L door_facts link_facts =
    (control : ControlFacts) (door : D) (connections : ℕ) (journal : Bool) (queues : List QueueId)
    (store : Option QueueId)
    (opened owner : OwnerFacts D L) (turns : List Turn) → IsOpened control door connections journal queues store opened
    → (all : TurnsTo (OwnerTurned door_facts link_facts) opened turns owner)
    → owner.guests.given ≡ length (connections_given door_facts link_facts opened turns owner all)
