-- What the journal of an owner says of the commands that were decided.
use Rattle.std.specs.Prelude.{◌≡◌, ℕ, ◌+◌, true, List, [], ◌∷◌, ◌++◌, length}
use Rattle.mum_record.specs.declared.journal.ControlEntry.{ControlEntry}
use Rattle.mum_state.specs.declared.edit.Edit.{Edit}
use Rattle.mum_state.specs.State.{StateValue}
use Rattle.mum_published.specs.{Calls.appended, Calls.state_of, Facts.Opening}
use Rattle.mum_session.specs.{Reply.mark, Verdict.edits_of, Verdict.verdict}
use Rattle.mum_session.specs.declared.command.Command.{Command}
use Rattle.mum_control.specs.Facts.{ControlFacts}
use Rattle.mum_owner.specs.{Facts.ScribeFacts, Written.own_frame, Written.version_of}

-- the entry of a command: its connection, the version that a login reports, its own frame, and its outcome at a state,
-- where an accepted edit gets this revision
pub record IsEntryOf (state : StateValue) (revision : ℕ) (command : Command) (entry : ControlEntry) : Type 0 where
  pub connection : entry.connection ≡ command.connection
  pub version : entry.version ≡ version_of command.what
  pub frame : entry.frame ≡ own_frame command.what
  pub outcome : entry.verdict ≡ mark revision (verdict state command.session command.what)

-- these edits, and after them what a command adds that is decided at the state to which they lead
abbrev pub with_command : Opening → List Edit → Command → List Edit
with_command opening edits command = edits ++ edits_of (verdict (state_of opening edits) command.session command.what)

-- the entries are of commands that were decided one after the other after these edits, each at the state after all that
-- was accepted before it; all that is accepted then is known
abbrev pub AreDecided : Opening → List Edit → List ControlEntry → List Edit → Type 0
AreDecided opening edits [] all = all ≡ edits
AreDecided opening edits (entry ∷ entries) all =
    (command : Command) × IsEntryOf (state_of opening edits) (length edits + 1) command entry
    × AreDecided opening (with_command opening edits command) entries all

-- where a journal was asked for, its entries are all commands that were decided from the opening on, in order: what they
-- accepted is what was appended
abbrev pub HasWritten : ControlFacts → ScribeFacts → Type 0
HasWritten control scribe =
    scribe.is_asked ≡ true → AreDecided control.publisher.opening [] scribe.entries (appended control.publisher)
