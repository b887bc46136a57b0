-- What a command changes, and what its sender is answered.
use Rattle.std.specs.Prelude.{◌≡◌, ℕ, ◌+◌, ◌⊎◌, true, false, [], ◌∷◌, ◌++◌, length, filter, is_none, Option, Some, None}
use Rattle.mum_base.specs.declared.{number.SessionId.SessionId, reply.ReplyEnd.ReplyEnd}
use Rattle.mum_state.specs.declared.{edit.Edit.Edit, verdict.Verdict.Verdict, verdict.Verdict.TheVariants.Accepted}
use Rattle.mum_state.specs.{Applied.applied, State.StateValue}
use Rattle.mum_published.specs.Calls.{all_published, appended, latest}
use Rattle.mum_published.specs.{Facts.NoteFacts, Facts.PublisherFacts, Facts.ReplyFacts, Rolls.login_of}
use Rattle.mum_notify.specs.Notices.{notices}
use Rattle.mum_session.specs.declared.command.Command.{Command}
use Rattle.mum_session.specs.{Reply.mark, Reply.reply_end, Reply.wire, Verdict.verdict}
use Rattle.mum_control.specs.{Facts.ControlFacts, Kept.is_there}
use Rattle.mum_base.specs.declared.reply.ReplyEnd.TheVariants as ends

-- the state after all accepted edits
abbrev pub current : ControlFacts → StateValue
current control = latest control.publisher

-- the publisher with one edit more that is not published yet
abbrev pub with_edit : PublisherFacts → Edit → PublisherFacts
with_edit publisher edit = record publisher { pending = publisher.pending ++ edit ∷ [] }

-- the publisher with the login on its roll that a reply to this connection with this end reports, if it reports one
abbrev pub with_login : PublisherFacts → ℕ → ReplyEnd → PublisherFacts
with_login publisher connection end = record publisher { roll = publisher.roll ++ login_of connection end }

-- the publisher once it accepted an edit of this connection: the edit is not published yet, and a login is on the roll
abbrev pub with_accepted : PublisherFacts → ℕ → Edit → PublisherFacts
with_accepted publisher connection edit =
    with_login (with_edit publisher edit) connection (reply_end (Accepted edit))

-- the note that all appended edits are published
abbrev pub note_of : PublisherFacts → NoteFacts
note_of publisher = record { book = publisher.opening.book; edits = appended publisher }

-- all that is pending was published, which the note says; or memory ran out, and nothing was
abbrev pub Publishes : PublisherFacts → Option NoteFacts → PublisherFacts → Type 0
Publishes publisher (Some note) after = (note ≡ note_of publisher) × (after ≡ all_published publisher)
Publishes publisher None after = after ≡ publisher

-- the revision of the next accepted edit
abbrev pub next_revision : ControlFacts → ℕ
next_revision control = length (appended control.publisher) + 1

-- one more edit is appended: it is not published yet, what its sessions are sent waits, and of those that lag the ones that are
-- gone are left out
abbrev pub accepted : ControlFacts → Edit → ControlFacts
accepted control edit = record {
  publisher = with_edit control.publisher edit;
  posts = control.posts;
  pending = control.pending ++ notices (current control) edit (applied (current control) edit);
  lagged = filter (is_there (applied (current control) edit)) control.lagged;
  mark = Some (mark (next_revision control) (Accepted edit));
}

-- the edit is accepted, and with it its login. The reply has the note of its publish, or says that memory ran out
pub record Accepts (old : ControlFacts) (connection : ℕ) (edit : Edit) (reply : ReplyFacts)
    (new : ControlFacts) : Type 0 where
  pub published : Publishes (with_accepted old.publisher connection edit) reply.note new.publisher
  pub others : new ≡ record (accepted old edit) { publisher = new.publisher }
  pub answer : reply ≡ record {
    connection = connection;
    end = reply_end (Accepted edit);
    note = reply.note;
    wire = [];
    no_memory = is_none reply.note;
    roll = new.publisher.roll;
  }

-- the command is denied, answered or ignored: nothing changes but the outcome that is kept
abbrev pub Denies : ControlFacts → ℕ → Option SessionId → Verdict → ReplyFacts → ControlFacts → Type 0
Denies old connection session denied reply new =
    (new ≡ record old { mark = Some (mark (next_revision old) denied) })
    × (reply ≡ record {
      connection = connection;
      end = reply_end denied;
      note = None;
      wire = wire session denied;
      no_memory = false;
      roll = old.publisher.roll;
    })

-- what the verdict on the command of a connection changes, and what the connection is answered
abbrev pub Decides : ControlFacts → ℕ → Option SessionId → Verdict → ReplyFacts → ControlFacts → Type 0
Decides old connection session (Accepted edit) reply new = Accepts old connection edit reply new
Decides old connection session others reply new = Denies old connection session others reply new

-- memory ran out before anything changed
abbrev pub IsDropped : ControlFacts → ℕ → ReplyFacts → ControlFacts → Type 0
IsDropped old connection reply new =
    (new ≡ record old { mark = None })
    × (reply ≡ record {
      connection = connection;
      end = ends.Decided;
      note = None;
      wire = [];
      no_memory = true;
      roll = old.publisher.roll;
    })

-- a command is decided at the state after all accepted edits, or dropped
abbrev pub Commanded : ControlFacts → Command → ReplyFacts → ControlFacts → Type 0
Commanded old command reply new =
    IsDropped old command.connection reply new
    ⊎ Decides old command.connection command.session (verdict (current old) command.session command.what) reply new
