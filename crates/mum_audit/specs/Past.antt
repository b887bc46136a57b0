-- What the control entries of a journal, up to one of them, leave.
use Rattle.std.specs.Prelude.{ℕ, ◌+◌, ◌==◌, List, [], ◌++◌, length, Option, nat_eq}
use Rattle.std.specs.Map.{lookup}
use Rattle.indexmap.specs.IndexMap.{insert_entry}
use Rattle.mum_base.specs.declared.{number.SessionId.SessionId, reply.ReplyEnd.ReplyEnd}
use Rattle.mum_base.specs.declared.reply.ReplyEnd.TheVariants.{Joined, Decided, Rejected}
use Rattle.mum_state.specs.declared.{edit.Edit.Edit, verdict.Verdict.Verdict}
use Rattle.mum_state.specs.{After.at, After.led_to, State.StateValue}
use Rattle.mum_session.specs.{Reply.reply_end, Verdict.edits_of}

pub record Past : Type 0 where
  -- the state before all entries
  pub opening : StateValue
  -- the accepted edits, the first of them first
  pub accepted : List Edit
  -- each connection whose login was accepted, with the session that it got
  pub logins : List (ℕ × SessionId)

-- before all entries
abbrev pub begun : StateValue → Past
begun opening = record { opening = opening; accepted = []; logins = [] }

-- the state after all accepted edits, and after the first of them, as many as this
abbrev pub current : Past → StateValue
current past = led_to past.opening past.accepted

abbrev pub state_at : Past → ℕ → StateValue
state_at past revision = at past.opening past.accepted revision

-- the session that an accepted login of the connection gave; none where there is no such login
abbrev pub session_of : Past → ℕ → Option SessionId
session_of past connection = lookup (λ other. connection == other) past.logins

-- the revision of the next accepted edit
abbrev pub next_revision : Past → ℕ
next_revision past = length past.accepted + 1

-- an accepted login gives its connection a session
abbrev pub with_login : ℕ → ReplyEnd → List (ℕ × SessionId) → List (ℕ × SessionId)
with_login connection (Joined session slot) logins = insert_entry nat_eq logins connection session
with_login connection Decided logins = logins
with_login connection Rejected logins = logins

-- after the verdict on an entry of a connection
abbrev pub after_verdict : Past → ℕ → Verdict → Past
after_verdict past connection verdict = record past {
  accepted = past.accepted ++ edits_of verdict;
  logins = with_login connection (reply_end verdict) past.logins;
}
