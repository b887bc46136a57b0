-- The control owner decides the command of a connection that waits, at the state after all accepted edits.
use Rattle.std.specs.Prelude.{ℕ, ◌+◌, List, [], ◌∷◌, ◌++◌, length, Option, is_none}
use Rattle.std.specs.Option.{option_map, option_map_or}
use Rattle.mum_record.specs.Journal.{verdict_words}
use Rattle.mum_state.specs.declared.{edit.Edit.Edit, verdict.Verdict.Verdict, verdict.Verdict.TheVariants.Accepted}
use Rattle.mum_state.specs.{Applied.applied, State.StateValue}
use Rattle.mum_notify.specs.Notices.{notices}
use Rattle.mum_notify.specs.declared.notice.Notice.{Notice}
use Rattle.mum_session.specs.{Reply.mark, Verdict.edits_of, Verdict.verdict}
use Rattle.mum_core.specs.declared.connection.Reply.{Reply}
use Rattle.mum_core.specs.{Case.Case, Case.not_opened, Line.said_of, Reply.reply}
use Rattle.mum_core.specs.Connection.{answered, next_command, next_of_frame, session_of}
use Rattle.mum_core.specs.Core.{CoreState, connection_at, current, at_connection}

abbrev pub forbids : CoreState → ℕ → List Case
forbids core c =
    not_opened core c ∷ record { stands = is_none (next_command (connection_at core c)); given = c; against = 0 } ∷ []

-- what is decided of the command of a connection, if one waits
abbrev pub decision : CoreState → ℕ → Option Verdict
decision core c =
    option_map (verdict (current core) (session_of (connection_at core c))) (next_command (connection_at core c))

-- the revision of the next edit that is accepted
abbrev pub next_revision : CoreState → ℕ
next_revision core = length core.accepted + 1

-- what a connection is answered
abbrev pub reply_to : CoreState → ℕ → Verdict → Reply
reply_to core c verdict = reply (next_revision core) (session_of (connection_at core c)) verdict

-- what the sessions are to be sent of an edit that is accepted at a state
abbrev pub noticed : StateValue → Verdict → List Notice
noticed state (Accepted edit) = notices state edit (applied state edit)
noticed state others = []

-- the command is decided, with these edits accepted, these notices to post and this reply to send
abbrev pub with_reply : CoreState → ℕ → List Edit → List Notice → Reply → CoreState
with_reply core c edits told reply =
    record (at_connection c (λ connection. answered (next_of_frame connection) reply connection) core)
    { accepted = core.accepted ++ edits; pending = core.pending ++ told }

-- an accepted edit is appended, and no other, and its notices after those that were not posted yet
abbrev pub decides : CoreState → ℕ → Verdict → CoreState
decides core c verdict = with_reply core c (edits_of verdict) (noticed (current core) verdict) (reply_to core c verdict)

abbrev pub does : CoreState → ℕ → CoreState
does core c = option_map_or (decides core c) (decision core c) core

abbrev pub line : CoreState → ℕ → Option Verdict → List (List ℕ)
line core c verdict =
    option_map_or (λ verdict. said_of c (verdict_words (mark (next_revision core) verdict))) verdict []

abbrev pub lines : CoreState → ℕ → List (List (List ℕ))
lines core c = line core c (decision core c) ∷ []
