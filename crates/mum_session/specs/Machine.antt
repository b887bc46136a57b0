-- What the machine knows of its connection.
use Rattle.std.specs.Prelude.{ℕ, Bool, true, false, Option, Some, None}
use Rattle.mum_base.specs.declared.{number.SessionId.SessionId, reply.ReplyEnd.ReplyEnd}
use Rattle.mum_base.specs.declared.reply.ReplyEnd.TheVariants.{Joined, Decided, Rejected}
use Rattle.mum_session.specs.declared.session.Stage.{Stage}
use Rattle.mum_session.specs.declared.session.Stage.TheVariants as stages

pub record Machine : Type 0 where
  pub connection : ℕ
  pub worker : ℕ
  -- the number of the last Version that has one
  pub version : Option ℕ
  pub stage : Stage
  -- whether a reply is awaited
  pub awaits : Bool
  -- whether a list of bans is taken from it
  pub bans : Bool

abbrev pub session_of : Stage → Option SessionId
session_of stages.BeforeLogin = None
session_of (stages.LoggedIn session) = Some session
session_of stages.Rejected = None

abbrev pub is_rejected : Stage → Bool
is_rejected stages.BeforeLogin = false
is_rejected (stages.LoggedIn session) = false
is_rejected stages.Rejected = true

-- a connection that sent this much and waits for no reply; no list of bans is taken from it
abbrev pub resumed : ℕ → ℕ → Option ℕ → Stage → Machine
resumed connection worker version stage =
    record { connection = connection; worker = worker; version = version; stage = stage; awaits = false; bans = false }

-- a connection that sent nothing yet
abbrev pub fresh : ℕ → ℕ → Machine
fresh connection worker = resumed connection worker None stages.BeforeLogin

-- the same, but that lists of bans are taken from it
abbrev pub fresh_with_bans : ℕ → ℕ → Machine
fresh_with_bans connection worker = record (fresh connection worker) { bans = true }

-- an accepted login gives a session, and a rejected one is the end
abbrev pub stage_after : ReplyEnd → Stage → Stage
stage_after (Joined session slot) stage = stages.LoggedIn session
stage_after Decided stage = stage
stage_after Rejected stage = stages.Rejected

abbrev pub answered : ReplyEnd → Machine → Machine
answered end machine = record machine { stage = stage_after end machine.stage; awaits = false }
