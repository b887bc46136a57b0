-- The session that is kept for each open connection, and the roll of logins, by the replies that were made.
use Rattle.std.specs.Prelude.{◌≡◌, ◌==◌, ℕ, List, fold, flat_map, Option, Some, None, if◌then◌else◌}
use Rattle.mum_base.specs.declared.{number.SessionId.SessionId, reply.ReplyEnd.ReplyEnd}
use Rattle.mum_base.specs.declared.reply.ReplyEnd.TheVariants.{Joined}
use Rattle.mum_published.specs.declared.roll.Login.{Login}
use Rattle.mum_published.specs.{Facts.ReplyFacts, Rolls.login_of}
use Rattle.mum_owner.specs.declared.guests.Guest.{Guest}

-- the session that an accepted login gave; any other reply leaves the one of before
abbrev pub session_by : ReplyEnd → Option SessionId → Option SessionId
session_by (Joined session slot) before = Some session
session_by others before = before

abbrev pub session_after : ℕ → Option SessionId → ReplyFacts → Option SessionId
session_after connection before reply = if connection == reply.connection then session_by reply.end before else before

-- the session that the last accepted login of a connection gave, of these replies; none where there was none
abbrev pub last_session : ℕ → List ReplyFacts → Option SessionId
last_session connection replies = fold (session_after connection) None replies

abbrev pub HasLastSession : List ReplyFacts → Guest → Type 0
HasLastSession replies guest = guest.session ≡ last_session guest.connection replies

-- the login that a reply reports, if it reports one
abbrev pub login_in : ReplyFacts → List Login
login_in reply = login_of reply.connection reply.end

-- the logins that these report, in order
abbrev pub logins_in : List ReplyFacts → List Login
logins_in replies = flat_map login_in replies
