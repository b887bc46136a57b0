-- What the core answers to a command.
use Rattle.std.specs.Prelude.{ℕ, Option, Some, None}
use Rattle.mum_base.specs.declared.{number.SessionId.SessionId, reply.ReplyEnd.ReplyEnd}
use Rattle.mum_base.specs.declared.reply.ReplyEnd.TheVariants.{Joined}
use Rattle.mum_state.specs.declared.verdict.Verdict.{Verdict}
use Rattle.mum_session.specs.Reply.{mark, reply_end, wire}
use Rattle.mum_core.specs.declared.connection.{Reply.Reply, Seat.Seat}

-- a session that joined has a seat
abbrev pub seat_in : ReplyEnd → Option Seat
seat_in (Joined session slot) = Some (record { session = session; slot = slot })
seat_in others = None

abbrev pub seat_of : Verdict → Option Seat
seat_of verdict = seat_in (reply_end verdict)

-- the reply, where an accepted edit gets this revision
abbrev pub reply : ℕ → Option SessionId → Verdict → Reply
reply revision session verdict =
    record { mark = mark revision verdict; seat = seat_of verdict; wire = wire session verdict }
