-- What a connection is to the steps.
use Rattle.std.specs.Prelude.{ℕ, ◌+◌, ◌||◌, ◌==◌, Bool, true, false, List, [], Option, Some, None, is_some, if◌then◌else◌}
use Rattle.std.specs.Option.{option_and_then, option_map, option_map_or, option_or}
use Rattle.mum_base.specs.declared.{number.SessionId.SessionId, reply.Mark.Mark}
use Rattle.mum_base.specs.declared.reply.Mark.TheVariants.{Accepted, Rejected}
use Rattle.mum_session.specs.declared.command.Asked.{Asked, TheVariants.User}
use Rattle.mum_core.specs.declared.connection.{Connection.Connection, Leave.Leave, Reply.Reply, Seat.Seat}
use Rattle.mum_core.specs.declared.connection.Leave.TheVariants.{Stays, Waits, Leads, Decided}
use Rattle.mum_rules_user.specs.declared.message.UserMessage.TheVariants as messages

-- a connection that asked for nothing yet, at this worker
abbrev pub fresh : ℕ → Connection
fresh worker = record {
  worker = worker;
  version = None;
  seat = None;
  rejected = false;
  lagged = false;
  waiting = None;
  decided = None;
  leave = Stays;
  closed = None;
}

-- ---- what it asked for

-- its leave, where that waits to be decided
abbrev pub leave_waiting : Leave → Option Asked
leave_waiting Waits = Some (User messages.Leave)
leave_waiting Leads = Some (User messages.Leave)
leave_waiting others = None

-- a leave that waited before its frame came is decided before the command of that frame
abbrev pub leads : Leave → Bool
leads Leads = true
leads others = false

-- the command of its frame, where that is decided next
abbrev pub next_of_frame : Connection → Option Asked
next_of_frame connection = if leads connection.leave then None else connection.waiting

-- the command of it that is decided next: the one that waited first
abbrev pub next_command : Connection → Option Asked
next_command connection = option_or (next_of_frame connection) (leave_waiting connection.leave)

abbrev pub count_of : {A : Type 0} → Option A → ℕ
count_of None = 0
count_of (Some x) = 1

-- its commands that were not decided yet, or not answered
abbrev pub untold : Connection → ℕ
untold connection =
    count_of connection.waiting + count_of (leave_waiting connection.leave) + count_of connection.decided

-- whether the command of a frame of it was not answered yet; a leave is not answered
abbrev pub is_untold : Connection → Bool
is_untold connection = is_some connection.waiting || is_some connection.decided

-- ---- who it is

abbrev pub is_accepted : Mark → Bool
is_accepted (Accepted revision) = true
is_accepted others = false

abbrev pub is_rejected : Mark → Bool
is_rejected (Rejected kind) = true
is_rejected others = false

-- the revision of the edit that a mark reports; 0 where it reports none
abbrev pub revision_of : Mark → ℕ
revision_of (Accepted revision) = revision
revision_of others = 0

-- the seat that a reply gives
abbrev pub seat_given : Option Reply → Option Seat
seat_given reply = option_and_then (λ reply. reply.seat) reply

-- the seat that its accepted login gave it, sent or not
abbrev pub seat_accepted : Connection → Option Seat
seat_accepted connection = option_or (seat_given connection.decided) connection.seat

-- the session that its accepted login gave it, sent or not: the actor of its commands
abbrev pub session_of : Connection → Option SessionId
session_of connection = option_map (λ seat. seat.session) (seat_accepted connection)

-- an accepted login gave it the session
abbrev pub is_of : SessionId → Connection → Bool
is_of session connection = option_map_or (λ own. own.0 == session.0) (session_of connection) false

abbrev pub rejects : Option Reply → Bool
rejects reply = option_map_or (λ reply. is_rejected reply.mark) reply false

-- the bytes of its reply; none where it is closed
abbrev pub wire_in : Option Reply → List ℕ
wire_in None = []
wire_in (Some reply) = reply.wire

abbrev pub wire_of : Connection → List ℕ
wire_of connection = if is_some connection.closed then [] else wire_in connection.decided

-- ---- what becomes of it

-- what its reply gives it is its own once it is sent, and a rejection is sent once and for all
abbrev pub told : Connection → Connection
told connection = record connection {
  seat = seat_accepted connection;
  rejected = connection.rejected || rejects connection.decided;
  decided = None;
}

-- the command of its frame waits, after a leave that waits already
abbrev pub followed : Leave → Leave
followed Waits = Leads
followed others = others

abbrev pub asking : Asked → Connection → Connection
asking what connection = record connection { waiting = Some what; leave = followed connection.leave }

-- the command of its frame is answered by a reply that waits to be sent; its leave is answered by none
abbrev pub answered : Option Asked → Reply → Connection → Connection
answered (Some what) reply connection = record connection { waiting = None; decided = Some reply }
answered None reply connection = record connection { leave = Decided }

-- a leave is put after what waits of it, once
abbrev pub leaving : Leave → Leave
leaving Stays = Waits
leaving others = others

-- it is closed at a line of the recording
abbrev pub closed_at : ℕ → Connection → Connection
closed_at line connection = record connection { leave = leaving connection.leave; closed = Some line }

-- a notice for its session found the posts of its slot full, so it leaves
abbrev pub lagging : Connection → Connection
lagging connection = record connection { leave = leaving connection.leave; lagged = true }
