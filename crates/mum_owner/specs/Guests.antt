-- The connections that are open.
use Rattle.std.specs.Prelude.{◌≡◌, ℕ, ◌+◌, ◌≤◌, ◌==◌, ◌&&◌, nat_lt, nat_le, not, Bool, true, false, List, [], ◌∷◌, ◌++◌, length, map, filter, find, replicate, Option, Some, None, if◌then◌else◌}
use Rattle.std.specs.{List.list_any, Option.option_and_then, Option.option_map, Option.option_map_or}
use Rattle.mum_base.specs.declared.number.{SessionId.SessionId, Slot.Slot, TheConstants.CONNECTION_LIMIT}
use Rattle.mum_base.specs.declared.reply.ReplyEnd.{ReplyEnd, TheVariants.Joined}
use Rattle.mum_state.specs.State.{StateValue}
use Rattle.mum_session.specs.declared.command.Command.{Command}
use Rattle.mum_control.specs.Kept.{is_there}
use Rattle.mum_owner.specs.Facts.{GuestsFacts}
use Rattle.mum_owner.specs.declared.{guests.Guest.Guest, kept.Lag.Lag}

abbrev pub is_of : ℕ → Guest → Bool
is_of connection guest = guest.connection == connection

abbrev pub is_not_of : ℕ → Guest → Bool
is_not_of connection guest = not (is_of connection guest)

-- a connection whose link has this address
abbrev pub new_guest : ℕ → List ℕ → Guest
new_guest connection address =
    record { connection = connection; address = address; session = None; slot = None; lagged = false }

-- their numbers rise, from this one on and below that one
abbrev pub RiseWithin : ℕ → ℕ → List Guest → Type 0
RiseWithin low high [] = low ≤ high
RiseWithin low high (guest ∷ rows) = (low ≤ guest.connection) × RiseWithin (guest.connection + 1) high rows

-- they rise from 1 to the number of those that were given; each that was given is open or has closed; and there is room
-- for as many as may be open at once
pub record AreKept (rows : List Guest) (given closed limit room : ℕ) : Type 0 where
  pub rise : RiseWithin 1 (given + 1) rows
  pub open_or_closed : length rows + closed ≡ given
  pub few : length rows ≤ CONNECTION_LIMIT
  pub within : given ≤ limit
  pub room_is : CONNECTION_LIMIT ≤ room

-- none yet, of as many as this in all
abbrev pub no_guests : ℕ → GuestsFacts
no_guests limit = record { rows = []; given = 0; closed = 0; limit = limit }

-- one more may be given
abbrev pub has_room : GuestsFacts → Bool
has_room guests = nat_lt (length guests.rows) CONNECTION_LIMIT && nat_lt guests.given guests.limit

abbrev pub are_all_given : GuestsFacts → Bool
are_all_given guests = nat_le guests.limit guests.given

abbrev pub are_none_open : GuestsFacts → Bool
are_none_open guests = length guests.rows == 0

-- each that was given has closed
abbrev pub have_all_left : GuestsFacts → Bool
have_all_left guests = guests.closed == guests.given

-- one more is given, whose link has this address, and gets the next number
abbrev pub entered : List ℕ → GuestsFacts → GuestsFacts
entered address guests =
    record guests { rows = guests.rows ++ new_guest (guests.given + 1) address ∷ []; given = guests.given + 1 }

-- a connection has closed; nothing changes where it is not open
abbrev pub left : ℕ → GuestsFacts → GuestsFacts
left connection guests =
    if list_any (is_of connection) guests.rows
    then record guests { rows = filter (is_not_of connection) guests.rows; closed = guests.closed + 1 } else guests

-- the address of the link of an open connection
abbrev pub address_of : ℕ → List Guest → List ℕ
address_of connection rows = option_map_or (λ guest. guest.address) (find (is_of connection) rows) (replicate 16 0)

-- the session that is kept for a connection
abbrev pub session_of : ℕ → List Guest → Option SessionId
session_of connection rows = option_and_then (λ guest. guest.session) (find (is_of connection) rows)

-- the command, for the session that is kept for its connection; none where that is not open
abbrev pub owned : List Guest → Command → Option Command
owned rows command =
    option_map (λ guest. record command { session = guest.session }) (find (is_of command.connection) rows)

-- a login of the connection was accepted
abbrev pub seated : ℕ → SessionId → Slot → Guest → Guest
seated connection session slot guest =
    if is_of connection guest then record guest { session = Some session; slot = Some slot } else guest

-- a lag item was made for the connection
abbrev pub lag_noted : ℕ → Guest → Guest
lag_noted connection guest = if is_of connection guest then record guest { lagged = true } else guest

abbrev pub joined_by : ReplyEnd → ℕ → GuestsFacts → GuestsFacts
joined_by (Joined session slot) connection guests =
    record guests { rows = map (seated connection session slot) guests.rows }
joined_by others connection guests = guests

abbrev pub with_lag_noted : ℕ → GuestsFacts → GuestsFacts
with_lag_noted connection guests = record guests { rows = map (lag_noted connection) guests.rows }

abbrev pub has_session : SessionId → Option SessionId → Bool
has_session session None = false
has_session session (Some kept) = kept.0 == session.0

abbrev pub has_slot : Slot → Option Slot → Bool
has_slot slot None = false
has_slot slot (Some kept) = kept.0 == slot.0

-- the open connection that has this session
abbrev pub guest_with : SessionId → List Guest → Option Guest
guest_with session rows = find (λ guest. has_session session guest.session) rows

-- it has this session, and no lag item was made for it
abbrev pub may_lag : SessionId → Guest → Bool
may_lag session guest = has_session session guest.session && not guest.lagged

-- the lag item of a session for whose connection none was made
abbrev pub lagging : SessionId → List Guest → Option Lag
lagging session rows =
    option_map (λ guest. record { connection = guest.connection; session = session }) (find (may_lag session) rows)

-- the lag item for a connection that has a session, where none was made for it
abbrev pub lag_for : Guest → Option Lag
lag_for guest =
    if guest.lagged then None else option_map
    (λ session. record { connection = guest.connection; session = session }) guest.session

abbrev pub is_gone_by : StateValue → Option SessionId → Bool
is_gone_by state None = false
is_gone_by state (Some session) = not (is_there state session)

-- its session is gone from the state, and this slot was its own
abbrev pub is_gone_from : StateValue → Slot → Guest → Bool
is_gone_from state slot guest = has_slot slot guest.slot && is_gone_by state guest.session
