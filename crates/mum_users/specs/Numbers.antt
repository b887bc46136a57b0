-- The slots of sessions, in the order of the sessions' numbers.
use Rattle.std.specs.Prelude.{◌≡◌, ◌≤◌, ◌==◌, nat_lt, ℕ, Bool, List, map, filter}
use Rattle.mum_base.specs.declared.number.{SessionId.SessionId, TheConstants.SLOTS}
use Rattle.mum_users.specs.declared.{masks.MaskRow.MaskRow, sessions.SessionSlot.SessionSlot, user.User.User}
use Rattle.mum_users.specs.{Order.Rises, Proper.IsProper, Proper.SlotsRise}
use Rattle.mum_users.specs.{SlotMasks.AreMasks, SlotMasks.has_listener_at, SlotMasks.has_member_at, State.RosterState}

-- the session of a row, with its slot
abbrev pub session_slot : User → SessionSlot
session_slot user = record { session = user.session; slot = user.slot }

-- the slot is that of this session
abbrev pub is_slot_of : SessionId → SessionSlot → Bool
is_slot_of session own = own.session.0 == session.0

-- the one session's number is below the other's
abbrev pub number_below : SessionSlot → SessionSlot → Bool
number_below own other = nat_lt own.session.0 other.session.0

-- the sessions of these rows with their slots, in the order of their numbers
pub record IsNumbered (users : List User) (slots : List SessionSlot) : Type 0 where
  pub rise : Rises number_below slots
  pub same : (session : SessionId)
      → filter (is_slot_of session) slots ≡ filter (is_slot_of session) (map session_slot users)

-- a proper roster, the slots of its sessions, and the masks of who is in which channel, with room for
-- a row of each session, and of who listens to which
pub record IsKept (state : RosterState) (slots : List SessionSlot) (members : List MaskRow) (room : ℕ)
    (listening : List MaskRow) : Type 0 where
  pub proper : IsProper state
  -- the slots of the sessions, below the greatest limit
  pub rise : SlotsRise SLOTS 0 state.sessions
  pub numbered : IsNumbered state.sessions slots
  pub member_masks : AreMasks (has_member_at state) members
  pub enough : SLOTS ≤ room
  pub listener_masks : AreMasks (has_listener_at state) listening
