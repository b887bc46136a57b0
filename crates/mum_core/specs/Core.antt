-- The core as plain data, and the changes of one connection, one worker or one outbox.
use Rattle.std.specs.Prelude.{ℕ, ◌+◌, ◌-◌, ◌^◌, ◌&&◌, min, Bool, List, [], ◌∷◌, length, map, replicate, nat_lt, slice_index_or, if◌then◌else◌}
use Rattle.mum_base.specs.declared.number.{SessionId.SessionId, TheConstants.SLOTS}
use Rattle.mum_record.specs.Head.{first_step_line}
use Rattle.mum_record.specs.declared.head.Version.{Version, TheVariants.One, TheVariants.Two}
use Rattle.mum_state.specs.declared.edit.Edit.{Edit, TheVariants.SetLimits}
use Rattle.mum_state.specs.{After.at, After.led_to, State.StateValue}
use Rattle.mum_notify.specs.declared.notice.Notice.{Notice}
use Rattle.mum_core.specs.declared.{connection.Connection.Connection, machine.Totals.Totals, outbox.Parcel.Parcel}
use Rattle.mum_core.specs.{Connection.fresh, Connection.is_of, Lists.changed_at, Worker.WorkerState, Worker.idle}

pub record CoreState : Type 0 where
  -- the state before all accepted edits
  pub opening : StateValue
  -- the accepted edits, the first of them first
  pub accepted : List Edit
  -- how many of them are published
  pub published : ℕ
  -- connection n is at place n - 1
  pub connections : List Connection
  pub workers : List WorkerState
  -- the voice copies that wait for the connection of each slot, the oldest first
  pub outboxes : List (List Parcel)
  -- the notices of accepted edits that were not posted yet, the first of them first
  pub pending : List Notice
  -- the notices that wait for the connection of each slot, the oldest first
  pub posts : List (List Notice)
  -- how many notices were posted, or found the posts of their slot full
  pub posted : ℕ
  pub totals : Totals
  -- the number of the last line that was taken: the steps come after the lines of the head
  pub line : ℕ

-- the core of this many workers at an opening state, that nothing happened to: its steps are in a recording of this
-- version
abbrev pub start : Version → StateValue → ℕ → CoreState
start version opening workers =
    record {
      opening = opening;
      accepted = [];
      published = 0;
      connections = [];
      workers = replicate workers idle;
      outboxes = replicate SLOTS [];
      pending = [];
      posts = replicate SLOTS [];
      posted = 0;
      totals = record { looks = 0; copies = 0; full = 0; stale = 0 };
      line = first_step_line version - 1;
    }

-- the version of a recording whose steps begin after these edits: in version 2 the first of them sets the limits
abbrev pub version_of : List Edit → Version
version_of (SetLimits sessions channels ∷ edits) = Two
version_of edits = One

-- the state after the first n accepted edits, and after all of them
abbrev pub state_at : CoreState → ℕ → StateValue
state_at core revision = at core.opening core.accepted revision

abbrev pub current : CoreState → StateValue
current core = led_to core.opening core.accepted

-- connections are numbered from 1
abbrev pub is_opened : CoreState → ℕ → Bool
is_opened core c = nat_lt 0 c && nat_lt (c - 1) (length core.connections)

-- what is there of a number; one that did nothing yet where none is there
abbrev pub connection_at : CoreState → ℕ → Connection
connection_at core c = if nat_lt 0 c then slice_index_or core.connections (c - 1) (fresh 0) else fresh 0

abbrev pub worker_at : CoreState → ℕ → WorkerState
worker_at core w = slice_index_or core.workers w idle

abbrev pub outbox_at : CoreState → ℕ → List Parcel
outbox_at core slot = slice_index_or core.outboxes slot []

abbrev pub posts_at : CoreState → ℕ → List Notice
posts_at core slot = slice_index_or core.posts slot []

-- what is there of a number is changed; nothing changes where none is there
abbrev pub at_connection : ℕ → (Connection → Connection) → CoreState → CoreState
at_connection c change core =
    record core { connections = if nat_lt 0 c then changed_at (c - 1) change core.connections else core.connections }

abbrev pub at_worker : ℕ → (WorkerState → WorkerState) → CoreState → CoreState
at_worker w change core = record core { workers = changed_at w change core.workers }

abbrev pub at_outbox : ℕ → (List Parcel → List Parcel) → CoreState → CoreState
at_outbox slot change core = record core { outboxes = changed_at slot change core.outboxes }

abbrev pub at_posts : ℕ → (List Notice → List Notice) → CoreState → CoreState
at_posts slot change core = record core { posts = changed_at slot change core.posts }

-- the connection that an accepted login gave the session is changed, notified of it or not
abbrev pub at_session : SessionId → (Connection → Connection) → CoreState → CoreState
at_session session change core =
    record core {
      connections = map
          (λ connection. if is_of session connection then change connection else connection) core.connections;
    }

-- a count of 64 bits that rises, and stays at its last value
abbrev pub up : ℕ → ℕ
up count = min (count + 1) (2 ^ 64 - 1)
