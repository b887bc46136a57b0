-- What a port makes of the first frame that it keeps.
use Rattle.std.specs.Prelude.{◌≡◌, ℕ, ◌⊎◌, List, ◌++◌, Option, Some, None}
use Rattle.mum_base.specs.declared.number.Cause.TheVariants.{FrameTooLong, Memory}
use Rattle.mum_base.specs.declared.number.SessionId.{SessionId}
use Rattle.mum_frame.specs.declared.frame.Frame.{Frame}
use Rattle.mum_frame.specs.Frame.{HasFrame, HasNoFrame, IsFrame, TooLong, frame_spelling}
use Rattle.mum_session.specs.{Action.action, Action.after_frame, Machine.Machine, Machine.session_of}
use Rattle.mum_session.specs.declared.action.Action.{Action, TheVariants.Voice, TheVariants.Echo}
use Rattle.mum_port.specs.Facts.{item_of, waiting_after}
use Rattle.mum_port.specs.declared.{item.DeskItem.DeskItem, stage.Went.Went}
use Rattle.mum_port.specs.declared.stage.Went.TheVariants.{Stalled, Worked, Closes}

-- where what a frame asks for goes: what waits for the desk, what is to be written, and the router
pub record Sinks (V : Type 0) : Type 0 where
  pub waiting : Option DeskItem
  pub out : List ℕ
  pub router : V

module _ {V : Type 0} (routed : V → ℕ → SessionId → List ℕ → V → Type 0) where
  -- a packet of a session goes to the router
  abbrev pub Routes : ℕ → Option SessionId → List ℕ → V → V → Type 0
  Routes connection (Some session) packet router router_after = routed router connection session packet router_after
  Routes connection None packet router router_after = router_after ≡ router

  -- what a frame asks for is done: a packet is routed, an echo is written after all else, or there is no memory for it, and an
  -- item waits for the desk
  abbrev pub Acts : ℕ → Option SessionId → Action → Sinks V → Went → Sinks V → Type 0
  Acts connection session (Voice packet) old went new =
      (went ≡ Worked) × (new ≡ record old { router = new.router })
      × Routes connection session packet old.router new.router
  Acts connection session (Echo wire) old went new =
      (new ≡ record old { out = new.out })
      × (((went ≡ Worked) × (new.out ≡ old.out ++ wire)) ⊎ ((went ≡ Closes Memory) × (new.out ≡ old.out)))
  Acts connection session others old went new =
      (went ≡ Worked) × (new ≡ record old { waiting = waiting_after (item_of connection session others) old.waiting })

  -- the machine takes a frame, and what the frame asks for is done
  pub record HandlesFrame (machine : Machine) (frame : Frame) (old : Sinks V) (went : Went) (machine_after : Machine)
      (new : Sinks V) : Type 0 where
    pub taken : machine_after ≡ after_frame machine frame.kind frame.payload
    pub acts : Acts machine.connection (session_of machine.stage) (action machine frame.kind frame.payload) old went new

  -- nothing changes: memory ran out
  pub record FindsNoMemory (machine : Machine) (old : Sinks V) (went : Went) (machine_after : Machine)
      (new : Sinks V) : Type 0 where
    pub went_so : went ≡ Closes Memory
    pub machine_same : machine_after ≡ machine
    pub same : new ≡ old

  abbrev pub TakesFrame : Machine → Frame → Sinks V → Went → Machine → Sinks V → Type 0
  TakesFrame machine frame old went machine_after new =
      HandlesFrame machine frame old went machine_after new ⊎ FindsNoMemory machine old went machine_after new

  -- the first frame that is kept is handled
  pub record HandlesFirst (machine : Machine) (kept : List ℕ) (old : Sinks V) (went : Went) (machine_after : Machine)
      (kept_after : List ℕ) (new : Sinks V) : Type 0 where
    pub frame : Frame
    pub whole : IsFrame frame
    pub first : kept ≡ frame_spelling frame ++ kept_after
    pub handled : HandlesFrame machine frame old went machine_after new

  abbrev pub HandlesWhole : Machine → List ℕ → Sinks V → Went → Machine → List ℕ → Sinks V → Type 0
  HandlesWhole machine kept old went machine_after kept_after new =
      HandlesFirst machine kept old went machine_after kept_after new ⊎ FindsNoMemory machine old went machine_after new

  -- no frame is kept and nothing changes, but that the port closes where a length above the limit is kept
  pub record FindsNoFrame (machine : Machine) (kept : List ℕ) (old : Sinks V) (went : Went) (machine_after : Machine)
      (kept_after : List ℕ) (new : Sinks V) : Type 0 where
    pub why : ((went ≡ Stalled) × HasNoFrame kept × ¬ TooLong kept) ⊎ ((went ≡ Closes FrameTooLong) × TooLong kept)
    pub machine_same : machine_after ≡ machine
    pub kept_same : kept_after ≡ kept
    pub same : new ≡ old

  -- the first frame that is kept is handled, or memory ran out beside it, or none is kept
  abbrev pub HandlesKept : Machine → List ℕ → Sinks V → Went → Machine → List ℕ → Sinks V → Type 0
  HandlesKept machine kept old went machine_after kept_after new =
      (HasFrame kept × HandlesWhole machine kept old went machine_after kept_after new)
      ⊎ FindsNoFrame machine kept old went machine_after kept_after new
