-- What a step of a port did, and what follows of it for what the port keeps.
use Rattle.std.specs.Prelude.{◌==◌, ℕ, Bool, false, ◌&&◌, List, [], ◌++◌, Option, Some, None, if◌then◌else◌}
use Rattle.std.specs.Option.{option_and_then}
use Rattle.mum_base.specs.declared.number.{Cause.Cause, SessionId.SessionId}
use Rattle.mum_frame.specs.declared.{frame.Frame.Frame, kind.TheConstants.UDP_TUNNEL}
use Rattle.mum_frame.specs.Frame.{frame_spelling, spelling_of}
use Rattle.mum_outbox.specs.Facts.{PassFacts}
use Rattle.mum_parcel.specs.Facts.{PostFacts, VoiceFacts}
use Rattle.mum_session.specs.{Action.action, Action.after_frame, Machine.Machine, Machine.session_of}
use Rattle.mum_session.specs.declared.action.Action.{Action, TheVariants.Echo}
use Rattle.mum_port.specs.Facts.{PortFacts, item_of, stage_after_put}
use Rattle.mum_port.specs.{Steps.desk_refused, Steps.with_offered, Taking.stage_after_post}
use Rattle.mum_port.specs.declared.{item.DeskItem.DeskItem, stage.Stage.Stage}

pub record PortDid : Type 0 where
  -- what it put on the desk
  pub put : Option DeskItem
  -- the bytes that it took from its link, and those that it dropped unhandled as it closed
  pub took : List ℕ
  pub lost : List ℕ
  -- the frame that it handled
  pub handled : Option Frame
  -- what its post box and its voice box gave
  pub post : Option PostFacts
  pub voice : Option VoiceFacts
  -- the bytes that it wrote, and those that it dropped unwritten as it closed
  pub wrote : List ℕ
  pub unsaid : List ℕ
  -- for what it closed
  pub closed : Option Cause

-- ---- the desk

-- the desk's pass after an item was put, or after nothing was: where something was due, the desk was full
abbrev pub desk_after_put : Option DeskItem → Option DeskItem → PassFacts DeskItem → PassFacts DeskItem
desk_after_put (Some item) due desk = with_offered desk item
desk_after_put None due desk = desk_refused due desk

-- what waits once an item was put
abbrev pub waiting_after_put : Option DeskItem → Option DeskItem → Option DeskItem
waiting_after_put (Some item) waiting = None
waiting_after_put None waiting = waiting

-- how far the port has come then
abbrev pub stage_once_put : Option DeskItem → Option DeskItem → Stage → Stage
stage_once_put (Some item) waiting stage = stage_after_put waiting stage
stage_once_put None waiting stage = stage

abbrev pub port_after_put : {L : Type 0} → Option DeskItem → PortFacts L → PortFacts L
port_after_put put port =
    record port { waiting = waiting_after_put put port.waiting; stage = stage_once_put put port.waiting port.stage }

-- ---- the frame that was handled

abbrev pub bytes_of : Option Frame → List ℕ
bytes_of None = []
bytes_of (Some frame) = frame_spelling frame

abbrev pub machine_after : Machine → Option Frame → Machine
machine_after machine None = machine
machine_after machine (Some frame) = after_frame machine frame.kind frame.payload

-- what it asked for
abbrev pub action_of : Machine → Option Frame → Option Action
action_of machine None = None
action_of machine (Some frame) = Some (action machine frame.kind frame.payload)

-- the item that it asked for, if it asked for one
abbrev pub asked_item : Machine → Option Frame → Option DeskItem
asked_item machine frame =
    option_and_then (item_of machine.connection (session_of machine.stage)) (action_of machine frame)

-- an echo is to be written
abbrev pub echo_of : Option Action → List ℕ
echo_of (Some (Echo wire)) = wire
echo_of others = []

-- ---- what the boxes gave

abbrev pub is_for : Option SessionId → SessionId → Bool
is_for None to = false
is_for (Some session) to = to.0 == session.0

-- a parcel of the post box is to be written, where it is for the session
abbrev pub post_bytes : Option SessionId → Option PostFacts → List ℕ
post_bytes session None = []
post_bytes session (Some parcel) = if is_for session parcel.to then parcel.bytes else []

-- a parcel of the voice box is to be written as a frame of type 1, where it is for the session
abbrev pub voice_bytes : Option SessionId → Option VoiceFacts → List ℕ
voice_bytes session None = []
voice_bytes session (Some parcel) = if is_for session parcel.to then spelling_of UDP_TUNNEL parcel.bytes else []

-- a parcel for another session is counted
abbrev pub stray_posts : Option SessionId → Option PostFacts → ℕ
stray_posts session None = 0
stray_posts session (Some parcel) = if is_for session parcel.to then 0 else 1

abbrev pub stray_voices : Option SessionId → Option VoiceFacts → ℕ
stray_voices session None = 0
stray_voices session (Some parcel) = if is_for session parcel.to then 0 else 1

-- whether it is the last parcel of the session
abbrev pub is_last : Option SessionId → Option PostFacts → Bool
is_last session None = false
is_last session (Some parcel) = is_for session parcel.to && parcel.last

-- ---- all of it

-- the bytes that are to be written after those that were, in the order in which the step took them
abbrev pub queued : Machine → PortDid → List ℕ
queued machine did =
    echo_of (action_of machine did.handled)
    ++ (post_bytes (session_of machine.stage) did.post ++ voice_bytes (session_of machine.stage) did.voice)

-- how far a port has come after a step in which it did not close
abbrev pub stage_kept : {L : Type 0} → PortFacts L → PortDid → Stage
stage_kept port did =
    stage_after_post (is_last (session_of port.machine.stage) did.post) (stage_once_put did.put port.waiting port.stage)
