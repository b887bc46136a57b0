-- What contracts see of a port, and what it may do.
use Rattle.std.specs.Prelude.{◌==◌, ℕ, Bool, false, ◌&&◌, not, nat_le, is_none, IsTrue, List, [], length, Option, Some, None, if◌then◌else◌}
use Rattle.std.specs.Option.{option_map}
use Rattle.mum_base.specs.declared.number.SessionId.{SessionId}
use Rattle.mum_frame.specs.{Frame.HasNoFrame, Frame.TooLong, Stream.FramerState}
use Rattle.mum_session.specs.declared.action.Action.{Action, TheVariants.Ask, TheVariants.Bans}
use Rattle.mum_session.specs.declared.command.{Asked.TheVariants.User, Command.Command}
use Rattle.mum_session.specs.Machine.{Machine, fresh_with_bans, session_of}
use Rattle.mum_port.specs.{Stage.after_word, Stage.is_closed, Stage.is_live, Passes.PassesFacts}
use Rattle.mum_port.specs.declared.{item.DeskItem.DeskItem, port.TheConstants.UNWRITTEN_LIMIT}
use Rattle.mum_port.specs.declared.stage.{Farewell.TheVariants.Leave, Farewell.TheVariants.LastWord, Stage.Stage}
use Rattle.mum_port.specs.declared.stage.Stage.TheVariants.{Live, Closed}
use Rattle.mum_rules_user.specs.declared.message.UserMessage.TheVariants as about
use Rattle.mum_port.specs.declared.item.DeskItem.TheVariants as items

pub record PortFacts (L : Type 0) : Type 0 where
  pub link : L
  pub machine : Machine
  -- the bytes that were taken from the link and not handled
  pub framer : FramerState
  -- what waits for the desk
  pub waiting : Option DeskItem
  -- the bytes that are to be written
  pub out : List ℕ
  pub passes : Option PassesFacts
  -- it looks at its voice box before its post box: what it took last was a notice
  pub voice_first : Bool
  pub stage : Stage

-- a framer that keeps nothing and has no room
abbrev pub empty_framer : FramerState
empty_framer = record { kept = []; room = 0 }

-- a port of a connection that was taken in
abbrev pub new_port : {L : Type 0} → ℕ → ℕ → L → PortFacts L
new_port connection worker link = record {
  link = link;
  machine = fresh_with_bans connection worker;
  framer = empty_framer;
  waiting = None;
  out = [];
  passes = None;
  voice_first = false;
  stage = Live;
}

-- the command by which a connection goes, with the session that it has
abbrev pub leave : Machine → Command
leave machine =
    record { connection = machine.connection; worker = machine.worker; session = session_of machine.stage; what = User about.Leave }

-- what an action of a connection, which may have a session, puts on the desk: its command, or the bans that its session sent
abbrev pub item_of : ℕ → Option SessionId → Action → Option DeskItem
item_of connection session (Ask command) = Some (items.Command command)
item_of connection session (Bans payload) = option_map (λ own. items.Bans connection own payload) session
item_of connection session others = None

-- what waits for the desk once an item was asked for, or none
abbrev pub waiting_after : Option DeskItem → Option DeskItem → Option DeskItem
waiting_after None waiting = waiting
waiting_after (Some item) waiting = Some item

-- what a port that closed owes the desk next
abbrev pub next_word : Machine → Stage → Option DeskItem
next_word machine (Closed cause Leave) = Some (items.Command (leave machine))
next_word machine (Closed cause LastWord) = Some (items.Closed machine.connection)
next_word machine others = None

-- what is next for the desk: what waits, and else the farewell
abbrev pub next_item : Option DeskItem → Machine → Stage → Option DeskItem
next_item (Some item) machine stage = Some item
next_item None machine stage = next_word machine stage

-- the stage once that item is on the desk
abbrev pub stage_after_put : Option DeskItem → Stage → Stage
stage_after_put (Some item) stage = stage
stage_after_put None stage = after_word stage

module _ {L : Type 0} where
  abbrev pub due_item : PortFacts L → Option DeskItem
  due_item port = next_item port.waiting port.machine port.stage

  -- it may handle a whole frame: it is live, awaits no reply, nothing of it waits for the desk, and it has little to write
  abbrev pub may_handle : PortFacts L → Bool
  may_handle port =
      is_live port.stage
      && (not port.machine.awaits && (is_none port.waiting && nat_le (length port.out) UNWRITTEN_LIMIT))

  -- it may read: it might handle a frame, and keeps none and no length above the limit
  pub record MayRead (port : PortFacts L) : Type 0 where
    pub ready : IsTrue (may_handle port)
    pub no_frame : HasNoFrame port.framer.kept
    pub not_too_long : ¬ TooLong port.framer.kept

  -- it may write: it is open, and has something to write
  abbrev pub may_write : PortFacts L → Bool
  may_write port = not (is_closed port.stage) && (not (length port.out == 0))

  -- its session, where it may look at its boxes: it is live and logged in, and has nothing to write
  abbrev pub taking_session : PortFacts L → Option SessionId
  taking_session port = if is_live port.stage && (length port.out == 0) then session_of port.machine.stage else None
