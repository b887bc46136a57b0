-- What happens to a port, one event after another.
use Rattle.std.specs.Prelude.{◌≡◌, ℕ, List, [], ◌∷◌, Option, option_to_list}
use Rattle.std.specs.List.{flat_map}
use Rattle.mum_base.specs.declared.{number.Cause.Cause, number.SessionId.SessionId, reply.ReplyEnd.ReplyEnd}
use Rattle.mum_io.specs.Link.{LinkFacts}
use Rattle.mum_frame.specs.declared.frame.Frame.{Frame}
use Rattle.mum_outbox.specs.Facts.{PassFacts, QueueFacts}
use Rattle.mum_session.specs.Machine.{Machine}
use Rattle.mum_port.specs.{Did.PortDid, Did.asked_item, Did.queued, Facts.PortFacts, Facts.leave}
use Rattle.mum_port.specs.{Replies.Answers, Replies.Lags, Turn.PortTurn, Passes.PassesFacts}
use Rattle.mum_port.specs.declared.{item.DeskItem.DeskItem, port.Step.Step}
use Rattle.mum_port.specs.declared.stage.{Farewell.TheVariants.LastWord, Farewell.TheVariants.Done, Stage.Stage}
use Rattle.mum_port.specs.declared.stage.Stage.TheVariants.{Closed}
use Rattle.mum_port.specs.declared.item.DeskItem.TheVariants as items

-- a reply as a port hears it: how its wait ends, the bytes that its client gets, and the passes that it gives
pub record Heard : Type 0 where
  pub end : ReplyEnd
  pub wire : List ℕ
  pub passes : Option PassesFacts

-- a step that did this, with the machine that the connection was before it; a reply, or a lag, and for what the port closed
-- at it, if it did
pub data Event : Type 0 where
  stepped : Machine → PortDid → Event
  replied : Heard → Option Cause → Event
  lagged : Option Cause → Event

module _ {L V : Type 0} (facts : L → LinkFacts) (routed : V → ℕ → SessionId → List ℕ → V → Type 0) where
  pub record Steps (old : PortFacts L) (machine : Machine) (did : PortDid) (new : PortFacts L) : Type 0 where
    pub of_port : machine ≡ old.machine
    pub posts : List QueueFacts
    pub voices : List QueueFacts
    pub desk : PassFacts DeskItem
    pub desk_after : PassFacts DeskItem
    pub router : V
    pub router_after : V
    pub step : Step
    pub turn : PortTurn facts routed posts voices old desk router did step new desk_after router_after

  abbrev pub Happens : PortFacts L → Event → PortFacts L → Type 0
  Happens old (stepped machine did) new = Steps old machine did new
  Happens old (replied heard closed) new = Answers facts heard.end heard.wire heard.passes old closed new
  Happens old (lagged closed) new = Lags facts old closed new

  -- the events, one after another, lead from this port to that
  abbrev pub Lives : PortFacts L → List Event → PortFacts L → Type 0
  Lives old [] new = new ≡ old
  Lives old (event ∷ events) new = (mid : PortFacts L) × Happens old event mid × Lives mid events new

-- ---- what came of the events

-- what one event gave, where a step gave this
abbrev pub in_step : {A : Type 0} → (Machine → PortDid → List A) → Event → List A
in_step given (stepped machine did) = given machine did
in_step given others = []

abbrev pub bytes_taken : List Event → List ℕ
bytes_taken events = flat_map (in_step (λ machine did. did.took)) events

abbrev pub frames_handled : List Event → List Frame
frames_handled events = flat_map (in_step (λ machine did. option_to_list did.handled)) events

-- what is to be written of a step, or of a reply, in the order in which it was taken
abbrev pub queued_by : Event → List ℕ
queued_by (replied heard closed) = heard.wire
queued_by event = in_step queued event

abbrev pub bytes_queued : List Event → List ℕ
bytes_queued events = flat_map queued_by events

abbrev pub bytes_written : List Event → List ℕ
bytes_written events = flat_map (in_step (λ machine did. did.wrote)) events

-- what was put on the desk
abbrev pub items_put : List Event → List DeskItem
items_put events = flat_map (in_step (λ machine did. option_to_list did.put)) events

-- what frames asked for
abbrev pub items_asked : List Event → List DeskItem
items_asked events = flat_map (in_step (λ machine did. option_to_list (asked_item machine did.handled))) events

-- the words of the farewell that a port has said
abbrev pub words_said : Machine → Stage → List DeskItem
words_said machine (Closed cause LastWord) = items.Command (leave machine) ∷ []
words_said machine (Closed cause Done) = items.Command (leave machine) ∷ items.Closed machine.connection ∷ []
words_said machine others = []

-- no reply is among them
abbrev pub AreUnanswered : List Event → Type 0
AreUnanswered [] = Unit {0}
AreUnanswered (replied heard closed ∷ events) = ⊥
AreUnanswered (event ∷ events) = AreUnanswered events
