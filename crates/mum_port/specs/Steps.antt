-- What each part of a port's step does, and the whole step as a chain of them.
use Rattle.std.specs.Prelude.{◌≡◌, ◌⊎◌, ◌==◌, ◌||◌, ◌&&◌, ◌+◌, ℕ, Bool, true, false, not, IsTrue, is_some, List, [], ◌∷◌, length, Option, Some, None, ◌++◌}
use Rattle.std.specs.List.{list_any}
use Rattle.mum_base.specs.declared.number.{Cause.Cause, SessionId.SessionId}
use Rattle.mum_io.specs.Link.{LinkFacts}
use Rattle.mum_outbox.specs.{Calls.one_more, Facts.PassFacts, Facts.QueueFacts}
use Rattle.mum_port.specs.Facts.{MayRead, PortFacts, due_item, empty_framer, may_handle, may_write, stage_after_put, taking_session}
use Rattle.mum_port.specs.Handling.{HandlesKept, Sinks}
use Rattle.mum_port.specs.Linking.{ReadsLink, ShutsLink, WritesLink}
use Rattle.mum_port.specs.Stage.{after_word, cause_of, closed_for, has_worked, is_closed, settled_where, stage_by}
use Rattle.mum_port.specs.Taking.{Collects, Drains, foreign_count, has_taken}
use Rattle.mum_port.specs.declared.{item.DeskItem.DeskItem, outbound.Taking.Taking, port.Step.Step, stage.Stage.Stage}
use Rattle.mum_port.specs.declared.stage.Went.{Went, TheVariants.NotDue}
use Rattle.mum_port.specs.declared.outbound.Taking.TheVariants as taking

-- ---- the desk

-- the item is the last that was offered to the desk
abbrev pub with_offered : PassFacts DeskItem → DeskItem → PassFacts DeskItem
with_offered desk item = record desk { offered = desk.offered ++ item ∷ [] }

-- one more offer found the desk full
abbrev pub with_refused : PassFacts DeskItem → PassFacts DeskItem
with_refused desk = record desk { full = one_more desk.full }

-- what waited is on the desk, or waits on since the desk was full
abbrev pub PutsWaiting : Option DeskItem → PassFacts DeskItem → Bool → PassFacts DeskItem → Option DeskItem → Type 0
PutsWaiting None desk put after waiting_after = (put ≡ false) × (after ≡ desk) × (waiting_after ≡ None)
PutsWaiting (Some item) desk put after waiting_after =
    ((put ≡ true) × (after ≡ with_offered desk item) × (waiting_after ≡ None))
    ⊎ ((put ≡ false) × (after ≡ with_refused desk) × (waiting_after ≡ Some item))

-- a word of the farewell is on the desk, or is owed on since the desk was full
abbrev pub PutsWord : DeskItem → PassFacts DeskItem → Stage → Bool → PassFacts DeskItem → Stage → Type 0
PutsWord word desk stage put after stage_after =
    ((put ≡ true) × (after ≡ with_offered desk word) × (stage_after ≡ after_word stage))
    ⊎ ((put ≡ false) × (after ≡ with_refused desk) × (stage_after ≡ stage))

-- what an offer that was not accepted leaves of the pass: a full desk is counted, where something was due
abbrev pub desk_refused : Option DeskItem → PassFacts DeskItem → PassFacts DeskItem
desk_refused None desk = desk
desk_refused (Some item) desk = with_refused desk

module _ {L : Type 0} where
  -- what was due is on the desk: what waited waits no more, or the farewell goes on
  pub record PutsItem (old : PortFacts L) (desk : PassFacts DeskItem) (put : Bool) (new : PortFacts L)
      (after : PassFacts DeskItem) : Type 0 where
    pub item : DeskItem
    pub due : due_item old ≡ Some item
    pub so : put ≡ true
    pub offered : after ≡ with_offered desk item
    pub left : new ≡ record old { waiting = None; stage = stage_after_put old.waiting old.stage }

  -- nothing was due, or the desk was full
  pub record PutsNothing (old : PortFacts L) (desk : PassFacts DeskItem) (put : Bool) (new : PortFacts L)
      (after : PassFacts DeskItem) : Type 0 where
    pub so : put ≡ false
    pub refused : after ≡ desk_refused (due_item old) desk
    pub same : new ≡ old

  abbrev pub Puts : PortFacts L → PassFacts DeskItem → Bool → PortFacts L → PassFacts DeskItem → Type 0
  Puts old desk put new after = PutsItem old desk put new after ⊎ PutsNothing old desk put new after

-- ---- the link

-- the stage of a port that keeps these bytes to be written: one that ends closes once it keeps none
abbrev pub settled : List ℕ → Stage → Stage
settled out stage = settled_where (length out == 0) stage

module _ {L : Type 0} where
  -- a part of the step that the port might not do: it did nothing
  pub record IsNotDue (may : Type 0) (old : PortFacts L) (went : Went) (new : PortFacts L) : Type 0 where
    pub forbidden : ¬ may
    pub so : went ≡ NotDue
    pub same : new ≡ old

  -- it might not look at its boxes, and took nothing
  pub record TakesNothing (old : PortFacts L) (took : Taking) (new : PortFacts L) : Type 0 where
    pub forbidden : taking_session old ≡ None
    pub so : took ≡ taking.NotDue
    pub same : new ≡ old

  -- one take from the post box; after a notice the voice box comes first
  pub record CollectsOne (posts : List QueueFacts) (old : PortFacts L) (took : Taking)
      (new : PortFacts L) : Type 0 where
    pub session : SessionId
    pub allowed : taking_session old ≡ Some session
    pub taken : Collects posts session old.passes old.stage took new.passes new.out new.stage
    pub left : new
        ≡ record old {
          passes = new.passes;
          out = new.out;
          stage = new.stage;
          voice_first = has_taken took
              || old.voice_first;
        }

  abbrev pub CollectsPost : List QueueFacts → PortFacts L → Taking → PortFacts L → Type 0
  CollectsPost posts old took new = TakesNothing old took new ⊎ CollectsOne posts old took new

  -- one take from the voice box; after a voice packet the post box comes first
  pub record DrainsOne (voices : List QueueFacts) (old : PortFacts L) (took : Taking) (new : PortFacts L) : Type 0 where
    pub session : SessionId
    pub allowed : taking_session old ≡ Some session
    pub taken : Drains voices session old.passes took new.passes new.out
    pub left : new
        ≡ record old { passes = new.passes; out = new.out; voice_first = not (has_taken took) && old.voice_first }

  abbrev pub DrainsVoice : List QueueFacts → PortFacts L → Taking → PortFacts L → Type 0
  DrainsVoice voices old took new = TakesNothing old took new ⊎ DrainsOne voices old took new

  -- its post box comes first, and then its voice box, where it still might look at it
  pub record TakesPostFirst (posts voices : List QueueFacts) (old : PortFacts L) (posted heard : Taking)
      (new : PortFacts L) : Type 0 where
    pub turn : old.voice_first ≡ false
    pub mid : PortFacts L
    pub collects : CollectsPost posts old posted mid
    pub drains : DrainsVoice voices mid heard new

  -- after a voice packet of the same step the post box is not looked at
  abbrev pub CollectsBehind : List QueueFacts → Bool → PortFacts L → Taking → PortFacts L → Type 0
  CollectsBehind posts true old took new = (took ≡ taking.NotDue) × (new ≡ old)
  CollectsBehind posts false old took new = CollectsPost posts old took new

  -- its voice box comes first, and where that gave nothing its post box
  pub record TakesVoiceFirst (posts voices : List QueueFacts) (old : PortFacts L) (posted heard : Taking)
      (new : PortFacts L) : Type 0 where
    pub turn : old.voice_first ≡ true
    pub mid : PortFacts L
    pub drains : DrainsVoice voices old heard mid
    pub collects : CollectsBehind posts (has_taken heard) mid posted new

  abbrev pub TakesParcels : List QueueFacts → List QueueFacts → PortFacts L → Taking → Taking → PortFacts L → Type 0
  TakesParcels posts voices old posted heard new =
      TakesPostFirst posts voices old posted heard new ⊎ TakesVoiceFirst posts voices old posted heard new

  -- where what a frame of a port asks for goes, with the router
  abbrev pub sinks : {V : Type 0} → PortFacts L → V → Sinks V
  sinks port router = record { waiting = port.waiting; out = port.out; router = router }

  -- a frame was looked for, where one might be handled
  pub record HandlesOne {V : Type 0} (routed : V → ℕ → SessionId → List ℕ → V → Type 0) (old : PortFacts L) (router : V)
      (went : Went) (new : PortFacts L) (router_after : V) : Type 0 where
    pub allowed : IsTrue (may_handle old)
    pub handled : HandlesKept routed old.machine old.framer.kept (sinks old router) went new.machine new.framer.kept
        (sinks new router_after)
    pub left : new ≡ record old { machine = new.machine; framer = new.framer; waiting = new.waiting; out = new.out; stage = stage_by went old.stage }

  abbrev pub Handles : {V : Type 0} → (V → ℕ → SessionId → List ℕ → V → Type 0) → PortFacts L → V → Went → PortFacts L
      → V → Type 0
  Handles routed old router went new router_after =
      (IsNotDue (IsTrue (may_handle old)) old went new × (router_after ≡ router)) ⊎ HandlesOne routed old router went new router_after

module _ {L : Type 0} (facts : L → LinkFacts) where
  -- a read was made
  pub record ReadsOnce (old : PortFacts L) (went : Went) (new : PortFacts L) : Type 0 where
    pub allowed : MayRead old
    pub read : ReadsLink facts old.link old.framer.kept went new.link new.framer.kept
    pub rest : new ≡ record old { link = new.link; framer = new.framer; stage = stage_by went old.stage }

  abbrev pub Reads : PortFacts L → Went → PortFacts L → Type 0
  Reads old went new = IsNotDue (MayRead old) old went new ⊎ ReadsOnce old went new

  -- a write was made
  pub record WritesOnce (old : PortFacts L) (went : Went) (new : PortFacts L) : Type 0 where
    pub allowed : IsTrue (may_write old)
    pub wrote : WritesLink facts old.link old.out went new.link new.out
    pub rest : new ≡ record old { link = new.link; out = new.out; stage = stage_by went old.stage }

  abbrev pub Writes : PortFacts L → Went → PortFacts L → Type 0
  Writes old went new = IsNotDue (IsTrue (may_write old)) old went new ⊎ WritesOnce old went new

  -- the port closes: its link is shut, and the memory of what it keeps is given back
  pub record ClosesFor (cause : Cause) (old new : PortFacts L) : Type 0 where
    pub shuts : ShutsLink facts old.link new.link
    pub rest : new ≡ record old { link = new.link; framer = empty_framer; out = []; stage = closed_for cause }

  -- the port closed in this step
  pub record ClosesNow (was_closed : Bool) (old : PortFacts L) (closed : Option Cause)
      (new : PortFacts L) : Type 0 where
    pub cause : Cause
    pub was_open : was_closed ≡ false
    pub by : cause_of (settled old.out old.stage) ≡ Some cause
    pub so : closed ≡ Some cause
    pub closes : ClosesFor cause old new

  -- it did not
  pub record StaysAsItIs (was_closed : Bool) (old : PortFacts L) (closed : Option Cause)
      (new : PortFacts L) : Type 0 where
    pub why : (was_closed ≡ true) ⊎ (cause_of (settled old.out old.stage) ≡ None)
    pub so : closed ≡ None
    pub same : new ≡ old

  abbrev pub Settles : Bool → PortFacts L → Option Cause → PortFacts L → Type 0
  Settles was_closed old closed new = StaysAsItIs was_closed old closed new ⊎ ClosesNow was_closed old closed new

-- what the parts of a step came to together: it worked where one did, and each parcel for another session is stale
abbrev pub step_of : Bool → List Went → Taking → Taking → Option Cause → Step
step_of put went posted heard closed = record {
  worked = put || (list_any has_worked went || (has_taken posted || (has_taken heard || is_some closed)));
  stale = foreign_count posted + foreign_count heard;
  closed = closed;
}

module _ {L V : Type 0} (facts : L → LinkFacts) (routed : V → ℕ → SessionId → List ℕ → V → Type 0) where
  -- a step as the chain of its parts, with the port between them
  pub record PortChain (posts voices : List QueueFacts) (old : PortFacts L) (desk : PassFacts DeskItem) (router : V)
      (step : Step)
      (new : PortFacts L) (desk_after : PassFacts DeskItem) (router_after : V) : Type 0 where
    pub put : Bool
    pub read : Went
    pub handled : Went
    pub posted : Taking
    pub heard : Taking
    pub wrote : Went
    pub closed : Option Cause
    pub after_put : PortFacts L
    pub after_read : PortFacts L
    pub after_handle : PortFacts L
    pub after_take : PortFacts L
    pub after_write : PortFacts L
    pub puts : Puts old desk put after_put desk_after
    pub reads : Reads facts after_put read after_read
    pub handles : Handles routed after_read router handled after_handle router_after
    pub takes : TakesParcels posts voices after_handle posted heard after_take
    pub writes : Writes facts after_take wrote after_write
    pub settles : Settles facts (is_closed old.stage) after_write closed new
    pub came_to : step ≡ step_of put (read ∷ handled ∷ wrote ∷ []) posted heard closed
