-- What holds of one step of a port, sentence by sentence.
use Rattle.std.specs.Prelude.{◌≡◌, ◌≢◌, ◌⊎◌, ◌+◌, ◌<◌, ◌≤◌, ℕ, Bool, true, false, IsTrue, List, [], ◌++◌, length, slice_get, Option, Some, None}
use Rattle.mum_base.specs.declared.number.{Cause.Cause, SessionId.SessionId}
use Rattle.mum_base.specs.declared.number.TheConstants.{POST_CAPACITY, VOICE_CAPACITY}
use Rattle.mum_base.specs.declared.number.Cause.TheVariants.{End, LinkFault, FrameTooLong, Rejected, Kicked, Lagged, Memory}
use Rattle.mum_io.specs.Counts.{NoneFalls, Rose}
use Rattle.mum_io.specs.Link.{Appends, Consumes, IsAtEnd, LinkFacts}
use Rattle.mum_frame.specs.declared.frame.Frame.{Frame}
use Rattle.mum_frame.specs.Frame.{HasFrame, HasNoFrame, IsFrame, TooLong}
use Rattle.mum_outbox.specs.{Calls.Takes, Facts.PassFacts, Facts.QueueFacts}
use Rattle.mum_parcel.specs.Facts.{PostFacts, VoiceFacts}
use Rattle.mum_session.specs.Machine.{session_of}
use Rattle.mum_session.specs.declared.action.Action.{Action, TheVariants.Voice}
use Rattle.mum_port.specs.Did.{PortDid, action_of, asked_item, bytes_of, desk_after_put, echo_of, is_last, machine_after, port_after_put, post_bytes, queued, stage_kept, stray_posts, stray_voices, waiting_after_put}
use Rattle.mum_port.specs.Facts.{MayRead, PortFacts, due_item, empty_framer, may_handle, may_write, taking_session, waiting_after}
use Rattle.mum_port.specs.{Stage.closed_for, Stage.is_closed, Passes.PassesFacts}
use Rattle.mum_port.specs.declared.{item.DeskItem.DeskItem, port.Step.Step, port.TheConstants.UNWRITTEN_LIMIT}
use Rattle.mum_port.specs.declared.stage.{Parting.Parting, Stage.TheVariants.Ending}
use Rattle.mum_port.specs.declared.stage.Parting.TheVariants as partings

-- ---- what is handled

module _ {L : Type 0} where
  -- a frame is handled where the port may, once it put what waited, and the machine takes it
  pub record HandlesInTurn (old : PortFacts L) (did : PortDid) (new : PortFacts L) : Type 0 where
    pub whole : (frame : Frame) → did.handled ≡ Some frame → IsFrame frame
    pub allowed : (frame : Frame) → did.handled ≡ Some frame → IsTrue (may_handle (port_after_put did.put old))
    pub machine : new.machine ≡ machine_after old.machine did.handled

-- a packet goes to the router with the session that sent it, and nothing else does
module _ {V : Type 0} (routed : V → ℕ → SessionId → List ℕ → V → Type 0) where
  abbrev pub RoutesPacket : ℕ → Option SessionId → Option Action → V → V → Type 0
  RoutesPacket connection session (Some (Voice packet)) router after =
      (speaker : SessionId) × (session ≡ Some speaker) × routed router connection speaker packet after
  RoutesPacket connection session others router after = after ≡ router

-- ---- the desk

module _ {L : Type 0} where
  -- at most one item is put, which was due; what its frame asked for waits
  pub record PutsInTurn (old : PortFacts L) (desk : PassFacts DeskItem) (did : PortDid) (new : PortFacts L)
      (after : PassFacts DeskItem) : Type 0 where
    pub due : (item : DeskItem) → did.put ≡ Some item → due_item old ≡ Some item
    pub pass : after ≡ desk_after_put did.put (due_item old) desk
    pub waiting : new.waiting
        ≡ waiting_after (asked_item old.machine did.handled) (waiting_after_put did.put old.waiting)

-- ---- the boxes

-- a pass was not used, or took what the box gave
abbrev pub TakesAtMostOne : {I : Type 0} → ℕ → PassFacts I → Option I → PassFacts I → Type 0
TakesAtMostOne capacity pass parcel after = ((parcel ≡ None) × (after ≡ pass)) ⊎ Takes capacity pass parcel after

pub record PassTakes (passes : PassesFacts) (did : PortDid) (after : PassesFacts) : Type 0 where
  pub slot : after.slot ≡ passes.slot
  pub post : TakesAtMostOne POST_CAPACITY passes.post did.post after.post
  pub voice : TakesAtMostOne VOICE_CAPACITY passes.voice did.voice after.voice

abbrev pub NothingTaken : PortDid → Type 0
NothingTaken did = (did.post ≡ None) × (did.voice ≡ None)

-- a port takes from the boxes of its passes alone
abbrev pub PassesTake : Option PassesFacts → PortDid → Option PassesFacts → Type 0
PassesTake None did None = NothingTaken did
PassesTake (Some passes) did (Some after) = PassTakes passes did after
PassesTake passes did after = ⊥

module _ {L : Type 0} where
  -- its boxes were not looked at, or it might look at them: it is live and logged in, and had nothing to write
  abbrev pub LooksWhereItMay : PortFacts L → PortDid → PortFacts L → Type 0
  LooksWhereItMay old did new =
      (NothingTaken did × (new.passes ≡ old.passes)) ⊎ ((session : SessionId) × (taking_session old ≡ Some session))

  -- one parcel of each box of its slot at most; what is for another session is counted
  pub record TakesInTurn (old : PortFacts L) (did : PortDid) (step : Step) (new : PortFacts L) : Type 0 where
    pub passes : PassesTake old.passes did new.passes
    pub looks : LooksWhereItMay old did new
    pub stale : step.stale
        ≡ stray_posts (session_of old.machine.stage) did.post + stray_voices (session_of old.machine.stage) did.voice

  -- it took bytes, or kept a whole frame that it might handle
  abbrev pub UsedMemory : PortFacts L → PortDid → Type 0
  UsedMemory old did = (did.took ≢ []) ⊎ (IsTrue (may_handle (port_after_put did.put old)) × HasFrame old.framer.kept)

  -- where each frame that it takes to be written has at most n bytes, it keeps at most these above the limit, if it did before
  abbrev pub KeepsWithin : PortFacts L → PortDid → PortFacts L → Type 0
  KeepsWithin old did new = (frame_limit : ℕ) → length (queued old.machine did) ≤ frame_limit
      → length old.out ≤ UNWRITTEN_LIMIT + frame_limit → length new.out ≤ UNWRITTEN_LIMIT + frame_limit

-- ---- the order of the boxes

-- the box of the passes had nothing, if there is one
abbrev pub FindsNothing : {I : Type 0} → ℕ → List QueueFacts → ℕ → PassFacts I → PassFacts I → Type 0
FindsNothing capacity boxes slot pass after =
    (queue : QueueFacts) → slice_get boxes slot ≡ Some queue → Takes capacity pass None after

abbrev pub FindsPostEmpty : List QueueFacts → Option PassesFacts → Option PassesFacts → Type 0
FindsPostEmpty posts None after = after ≡ None
FindsPostEmpty posts (Some passes) None = ⊥
FindsPostEmpty posts (Some passes) (Some after) = FindsNothing POST_CAPACITY posts passes.slot.0 passes.post after.post

abbrev pub FindsVoiceEmpty : List QueueFacts → Option PassesFacts → Option PassesFacts → Type 0
FindsVoiceEmpty voices None after = after ≡ None
FindsVoiceEmpty voices (Some passes) None = ⊥
FindsVoiceEmpty voices (Some passes) (Some after) =
    FindsNothing VOICE_CAPACITY voices passes.slot.0 passes.voice after.voice

-- the voice box comes first after a notice, and the post box after a voice packet
abbrev pub voice_first_after : Option PostFacts → Option VoiceFacts → Bool → Bool
voice_first_after post (Some voice) before = false
voice_first_after (Some post) None before = true
voice_first_after None None before = before

module _ {L : Type 0} where
  -- neither box waits for the other: after a notice the next is taken only where the voice box had nothing, and after a voice
  -- packet the next is taken only where the post box had nothing, or gave something before it in the same step
  pub record TakesByTurns (posts voices : List QueueFacts) (old : PortFacts L) (did : PortDid)
      (new : PortFacts L) : Type 0 where
    pub notice_behind_notice : old.voice_first ≡ true → did.post ≢ None
        → (did.voice ≡ None) × FindsVoiceEmpty voices old.passes new.passes
    pub voice_behind_voice : old.voice_first ≡ false → did.voice ≢ None → did.post ≡ None
        → FindsPostEmpty posts old.passes new.passes
    pub next : new.voice_first ≡ voice_first_after did.post did.voice old.voice_first

  -- each box gave something or had nothing, but the second where what the first gave is to come before it
  pub record HasLooked (posts voices : List QueueFacts) (session : SessionId) (old : PortFacts L) (did : PortDid)
      (new : PortFacts L) : Type 0 where
    pub post : did.post ≡ None → (old.voice_first ≡ true → did.voice ≡ None)
        → FindsPostEmpty posts old.passes new.passes
    pub voice : did.voice ≡ None
        → (old.voice_first ≡ false
        → (post_bytes (Some session) did.post ≡ []) × (is_last (Some session) did.post ≡ false))
        → FindsVoiceEmpty voices old.passes new.passes

-- ---- a step that did nothing

abbrev pub did_nothing : PortDid
did_nothing = record { put = None; took = []; lost = []; handled = None; post = None; voice = None; wrote = []; unsaid = []; closed = None }

-- ---- the link, and the close

module _ {L : Type 0} (facts : L → LinkFacts) where
  -- no byte is lost or made: those that were kept, and then those that it took, are those of the frame that it handled, and then
  -- those that it keeps
  pub record ReadsInTurn (old : PortFacts L) (did : PortDid) (new : PortFacts L) : Type 0 where
    pub bytes : old.framer.kept ++ did.took ≡ bytes_of did.handled ++ (new.framer.kept ++ did.lost)
    pub lost_at_close : did.closed ≡ None → did.lost ≡ []
    pub allowed : did.took ≢ [] → MayRead (port_after_put did.put old)
    pub consumed : Consumes (facts old.link).left (facts new.link).left did.took

  -- what was to be written, and then what it took to be written, is what it wrote, and then what it keeps
  pub record WritesInTurn (old : PortFacts L) (did : PortDid) (new : PortFacts L) : Type 0 where
    pub bytes : old.out ++ queued old.machine did ≡ did.wrote ++ (new.out ++ did.unsaid)
    pub unsaid_at_close : did.closed ≡ None → did.unsaid ≡ []
    pub allowed : did.wrote ≢ [] → is_closed old.stage ≡ false
    pub appended : Appends (facts old.link).written (facts new.link).written did.wrote

  -- what shows the cause for which a port closed
  abbrev pub ShowsCause : PortFacts L → PortDid → PortFacts L → Cause → Type 0
  ShowsCause old did new End =
      Rose (facts old.link).counts.ends (facts new.link).counts.ends × (did.handled ≡ None) × (did.took ≡ [])
      × HasNoFrame did.lost × IsAtEnd (facts old.link).left
  ShowsCause old did new LinkFault = Rose (facts old.link).counts.faults (facts new.link).counts.faults
  ShowsCause old did new FrameTooLong = (did.handled ≡ None) × TooLong did.lost × HasNoFrame did.lost
  ShowsCause old did new Rejected = (stage_kept old did ≡ Ending partings.Rejected) × (did.unsaid ≡ [])
  ShowsCause old did new Kicked = (stage_kept old did ≡ Ending partings.Kicked) × (did.unsaid ≡ [])
  ShowsCause old did new Lagged = ⊥
  ShowsCause old did new Memory = UsedMemory old did

  -- an open port closes for a cause that holds: its link is shut, and what it keeps gives its memory back
  pub record ClosesInTurn (old : PortFacts L) (did : PortDid) (new : PortFacts L) (cause : Cause) : Type 0 where
    pub was_open : is_closed old.stage ≡ false
    pub shown : ShowsCause old did new cause
    pub stage : new.stage ≡ closed_for cause
    pub shut : IsTrue (facts new.link).is_shut
    pub framer_empty : new.framer ≡ empty_framer
    pub nothing_unwritten : new.out ≡ []

  -- it did not close
  pub record StaysInTurn (old : PortFacts L) (did : PortDid) (new : PortFacts L) : Type 0 where
    pub stage : new.stage ≡ stage_kept old did
    pub shut_same : (facts new.link).is_shut ≡ (facts old.link).is_shut
    -- one that ends has bytes to write
    pub unwritten : (parting : Parting) → new.stage ≡ Ending parting → 0 < length new.out

  abbrev pub Settled : PortFacts L → PortDid → PortFacts L → Option Cause → Type 0
  Settled old did new None = StaysInTurn old did new
  Settled old did new (Some cause) = ClosesInTurn old did new cause

  pub record EndsInTurn (old : PortFacts L) (did : PortDid) (step : Step) (new : PortFacts L) : Type 0 where
    pub reported : step.closed ≡ did.closed
    pub settled : Settled old did new did.closed
    pub too_long : IsTrue (may_handle old) → TooLong old.framer.kept → did.closed ≡ Some FrameTooLong
    pub none_falls : NoneFalls (facts old.link).counts (facts new.link).counts

  -- ---- a step that did nothing

  -- it had to wait for the desk, its link, and its boxes, each where it might have used it
  pub record IsIdle (posts voices : List QueueFacts) (old : PortFacts L) (desk : PassFacts DeskItem) (did : PortDid)
      (new : PortFacts L) (after : PassFacts DeskItem) : Type 0 where
    pub nothing : did ≡ did_nothing
    pub full : after ≡ desk_after_put None (due_item old) desk
    pub no_frame : IsTrue (may_handle old) → HasNoFrame old.framer.kept × ¬ TooLong old.framer.kept
    pub read_stalled : MayRead old → Rose (facts old.link).counts.stalls (facts new.link).counts.stalls
    pub write_stalled : IsTrue (may_write old) → Rose (facts old.link).counts.stalls (facts new.link).counts.stalls
    pub boxes_empty : (session : SessionId) → taking_session old ≡ Some session
        → FindsPostEmpty posts old.passes new.passes × FindsVoiceEmpty voices old.passes new.passes
    pub kept : new.framer.kept ≡ old.framer.kept
    pub rest : new ≡ record old { link = new.link; framer = new.framer; passes = new.passes }

  -- ---- what a step tries

  -- it took bytes, or its link had none, had ended or failed
  abbrev pub HasRead : PortFacts L → PortDid → PortFacts L → Type 0
  HasRead old did new =
      (did.took ≢ []) ⊎ (Rose (facts old.link).counts.stalls (facts new.link).counts.stalls
      ⊎ (Rose (facts old.link).counts.ends (facts new.link).counts.ends
      ⊎ Rose (facts old.link).counts.faults (facts new.link).counts.faults))

  -- ---- the whole step

  pub record PortTurn {V : Type 0} (routed : V → ℕ → SessionId → List ℕ → V → Type 0) (posts voices : List QueueFacts)
      (old : PortFacts L) (desk : PassFacts DeskItem) (router : V) (did : PortDid) (step : Step)
      (new : PortFacts L) (desk_after : PassFacts DeskItem) (router_after : V) : Type 0 where
    pub reads : ReadsInTurn old did new
    pub handles : HandlesInTurn old did new
    pub routes : RoutesPacket routed old.machine.connection (session_of old.machine.stage)
        (action_of old.machine did.handled) router router_after
    pub puts : PutsInTurn old desk did new desk_after
    pub takes : TakesInTurn old did step new
    pub by_turns : TakesByTurns posts voices old did new
    pub writes : WritesInTurn old did new
    pub within : KeepsWithin old did new
    pub ends : EndsInTurn old did step new
    pub idle : step.worked ≡ false → IsIdle posts voices old desk did new desk_after
    pub worked : step.worked ≡ true → did ≢ did_nothing
    -- where it might read it did: it took bytes, or its link had none, had ended or failed
    pub has_read : MayRead (port_after_put did.put old) → HasRead old did new
    -- where it might handle a frame and a whole one was there it did, or closed since there was no memory
    pub has_handled : IsTrue (may_handle (port_after_put did.put old)) → HasFrame (old.framer.kept ++ did.took)
        → did.handled ≡ None → did.closed ≡ Some Memory
    -- where it might look at its boxes, no echo came before them and it stayed open, it looked
    pub has_looked : (session : SessionId) → taking_session old ≡ Some session
        → echo_of (action_of old.machine did.handled) ≡ [] → did.closed ≡ None
        → HasLooked posts voices session old did new
    -- where bytes were to be written, and it was and stayed open, it wrote some, or its link was not ready
    pub has_written : is_closed old.stage ≡ false → old.out ++ queued old.machine did ≢ [] → did.closed ≡ None
        → did.wrote ≡ []
        → Rose (facts old.link).counts.stalls (facts new.link).counts.stalls
