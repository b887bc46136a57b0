-- What a step of a port did, read off the chain of its parts, and the ways in which it may close.
use Rattle.mum_port.proofs.Common.{◌≡◌, ℕ, Bool, true, false, IsTrue, List, [], ◌++◌, Option, Some, None, refl, sym, ap, subst, ◌∙◌, ◌⊎◌, inl, inr, true≢false, ⊎_elim, Cause, End, LinkFault, FrameTooLong, Rejected, Kicked, Lagged, Memory, SessionId, Frame, LinkFacts, PassFacts, QueueFacts, PostFacts, VoiceFacts, Machine, session_of, PortDid, is_last, machine_after, port_after_put, stage_kept, stage_once_put, MayRead, PortFacts, may_handle, may_write, closed_for, is_closed, stage_by, PortChain, stage_after_post, DeskItem, Step, Stage, Live, Ending, Closed, Went, NotDue, Stalled, Worked, Closes}
use Rattle.mum_port.proofs.{BoxParts.taking-is, Closing.Puts-live, Closing.settles-closed, HandlePart.HandleLeaves, HandlePart.HandleShows, HandlePart.handle-leaves, HandlePart.handled_of, Machines.stage-after_frame, Parcels.ParcelsLeave, Parcels.parcels-leave, Parcels.post_taken, Parcels.voice_taken, ReadPart.ReadLeaves, ReadPart.ReadShows, ReadPart.closes, ReadPart.lost_of, ReadPart.put-port, ReadPart.put_of, ReadPart.read-leaves, ReadPart.read-shows, ReadPart.stage_by-open, ReadPart.took_of, Resting.handle-rests, Resting.read-rests, Resting.live-open, Resting.may-live, Resting.may_write-open, Resting.stage_after_put-closed, Resting.takes-rest, Resting.write-rests, WritePart.WriteLeaves, WritePart.WriteShows, WritePart.write-leaves, WritePart.wrote_of}

pub closes-is : (went : Went) (cause : Cause) → closes went ≡ Some cause → went ≡ Closes cause
closes-is NotDue cause is = absurd (cc is)
closes-is Stalled cause is = absurd (cc is)
closes-is Worked cause is = absurd (cc is)
closes-is (Closes met) cause is = let same : met ≡ cause = cc is in ap (λ (c : Cause). Closes c) same

-- a frame leaves how far the connection has come
pub stage-machine_after : (machine : Machine) (frame : Option Frame) → (machine_after machine frame).stage ≡ machine.stage
stage-machine_after machine None = refl
stage-machine_after machine (Some frame) = stage-after_frame machine frame.kind frame.payload

-- the put of a step leaves a port as open as it was
pub stage_once_put-closed : (put waiting : Option DeskItem) (stage : Stage) → is_closed (stage_once_put put waiting stage) ≡ is_closed stage
stage_once_put-closed (Some item) waiting stage = stage_after_put-closed waiting stage
stage_once_put-closed None waiting stage = refl

-- the last parcel is the end of a live port, and does not close it
parting-open : (last : Bool) (stage : Stage) → stage ≡ Live → is_closed (stage_after_post last stage) ≡ false
parting-open true stage live = refl
parting-open false stage live = live-open stage live

stage_by-closes : (cause : Cause) (stage : Stage) → is_closed stage ≡ false → stage_by (Closes cause) stage ≡ closed_for cause
stage_by-closes cause Live opened = refl
stage_by-closes cause (Ending parting) opened = refl
stage_by-closes cause (Closed before farewell) opened = absurd (true≢false opened)

-- what is dropped at a close
abbrev pub at_close : Option Cause → List ℕ → List ℕ
at_close None bytes = []
at_close (Some cause) bytes = bytes

not_due_closes : (went : Went) (cause : Cause) → went ≡ NotDue → went ≡ Closes cause → {P : Type 0} → P
not_due_closes went cause is closing = absurd (cc (sym is ∙ closing))

module _ {L : Type 0} (facts : L → LinkFacts) where
  may_of_read : (port later : PortFacts L) (cause : Cause) (bytes : List ℕ) → ReadShows facts port later (Closes cause) bytes → MayRead port
  may_of_read port later End bytes shown = shown.0
  may_of_read port later LinkFault bytes shown = shown.0
  may_of_read port later FrameTooLong bytes shown = absurd shown
  may_of_read port later Rejected bytes shown = absurd shown
  may_of_read port later Kicked bytes shown = absurd shown
  may_of_read port later Lagged bytes shown = absurd shown
  may_of_read port later Memory bytes shown = shown.0

  may_of_write : (port later : PortFacts L) (cause : Cause) (bytes : List ℕ) → WriteShows facts port later (Closes cause) bytes → IsTrue (may_write port)
  may_of_write port later End bytes shown = absurd shown
  may_of_write port later LinkFault bytes shown = shown.0
  may_of_write port later FrameTooLong bytes shown = absurd shown
  may_of_write port later Rejected bytes shown = absurd shown
  may_of_write port later Kicked bytes shown = absurd shown
  may_of_write port later Lagged bytes shown = absurd shown
  may_of_write port later Memory bytes shown = absurd shown

module _ {L V : Type 0} {facts : L → LinkFacts} {routed : V → ℕ → SessionId → List ℕ → V → Type 0}
    {posts voices : List QueueFacts} {old : PortFacts L} {desk : PassFacts DeskItem} {router : V} {step : Step}
    {new : PortFacts L} {desk_after : PassFacts DeskItem} {router_after : V}
    (c : PortChain facts routed posts voices old desk router step new desk_after router_after) where
  abbrev pub item : Option DeskItem
  item = put_of old desk c.put c.after_put desk_after c.puts

  abbrev pub took : List ℕ
  took = took_of facts c.after_put c.read c.after_read c.reads

  abbrev pub lost : List ℕ
  lost = lost_of facts c.after_put c.read c.after_read c.reads

  abbrev pub frame : Option Frame
  frame = handled_of routed c.after_read router c.handled c.after_handle router_after c.handles

  abbrev pub post : Option PostFacts
  post = post_taken posts voices c.after_handle c.posted c.heard c.after_take c.takes

  abbrev pub voice : Option VoiceFacts
  voice = voice_taken posts voices c.after_handle c.posted c.heard c.after_take c.takes

  abbrev pub bytes_written : List ℕ
  bytes_written = wrote_of facts c.after_take c.wrote c.after_write c.writes

  abbrev pub read_part : ReadLeaves facts c.after_put c.read c.after_read (took) (lost)
  read_part = read-leaves facts c.after_put c.read c.after_read c.reads

  abbrev pub handle_part : HandleLeaves routed c.after_read router c.handled c.after_handle router_after (frame)
  handle_part = handle-leaves routed c.after_read router c.handled c.after_handle router_after c.handles

  abbrev pub take_part : ParcelsLeave posts voices c.after_handle c.posted c.heard c.after_take (post) (voice)
  take_part = parcels-leave posts voices c.after_handle c.posted c.heard c.after_take c.takes

  abbrev pub write_part : WriteLeaves facts c.after_take c.wrote c.after_write (bytes_written)
  write_part = write-leaves facts c.after_take c.wrote c.after_write c.writes

  -- the bytes that were taken and not handled, and those that were to be written and were not
  abbrev pub remains : List ℕ
  remains = (handle_part).unhandled ++ lost

  abbrev pub unsent : List ℕ
  unsent = c.after_write.out ++ (handle_part).dropped

  abbrev pub did_of : PortDid
  did_of = record {
    put = item;
    took = took;
    lost = at_close c.closed (remains);
    handled = frame;
    post = post;
    voice = voice;
    wrote = bytes_written;
    unsaid = at_close c.closed (unsent);
    closed = c.closed;
  }

  -- ---- the port between the parts

  pub port_put : c.after_put ≡ port_after_put (item) old
  port_put = put-port old desk c.put c.after_put desk_after c.puts

  pub machine_read : c.after_read.machine ≡ old.machine
  machine_read = (read_part).machine ∙ ap (λ (p : PortFacts L). p.machine) (port_put)

  pub out_read : c.after_read.out ≡ old.out
  out_read = (read_part).out ∙ ap (λ (p : PortFacts L). p.out) (port_put)

  pub passes_handle : c.after_handle.passes ≡ old.passes
  passes_handle = (handle_part).passes ∙ ((read_part).passes ∙ ap (λ (p : PortFacts L). p.passes) (port_put))

  pub first_handle : c.after_handle.voice_first ≡ old.voice_first
  first_handle = (handle_part).first ∙ ((read_part).first ∙ ap (λ (p : PortFacts L). p.voice_first) (port_put))

  pub machine_handle : c.after_handle.machine ≡ machine_after old.machine (frame)
  machine_handle = (handle_part).machine ∙ ap (λ (m : Machine). machine_after m (frame)) (machine_read)

  pub session_handle : session_of c.after_handle.machine.stage ≡ session_of old.machine.stage
  session_handle = ap (λ (m : Machine). session_of m.stage) (machine_handle) ∙ ap session_of (stage-machine_after old.machine (frame))

  pub machine_write : c.after_write.machine ≡ machine_after old.machine (frame)
  machine_write = (write_part).machine ∙ ((take_part).machine ∙ machine_handle)

  -- ---- a port that met a cause rests

  -- nothing more is taken or written
  pub record Rests : Type 0 where
    pub no_post : post ≡ None
    pub no_voice : voice ≡ None
    pub no_write : (c.wrote ≡ NotDue) × (bytes_written ≡ [])
    pub same : c.after_write ≡ c.after_handle

  pub rests : is_closed c.after_handle.stage ≡ true → Rests
  rests closed =
      let taken = takes-rest posts voices c.after_handle c.posted c.heard c.after_take c.takes closed in
      let closed_take : is_closed c.after_take.stage ≡ true = ap (λ (p : PortFacts L). is_closed p.stage) taken.2 ∙ closed in
      let wrote = write-rests facts c.after_take c.wrote c.after_write c.writes closed_take in record {
        no_post = taken.0;
        no_voice = taken.1;
        no_write = (wrote.0, wrote.1);
        same = wrote.2 ∙ taken.2;
      }

  -- it closes for the cause that it met
  met : (cause : Cause) → c.after_write.stage ≡ closed_for cause → is_closed old.stage ≡ false → c.closed ≡ Some cause
  met cause is was_open = settles-closed facts (is_closed old.stage) c.after_write c.closed new cause c.settles was_open is

  was_open_live : c.after_put.stage ≡ Live → is_closed old.stage ≡ false
  was_open_live live = live-open old.stage (Puts-live old desk c.put c.after_put desk_after c.puts live)

  pub record ReadCloses (cause : Cause) : Type 0 where
    pub so : c.read ≡ Closes cause
    pub shown : ReadShows facts c.after_put c.after_read (Closes cause) (took)
    pub not_due : c.handled ≡ NotDue
    pub no_frame : frame ≡ None
    pub resting : Rests
    pub same : c.after_write ≡ c.after_read
    pub stage : c.after_write.stage ≡ closed_for cause
    pub was_open : is_closed old.stage ≡ false
    pub closed : c.closed ≡ Some cause

  pub read_closes : (cause : Cause) → c.read ≡ Closes cause → ReadCloses cause
  read_closes cause is =
      let shows = subst (λ (w : Went). ReadShows facts c.after_put c.after_read w (took)) is
      (read-shows facts c.after_put c.read c.after_read c.reads) in
      let may = may_of_read facts c.after_put c.after_read cause (took) shows in
      let live = may-live c.after_put may.ready in
      let stage_read : c.after_read.stage ≡ closed_for cause = (read_part).stage ∙ (ap (λ (w : Went). stage_by w c.after_put.stage) is ∙ ap (λ (s : Stage). stage_by (Closes cause) s) live) in
      let handled = handle-rests routed c.after_read router c.handled c.after_handle router_after c.handles (ap is_closed stage_read) in
      let stage_handle : c.after_handle.stage ≡ closed_for cause = ap (λ (p : PortFacts L). p.stage) handled.2 ∙ stage_read in
      let rest = rests (ap is_closed stage_handle) in
      let stage_end : c.after_write.stage ≡ closed_for cause = ap (λ (p : PortFacts L). p.stage) rest.same ∙ stage_handle in
      let was_open = was_open_live live in record {
        so = is;
        shown = shows;
        not_due = handled.0;
        no_frame = handled.1;
        resting = rest;
        same = rest.same ∙ handled.2;
        stage = stage_end;
        was_open = was_open;
        closed = met cause stage_end was_open;
      }

  pub record HandleCloses (cause : Cause) : Type 0 where
    pub may : IsTrue (may_handle c.after_read)
    pub shown : HandleShows routed c.after_read.framer.kept (frame) (Closes cause)
    pub resting : Rests
    pub stage : c.after_write.stage ≡ closed_for cause
    pub was_open : is_closed old.stage ≡ false
    pub closed : c.closed ≡ Some cause

  pub handle_closes : (cause : Cause) → closes c.read ≡ None → c.handled ≡ Closes cause → HandleCloses cause
  handle_closes cause reads_on is =
      let shows : IsTrue (may_handle c.after_read) × HandleShows routed c.after_read.framer.kept (frame) (Closes cause) =
      ⊎_elim (λ never. not_due_closes c.handled cause never.0 is)
      (λ due. (due.0, subst (HandleShows routed c.after_read.framer.kept (frame)) is due.1)) (handle_part).shows in
      let live = may-live c.after_read shows.0 in
      let live_put : c.after_put.stage ≡ Live = sym (stage_by-open c.read c.after_put.stage reads_on) ∙ (sym (read_part).stage ∙ live) in
      let stage_handle : c.after_handle.stage ≡ closed_for cause = (handle_part).stage ∙ (ap (λ (w : Went). stage_by w c.after_read.stage) is ∙ ap (λ (s : Stage). stage_by (Closes cause) s) live) in
      let rest = rests (ap is_closed stage_handle) in
      let stage_end : c.after_write.stage ≡ closed_for cause = ap (λ (p : PortFacts L). p.stage) rest.same ∙ stage_handle in
      let was_open = was_open_live live_put in record {
        may = shows.0;
        shown = shows.1;
        resting = rest;
        stage = stage_end;
        was_open = was_open;
        closed = met cause stage_end was_open;
      }

  -- ---- a port that met none goes on

  pub stage_handle : closes c.read ≡ None → closes c.handled ≡ None → c.after_handle.stage ≡ c.after_put.stage
  stage_handle reads_on handles_on =
      (handle_part).stage ∙ (stage_by-open c.handled c.after_read.stage handles_on ∙ ((read_part).stage ∙ stage_by-open c.read c.after_put.stage reads_on))

  pub stage_take : closes c.read ≡ None → closes c.handled ≡ None → c.after_take.stage ≡ stage_kept old (did_of)
  stage_take reads_on handles_on =
      (take_part).stage
      ∙ (ap (λ (s : Option SessionId). stage_after_post (is_last s (post)) c.after_handle.stage) (session_handle)
      ∙ ap (λ (s : Stage). stage_after_post (is_last (session_of old.machine.stage) (post)) s)
      (stage_handle reads_on handles_on ∙ ap (λ (p : PortFacts L). p.stage) (port_put)))

  pub stage_end : closes c.read ≡ None → closes c.handled ≡ None → closes c.wrote ≡ None → c.after_write.stage ≡ stage_kept old (did_of)
  stage_end reads_on handles_on writes_on =
      (write_part).stage ∙ (stage_by-open c.wrote c.after_take.stage writes_on ∙ stage_take reads_on handles_on)

  put-closed : is_closed c.after_put.stage ≡ is_closed old.stage
  put-closed = ap (λ (p : PortFacts L). is_closed p.stage) (port_put) ∙ stage_once_put-closed (item) old.waiting old.stage

  -- one that was closed before the step rests whole
  pub closed_rests : is_closed old.stage ≡ true → Rests
  closed_rests closed =
      let closed_put : is_closed c.after_put.stage ≡ true = put-closed ∙ closed in
      let reads = read-rests facts c.after_put c.read c.after_read c.reads closed_put in
      let closed_read : is_closed c.after_read.stage ≡ true = ap (λ (p : PortFacts L). is_closed p.stage) reads.1 ∙ closed_put in
      let handles = handle-rests routed c.after_read router c.handled c.after_handle router_after c.handles closed_read in
      rests (ap (λ (p : PortFacts L). is_closed p.stage) handles.2 ∙ closed_read)

  -- it is as open as it was
  pub as_open : closes c.read ≡ None → closes c.handled ≡ None → is_closed c.after_take.stage ≡ is_closed old.stage
  as_open reads_on handles_on =
      ap is_closed (take_part).stage ∙ ⊎_elim
      (λ unlooked.
      ap (λ (p : Option PostFacts). is_closed (stage_after_post (is_last (session_of c.after_handle.machine.stage) p) c.after_handle.stage)) unlooked.0
      ∙ (ap is_closed (stage_handle reads_on handles_on) ∙ put-closed))
      (λ looked.
      let live = (taking-is c.after_handle looked.0 looked.1).0 in
      let live_put : c.after_put.stage ≡ Live = sym (stage_handle reads_on handles_on) ∙ live in
      parting-open (is_last (session_of c.after_handle.machine.stage) (post)) c.after_handle.stage live ∙ sym (was_open_live live_put))
      (take_part).looked

  pub record WriteCloses (cause : Cause) : Type 0 where
    pub shown : WriteShows facts c.after_take c.after_write (Closes cause) (bytes_written)
    pub stage : c.after_write.stage ≡ closed_for cause
    pub was_open : is_closed old.stage ≡ false
    pub closed : c.closed ≡ Some cause

  pub write_closes : (cause : Cause) → closes c.read ≡ None → closes c.handled ≡ None → c.wrote ≡ Closes cause → WriteCloses cause
  write_closes cause reads_on handles_on is =
      let shows = subst (λ (w : Went). WriteShows facts c.after_take c.after_write w (bytes_written)) is (write_part).shows in
      let opened = may_write-open c.after_take (may_of_write facts c.after_take c.after_write cause (bytes_written) shows) in
      let stage : c.after_write.stage ≡ closed_for cause =
      (write_part).stage ∙ (ap (λ (w : Went). stage_by w c.after_take.stage) is ∙ stage_by-closes cause c.after_take.stage opened) in
      let was_open : is_closed old.stage ≡ false = sym (as_open reads_on handles_on) ∙ opened in record {
        shown = shows;
        stage = stage;
        was_open = was_open;
        closed = met cause stage was_open;
      }

  -- ---- the ways

  pub record GoesOn : Type 0 where
    pub reads_on : closes c.read ≡ None
    pub handles_on : closes c.handled ≡ None
    pub writes_on : closes c.wrote ≡ None

  abbrev pub Way : Type 0
  Way = ((cause : Cause) × ReadCloses cause)
      ⊎ (((cause : Cause) × (closes c.read ≡ None) × HandleCloses cause)
      ⊎ (((cause : Cause) × (closes c.read ≡ None) × (closes c.handled ≡ None) × WriteCloses cause)
      ⊎ GoesOn))

  way_of : (read handled wrote : Option Cause) → closes c.read ≡ read → closes c.handled ≡ handled → closes c.wrote ≡ wrote → Way
  way_of (Some cause) handled wrote reads handles writes = inl (cause, read_closes cause (closes-is c.read cause reads))
  way_of None (Some cause) wrote reads handles writes = inr (inl (cause, reads, handle_closes cause reads (closes-is c.handled cause handles)))
  way_of None None (Some cause) reads handles writes = inr (inr (inl (cause, reads, handles, write_closes cause reads handles (closes-is c.wrote cause writes))))
  way_of None None None reads handles writes = inr (inr (inr (record { reads_on = reads; handles_on = handles; writes_on = writes })))

  pub way : Way
  way = way_of (closes c.read) (closes c.handled) (closes c.wrote) refl refl refl

  closed_none : (cause : Cause) → c.closed ≡ Some cause → c.closed ≡ None → {P : Type 0} → P
  closed_none cause some none = absurd (cc (sym none ∙ some))

  -- a port that did not close met no cause
  pub goes_on : c.closed ≡ None → GoesOn
  goes_on none = on (way)
    where
      on : Way → GoesOn
      on (inl (cause, reads)) = closed_none cause reads.closed none
      on (inr (inl (cause, reads_on, handles))) = closed_none cause handles.closed none
      on (inr (inr (inl (cause, reads_on, handles_on, writes)))) = closed_none cause writes.closed none
      on (inr (inr (inr goes))) = goes
