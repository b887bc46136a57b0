-- What the handling of a frame leaves, by the frame that was handled.
use Rattle.mum_port.proofs.Common.{◌≡◌, ◌≢◌, ℕ, IsTrue, List, [], ◌++◌, Option, Some, None, refl, sym, ap, subst, ◌∙◌, ◌⊎◌, inl, inr, option_and_then, append-nil, FrameTooLong, Memory, SessionId, Frame, HasFrame, HasNoFrame, IsFrame, TooLong, Machine, session_of, Action, Voice, Echo, action_of, asked_item, bytes_of, echo_of, machine_after, PortFacts, item_of, may_handle, waiting_after, Acts, HandlesKept, Routes, Sinks, stage_by, Handles, Went, NotDue, Stalled, Worked, Closes}
use Rattle.mum_port.proofs.ReadPart.{closes}

module _ {V : Type 0} (routed : V → ℕ → SessionId → List ℕ → V → Type 0) where
  -- a packet of a connection that may have no session goes to the router
  abbrev pub RoutesOf : ℕ → Option SessionId → Option Action → V → V → Type 0
  RoutesOf connection session (Some (Voice packet)) router after = Routes routed connection session packet router after
  RoutesOf connection session others router after = after ≡ router

  -- what a frame that was handled leaves: dropped is an echo for which there was no memory
  pub record ActLeaves (connection : ℕ) (session : Option SessionId) (asked : Option Action) (old : Sinks V) (went : Went) (new : Sinks V) : Type 0 where
    pub dropped : List ℕ
    pub waits : new.waiting ≡ waiting_after (option_and_then (item_of connection session) asked) old.waiting
    pub bytes : old.out ++ echo_of asked ≡ new.out ++ dropped
    pub dropped_none : closes went ≡ None → dropped ≡ []
    pub routes : RoutesOf connection session asked old.router new.router
    pub ends : (went ≡ Worked) ⊎ (went ≡ Closes Memory)

  -- where nothing is to be written the bytes stay
  quiet : (out out_new : List ℕ) → out_new ≡ out → out ++ [] ≡ out_new ++ []
  quiet out out_new same = ap (λ (l : List ℕ). l ++ []) (sym same)

  -- what writes nothing and asks for no packet leaves this
  same-leaves : (connection : ℕ) (session : Option SessionId) (asked : Action) (old : Sinks V) (went : Went) (new : Sinks V) → echo_of (Some asked) ≡ []
      → new.waiting ≡ waiting_after (item_of connection session asked) old.waiting → new.out ≡ old.out → RoutesOf connection session (Some asked) old.router new.router → went ≡ Worked
      → ActLeaves connection session (Some asked) old went new
  same-leaves connection session asked old went new silent waits out routes worked = record {
    dropped = [];
    waits = waits;
    bytes = ap (λ (l : List ℕ). old.out ++ l) silent ∙ quiet old.out new.out out;
    dropped_none = λ open_still. refl;
    routes = routes;
    ends = inl worked;
  }

  act-leaves : (connection : ℕ) (session : Option SessionId) (asked : Action) (old : Sinks V) (went : Went) (new : Sinks V)
      → Acts routed connection session asked old went new → ActLeaves connection session (Some asked) old went new
  act-leaves connection session (Voice packet) old went new acts =
      same-leaves connection session (Voice packet) old went new refl (ap (λ (s : Sinks V). s.waiting) acts.1) (ap (λ (s : Sinks V). s.out) acts.1) acts.2 acts.0
  act-leaves connection session (Echo wire) old went new (rest, inl done) = record {
    dropped = [];
    waits = ap (λ (s : Sinks V). s.waiting) rest;
    bytes = sym done.1 ∙ sym (append-nil new.out);
    dropped_none = λ open_still. refl;
    routes = ap (λ (s : Sinks V). s.router) rest;
    ends = inl done.0;
  }
  act-leaves connection session (Echo wire) old went new (rest, inr lacks) = record {
    dropped = wire;
    waits = ap (λ (s : Sinks V). s.waiting) rest;
    bytes = ap (λ (l : List ℕ). l ++ wire) (sym lacks.1);
    dropped_none = λ open_still. absurd (cc (sym open_still ∙ ap closes lacks.0));
    routes = ap (λ (s : Sinks V). s.router) rest;
    ends = inr lacks.0;
  }
  act-leaves connection session others old went new acts =
      same-leaves connection session others old went new refl (ap (λ (s : Sinks V). s.waiting) acts.1) (ap (λ (s : Sinks V). s.out) acts.1) (ap (λ (s : Sinks V). s.router) acts.1) acts.0

  abbrev pub handled_in_kept : (machine : Machine) (kept : List ℕ) (old : Sinks V) (went : Went) (machine_new : Machine) (kept_new : List ℕ) (new : Sinks V)
      → HandlesKept routed machine kept old went machine_new kept_new new → Option Frame
  handled_in_kept machine kept old went machine_new kept_new new (inl (whole, inl first)) = Some first.frame
  handled_in_kept machine kept old went machine_new kept_new new (inl (whole, inr lacks)) = None
  handled_in_kept machine kept old went machine_new kept_new new (inr none) = None

  -- why a part of a step that handles a frame ended as it did
  abbrev pub HandleShows : List ℕ → Option Frame → Went → Type 0
  HandleShows kept frame Stalled = (frame ≡ None) × HasNoFrame kept × ¬ TooLong kept
  HandleShows kept frame Worked = frame ≢ None
  HandleShows kept frame (Closes FrameTooLong) = (frame ≡ None) × TooLong kept
  HandleShows kept frame (Closes Memory) = HasFrame kept
  HandleShows kept frame others = ⊥

  pub record KeptLeaves (machine : Machine) (kept : List ℕ) (old : Sinks V) (went : Went) (machine_new : Machine) (kept_new : List ℕ) (new : Sinks V) (frame : Option Frame) : Type 0 where
    -- the bytes after the frame, and the echo for which there was no memory
    pub unhandled : List ℕ
    pub dropped : List ℕ
    pub bytes : kept ≡ bytes_of frame ++ unhandled
    pub unhandled_kept : closes went ≡ None → unhandled ≡ kept_new
    pub machine_is : machine_new ≡ machine_after machine frame
    pub waits : new.waiting ≡ waiting_after (asked_item machine frame) old.waiting
    pub out_bytes : old.out ++ echo_of (action_of machine frame) ≡ new.out ++ dropped
    pub dropped_none : closes went ≡ None → dropped ≡ []
    pub routes : RoutesOf machine.connection (session_of machine.stage) (action_of machine frame) old.router new.router
    pub whole : (f : Frame) → frame ≡ Some f → IsFrame f
    pub shows : HandleShows kept frame went

  shows_of_act : (kept : List ℕ) (frame : Frame) (went : Went) → HasFrame kept → ((went ≡ Worked) ⊎ (went ≡ Closes Memory)) → HandleShows kept (Some frame) went
  shows_of_act kept frame went has (inl worked) = subst (HandleShows kept (Some frame)) (sym worked) (λ is. absurd (cc is))
  shows_of_act kept frame went has (inr lacks) = subst (HandleShows kept (Some frame)) (sym lacks) has

  whole_is : (first f : Frame) → IsFrame first → Some first ≡ Some f → IsFrame f
  whole_is first f whole is = let same : first ≡ f = cc is in subst IsFrame same whole

  pub kept-leaves : (machine : Machine) (kept : List ℕ) (old : Sinks V) (went : Went) (machine_new : Machine) (kept_new : List ℕ) (new : Sinks V)
      (handles : HandlesKept routed machine kept old went machine_new kept_new new)
      → KeptLeaves machine kept old went machine_new kept_new new
      (handled_in_kept machine kept old went machine_new kept_new new handles)
  kept-leaves machine kept old went machine_new kept_new new (inl (has, inl first)) =
      let act = act-leaves _ _ _ _ _ _ first.handled.acts in record {
        unhandled = kept_new;
        dropped = act.dropped;
        bytes = first.first;
        unhandled_kept = λ open_still. refl;
        machine_is = first.handled.taken;
        waits = act.waits;
        out_bytes = act.bytes;
        dropped_none = act.dropped_none;
        routes = act.routes;
        whole = λ f is. whole_is first.frame f first.whole is;
        shows = shows_of_act kept first.frame went has act.ends;
      }
  kept-leaves machine kept old went machine_new kept_new new (inl (has, inr lacks)) = record {
    unhandled = kept;
    dropped = [];
    bytes = refl;
    unhandled_kept = λ open_still. absurd (cc (sym open_still ∙ ap closes lacks.went_so));
    machine_is = lacks.machine_same;
    waits = ap (λ (s : Sinks V). s.waiting) lacks.same;
    out_bytes = ap (λ (s : Sinks V). s.out ++ []) (sym lacks.same);
    dropped_none = λ open_still. refl;
    routes = ap (λ (s : Sinks V). s.router) lacks.same;
    whole = λ f is. absurd (cc is);
    shows = subst (HandleShows kept None) (sym lacks.went_so) has;
  }
  kept-leaves machine kept old went machine_new kept_new new (inr none) = record {
    unhandled = kept;
    dropped = [];
    bytes = refl;
    unhandled_kept = λ open_still. sym none.kept_same;
    machine_is = none.machine_same;
    waits = ap (λ (s : Sinks V). s.waiting) none.same;
    out_bytes = ap (λ (s : Sinks V). s.out ++ []) (sym none.same);
    dropped_none = λ open_still. refl;
    routes = ap (λ (s : Sinks V). s.router) none.same;
    whole = λ f is. absurd (cc is);
    shows = shows_of_none kept went none.why;
  }
    where
      shows_of_none : (kept : List ℕ) (went : Went) → (((went ≡ Stalled) × HasNoFrame kept × ¬ TooLong kept) ⊎ ((went ≡ Closes FrameTooLong) × TooLong kept)) → HandleShows kept None went
      shows_of_none kept went (inl stalls) = subst (HandleShows kept None) (sym stalls.0) (refl, stalls.1, stalls.2)
      shows_of_none kept went (inr above) = subst (HandleShows kept None) (sym above.0) (refl, above.1)

module _ {L V : Type 0} (routed : V → ℕ → SessionId → List ℕ → V → Type 0) where
  abbrev pub handled_of : (old : PortFacts L) (router : V) (went : Went) (new : PortFacts L) (router_new : V) → Handles routed old router went new router_new → Option Frame
  handled_of old router went new router_new (inl never) = None
  handled_of old router went new router_new (inr one) = handled_in_kept routed _ _ _ _ _ _ _ one.handled

  -- whether it was due, and then what it shows
  abbrev pub HandledOrNot : PortFacts L → Option Frame → Went → PortFacts L → Type 0
  HandledOrNot old frame went new =
      ((went ≡ NotDue) × (frame ≡ None) × (new ≡ old) × (IsTrue (may_handle old) → ⊥)) ⊎ (IsTrue (may_handle old) × HandleShows routed old.framer.kept frame went)

  pub record HandleLeaves (old : PortFacts L) (router : V) (went : Went) (new : PortFacts L) (router_new : V) (frame : Option Frame) : Type 0 where
    pub unhandled : List ℕ
    pub dropped : List ℕ
    pub bytes : old.framer.kept ≡ bytes_of frame ++ unhandled
    pub unhandled_kept : closes went ≡ None → unhandled ≡ new.framer.kept
    pub machine : new.machine ≡ machine_after old.machine frame
    pub waiting : new.waiting ≡ waiting_after (asked_item old.machine frame) old.waiting
    pub out : old.out ++ echo_of (action_of old.machine frame) ≡ new.out ++ dropped
    pub dropped_none : closes went ≡ None → dropped ≡ []
    pub routes : RoutesOf routed old.machine.connection (session_of old.machine.stage) (action_of old.machine frame) router router_new
    pub whole : (f : Frame) → frame ≡ Some f → IsFrame f
    pub allowed : (f : Frame) → frame ≡ Some f → IsTrue (may_handle old)
    pub shows : HandledOrNot old frame went new
    pub link : new.link ≡ old.link
    pub passes : new.passes ≡ old.passes
    pub first : new.voice_first ≡ old.voice_first
    pub stage : new.stage ≡ stage_by went old.stage

  pub handle-leaves : (old : PortFacts L) (router : V) (went : Went) (new : PortFacts L) (router_new : V) (handles : Handles routed old router went new router_new)
      → HandleLeaves old router went new router_new (handled_of old router went new router_new handles)
  handle-leaves old router went new router_new (inl (never, same)) = record {
    unhandled = old.framer.kept;
    dropped = [];
    bytes = refl;
    unhandled_kept = λ open_still. ap (λ (p : PortFacts L). p.framer.kept) (sym never.same);
    machine = ap (λ (p : PortFacts L). p.machine) never.same;
    waiting = ap (λ (p : PortFacts L). p.waiting) never.same;
    out = ap (λ (p : PortFacts L). p.out ++ []) (sym never.same);
    dropped_none = λ open_still. refl;
    routes = same;
    whole = λ f is. absurd (cc is);
    allowed = λ f is. absurd (cc is);
    shows = inl (never.so, refl, never.same, never.forbidden);
    link = ap (λ (p : PortFacts L). p.link) never.same;
    passes = ap (λ (p : PortFacts L). p.passes) never.same;
    first = ap (λ (p : PortFacts L). p.voice_first) never.same;
    stage = ap (λ (p : PortFacts L). p.stage) never.same ∙ ap (λ (w : Went). stage_by w old.stage) (sym never.so);
  }
  handle-leaves old router went new router_new (inr one) =
      let kept = kept-leaves routed _ _ _ _ _ _ _ one.handled in record {
        unhandled = kept.unhandled;
        dropped = kept.dropped;
        bytes = kept.bytes;
        unhandled_kept = kept.unhandled_kept;
        machine = kept.machine_is;
        waiting = kept.waits;
        out = kept.out_bytes;
        dropped_none = kept.dropped_none;
        routes = kept.routes;
        whole = kept.whole;
        allowed = λ f is. one.allowed;
        shows = inr (one.allowed, kept.shows);
        link = ap (λ (p : PortFacts L). p.link) one.left;
        passes = ap (λ (p : PortFacts L). p.passes) one.left;
        first = ap (λ (p : PortFacts L). p.voice_first) one.left;
        stage = ap (λ (p : PortFacts L). p.stage) one.left;
      }
