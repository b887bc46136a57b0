-- What holds of a port whatever happens to it: what it handled, and what it wrote.
use Rattle.mum_port.proofs.Common.{◌≡◌, ◌≢◌, ℕ, true, false, IsTrue, List, [], ◌∷◌, ◌++◌, Option, Some, None, refl, sym, ap, subst, ◌∙◌, inl, inr, ⊎_elim, true≢false, append_assoc, All, option_to_list, flat_map, append-nil, All-cons, All-nil, Cause, SessionId, Frame, IsFrame, frame_spelling, LinkFacts, PostFacts, Machine, session_of, PortDid, bytes_of, is_last, machine_after, port_after_put, queued, stage_once_put, PortFacts, may_handle, Event, Lives, Steps, bytes_queued, bytes_taken, bytes_written, frames_handled, lagged, replied, stepped, is_closed, stage_after_post, Settled, StaysInTurn}
use Rattle.mum_port.proofs.{BoxParts.taking-is, Course.stage_once_put-closed, Resting.live-open, Resting.may-live}

abbrev spelled : List Frame → List ℕ
spelled frames = flat_map frame_spelling frames

spelled-and : (frame : Option Frame) (frames : List Frame) → spelled (option_to_list frame ++ frames) ≡ bytes_of frame ++ spelled frames
spelled-and None frames = refl
spelled-and (Some frame) frames = refl

each-and : (frame : Option Frame) (frames : List Frame) → ((f : Frame) → frame ≡ Some f → IsFrame f) → All IsFrame frames → All IsFrame (option_to_list frame ++ frames)
each-and None frames one each = each
each-and (Some frame) frames one each = All-cons IsFrame frame frames (one frame refl) each

none_there : {A : Type 0} (x : Option A) → ((y : A) → x ≡ Some y → ⊥) → x ≡ None
none_there None never = refl
none_there (Some y) never = absurd (never y refl)

empty_there : (bytes : List ℕ) → ((bytes ≢ []) → ⊥) → bytes ≡ []
empty_there [] never = refl
empty_there (x ∷ bytes) never = absurd (never (λ is. absurd (cc is)))

-- the bytes of one event, and then those of the others
then_balance : (old one mid left rest more kept : List ℕ) → old ++ one ≡ left ++ mid → mid ++ more ≡ rest ++ kept → old ++ (one ++ more) ≡ (left ++ rest) ++ kept
then_balance old one mid left rest more kept first next =
    sym (append_assoc old one more)
    ∙ (ap (λ (l : List ℕ). l ++ more) first
    ∙ (append_assoc left mid more ∙ (ap (λ (l : List ℕ). left ++ l) next ∙ sym (append_assoc left rest kept))))

module _ {L V : Type 0} (facts : L → LinkFacts) (routed : V → ℕ → SessionId → List ℕ → V → Type 0) where
  -- ---- a port that is closed

  -- a step of a closed port handles, takes and writes nothing
  pub record Quiet (old : PortFacts L) (did : PortDid) (new : PortFacts L) : Type 0 where
    pub no_frame : did.handled ≡ None
    pub no_bytes : did.took ≡ []
    pub no_write : did.wrote ≡ []
    pub no_close : did.closed ≡ None
    pub machine : new.machine ≡ old.machine
    pub stage : new.stage ≡ stage_once_put did.put old.waiting old.stage

  closed_may-not : (old : PortFacts L) (did : PortDid) → is_closed old.stage ≡ true → IsTrue (may_handle (port_after_put did.put old)) → {P : Type 0} → P
  closed_may-not old did closed may =
      let live = may-live (port_after_put did.put old) may in
      absurd (true≢false (sym (stage_once_put-closed did.put old.waiting old.stage ∙ closed) ∙ live-open _ live))

  no_close_of : (old : PortFacts L) (did : PortDid) (new : PortFacts L) (closed : Option Cause) → is_closed old.stage ≡ true → Settled facts old did new closed
      → (closed ≡ None) × StaysInTurn facts old did new
  no_close_of old did new None was stays = (refl, stays)
  no_close_of old did new (Some cause) was closes = absurd (true≢false (sym was ∙ closes.was_open))

  pub quiet : (old : PortFacts L) (machine : Machine) (did : PortDid) (new : PortFacts L) → Steps facts routed old machine did new → is_closed old.stage ≡ true → Quiet old did new
  quiet old machine did new steps closed =
      let no_frame : did.handled ≡ None = none_there did.handled (λ f is. closed_may-not old did closed (steps.turn.handles.allowed f is)) in
      let no_bytes : did.took ≡ [] = empty_there did.took (λ some. closed_may-not old did closed (steps.turn.reads.allowed some).ready) in
      let stays = no_close_of old did new did.closed closed steps.turn.ends.settled in
      let no_post : did.post ≡ None =
      ⊎_elim (λ unlooked. unlooked.0.0) (λ looked. absurd (true≢false (sym closed ∙ live-open old.stage (taking-is old looked.0 looked.1).0))) steps.turn.takes.looks in record {
        no_frame = no_frame;
        no_bytes = no_bytes;
        no_write = empty_there did.wrote (λ some. absurd (true≢false (sym closed ∙ steps.turn.writes.allowed some)));
        no_close = stays.0;
        machine = steps.turn.handles.machine ∙ ap (λ (f : Option Frame). machine_after old.machine f) no_frame;
        stage = stays.1.stage ∙ ap (λ (p : Option PostFacts). stage_after_post (is_last (session_of old.machine.stage) p) (stage_once_put did.put old.waiting old.stage)) no_post;
      }

  quiet-closed : (old : PortFacts L) (did : PortDid) (new : PortFacts L) → Quiet old did new → is_closed old.stage ≡ true → is_closed new.stage ≡ true
  quiet-closed old did new quiet closed = ap is_closed quiet.stage ∙ (stage_once_put-closed did.put old.waiting old.stage ∙ closed)

  -- whatever happens, it takes, handles and writes nothing, and stays closed
  pub closed_life : (old : PortFacts L) (events : List Event) (new : PortFacts L) → Lives facts routed old events new → is_closed old.stage ≡ true
      → (bytes_taken events ≡ []) × (frames_handled events ≡ []) × (bytes_written events ≡ []) × (is_closed new.stage ≡ true)
  closed_life old [] new same closed = (refl, refl, refl, ap (λ (p : PortFacts L). is_closed p.stage) same ∙ closed)
  closed_life old (stepped machine did ∷ events) new (mid, steps, lives) closed =
      let rests = quiet old machine did mid steps closed in
      let others = closed_life mid events new lives (quiet-closed old did mid rests closed) in (
        ap (λ (l : List ℕ). l ++ bytes_taken events) rests.no_bytes ∙ others.0,
        ap (λ (f : Option Frame). option_to_list f ++ frames_handled events) rests.no_frame ∙ others.1,
        ap (λ (l : List ℕ). l ++ bytes_written events) rests.no_write ∙ others.2,
        others.3,
      )
  closed_life old (replied heard cause ∷ events) new (mid, inl stays, lives) closed =
      closed_life mid events new lives (ap (λ (p : PortFacts L). is_closed p.stage) stays.same ∙ closed)
  closed_life old (replied heard cause ∷ events) new (mid, inr (inl takes), lives) closed = absurd (true≢false (sym closed ∙ takes.was_open))
  closed_life old (replied heard cause ∷ events) new (mid, inr (inr closes), lives) closed = absurd (true≢false (sym closed ∙ closes.was_open))
  closed_life old (lagged cause ∷ events) new (mid, inl stays, lives) closed =
      closed_life mid events new lives (ap (λ (p : PortFacts L). is_closed p.stage) stays.same ∙ closed)
  closed_life old (lagged cause ∷ events) new (mid, inr lags, lives) closed = absurd (true≢false (sym closed ∙ lags.0))

  -- ---- what it handled

  pub record Handled (old : PortFacts L) (events : List Event) (new : PortFacts L) : Type 0 where
    pub rest : List ℕ
    pub bytes : old.framer.kept ++ bytes_taken events ≡ spelled (frames_handled events) ++ rest
    pub each : All IsFrame (frames_handled events)
    pub kept : is_closed new.stage ≡ false → rest ≡ new.framer.kept

  -- a port that has closed handles nothing more
  handled_closing : (old : PortFacts L) (events : List Event) (new : PortFacts L) → bytes_taken events ≡ [] → frames_handled events ≡ [] → is_closed new.stage ≡ true → Handled old events new
  handled_closing old events new none no_frames closed = record {
    rest = old.framer.kept;
    bytes = ap (λ (l : List ℕ). old.framer.kept ++ l) none ∙ (append-nil old.framer.kept ∙ ap (λ (f : List Frame). spelled f ++ old.framer.kept) (sym no_frames));
    each = subst (All IsFrame) (sym no_frames) (All-nil IsFrame);
    kept = λ opened. absurd (true≢false (sym closed ∙ opened));
  }

  step_handled : (old mid new : PortFacts L) (machine : Machine) (did : PortDid) (events : List Event) (closed : Option Cause) → did.closed ≡ closed
      → Steps facts routed old machine did mid → Settled facts old did mid closed
      → Handled mid events new → Lives facts routed mid events new → Handled old (stepped machine did ∷ events) new
  step_handled old mid new machine did events None is steps settled next lives = record {
    rest = next.rest;
    bytes = then_balance old.framer.kept did.took mid.framer.kept (bytes_of did.handled) (spelled (frames_handled events)) (bytes_taken events) next.rest
        (steps.turn.reads.bytes ∙ ap (λ (l : List ℕ). bytes_of did.handled ++ l) (ap (λ (l : List ℕ). mid.framer.kept ++ l) (steps.turn.reads.lost_at_close is) ∙ append-nil mid.framer.kept)) next.bytes
        ∙ ap (λ (l : List ℕ). l ++ next.rest) (sym (spelled-and did.handled (frames_handled events)));
    each = each-and did.handled (frames_handled events) steps.turn.handles.whole next.each;
    kept = next.kept;
  }
  step_handled old mid new machine did events (Some cause) is steps closes next lives =
      let closed : is_closed mid.stage ≡ true = ap is_closed closes.stage in
      let others = closed_life mid events new lives closed in record {
        rest = mid.framer.kept ++ did.lost;
        bytes = ap (λ (l : List ℕ). old.framer.kept ++ (did.took ++ l)) others.0
            ∙ (ap (λ (l : List ℕ). old.framer.kept ++ l) (append-nil did.took)
            ∙ (steps.turn.reads.bytes
            ∙ ap (λ (l : List ℕ). l ++ (mid.framer.kept ++ did.lost)) (sym (append-nil (bytes_of did.handled)) ∙ (ap (λ (f : List Frame). bytes_of did.handled ++ spelled f) (sym others.1) ∙ sym (spelled-and did.handled (frames_handled events))))));
        each = each-and did.handled (frames_handled events) steps.turn.handles.whole next.each;
        kept = λ opened. absurd (true≢false (sym others.3 ∙ opened));
      }

  same_handled : (old mid new : PortFacts L) (event : Event) (events : List Event) → mid.framer.kept ≡ old.framer.kept → bytes_taken (event ∷ events) ≡ bytes_taken events → frames_handled (event ∷ events) ≡ frames_handled events
      → Handled mid events new → Handled old (event ∷ events) new
  same_handled old mid new event events same taken handled next = record {
    rest = next.rest;
    bytes = ap (λ (l : List ℕ). old.framer.kept ++ l) taken ∙ (ap (λ (l : List ℕ). l ++ bytes_taken events) (sym same) ∙ (next.bytes ∙ ap (λ (f : List Frame). spelled f ++ next.rest) (sym handled)));
    each = subst (All IsFrame) (sym handled) next.each;
    kept = next.kept;
  }

  pub life_handled : (old : PortFacts L) (events : List Event) (new : PortFacts L) → Lives facts routed old events new → Handled old events new
  life_handled old [] new same = record {
    rest = old.framer.kept;
    bytes = append-nil old.framer.kept;
    each = All-nil IsFrame;
    kept = λ opened. ap (λ (p : PortFacts L). p.framer.kept) (sym same);
  }
  life_handled old (stepped machine did ∷ events) new (mid, steps, lives) =
      step_handled old mid new machine did events did.closed refl steps steps.turn.ends.settled (life_handled mid events new lives) lives
  life_handled old (replied heard cause ∷ events) new (mid, inl stays, lives) =
      same_handled old mid new (replied heard cause) events (ap (λ (p : PortFacts L). p.framer.kept) stays.same) refl refl (life_handled mid events new lives)
  life_handled old (replied heard cause ∷ events) new (mid, inr (inl takes), lives) =
      same_handled old mid new (replied heard cause) events (ap (λ (p : PortFacts L). p.framer.kept) takes.rest) refl refl (life_handled mid events new lives)
  life_handled old (replied heard cause ∷ events) new (mid, inr (inr closes), lives) =
      let others = closed_life mid events new lives (ap (λ (p : PortFacts L). is_closed p.stage) closes.closes.rest) in
      handled_closing old (replied heard cause ∷ events) new others.0 others.1 others.3
  life_handled old (lagged cause ∷ events) new (mid, inl stays, lives) =
      same_handled old mid new (lagged cause) events (ap (λ (p : PortFacts L). p.framer.kept) stays.same) refl refl (life_handled mid events new lives)
  life_handled old (lagged cause ∷ events) new (mid, inr lags, lives) =
      let others = closed_life mid events new lives (ap (λ (p : PortFacts L). is_closed p.stage) lags.2.rest) in
      handled_closing old (lagged cause ∷ events) new others.0 others.1 others.3

  -- ---- what it wrote

  pub record Wrote (old : PortFacts L) (events : List Event) (new : PortFacts L) : Type 0 where
    pub rest : List ℕ
    pub bytes : old.out ++ bytes_queued events ≡ bytes_written events ++ rest
    pub kept : is_closed new.stage ≡ false → rest ≡ new.out

  -- a port that has closed writes nothing more
  wrote_closing : (old new : PortFacts L) (event : Event) (events : List Event) → bytes_written (event ∷ events) ≡ [] → is_closed new.stage ≡ true → Wrote old (event ∷ events) new
  wrote_closing old new event events none closed = record {
    rest = old.out ++ bytes_queued (event ∷ events);
    bytes = ap (λ (l : List ℕ). l ++ (old.out ++ bytes_queued (event ∷ events))) (sym none);
    kept = λ opened. absurd (true≢false (sym closed ∙ opened));
  }

  step_wrote : (old mid new : PortFacts L) (machine : Machine) (did : PortDid) (events : List Event) (closed : Option Cause) → did.closed ≡ closed
      → Steps facts routed old machine did mid → Settled facts old did mid closed
      → Wrote mid events new → Lives facts routed mid events new → Wrote old (stepped machine did ∷ events) new
  step_wrote old mid new machine did events None is steps settled next lives = record {
    rest = next.rest;
    bytes = then_balance old.out (queued machine did) mid.out did.wrote (bytes_written events) (bytes_queued events) next.rest
        (ap (λ (m : Machine). old.out ++ queued m did) steps.of_port
        ∙ (steps.turn.writes.bytes ∙ ap (λ (l : List ℕ). did.wrote ++ l) (ap (λ (l : List ℕ). mid.out ++ l) (steps.turn.writes.unsaid_at_close is) ∙ append-nil mid.out))) next.bytes;
    kept = next.kept;
  }
  step_wrote old mid new machine did events (Some cause) is steps closes next lives =
      let others = closed_life mid events new lives (ap is_closed closes.stage) in record {
        rest = (mid.out ++ did.unsaid) ++ bytes_queued events;
        bytes = sym (append_assoc old.out (queued machine did) (bytes_queued events))
            ∙ (ap (λ (l : List ℕ). l ++ bytes_queued events) (ap (λ (m : Machine). old.out ++ queued m did) steps.of_port ∙ steps.turn.writes.bytes)
            ∙ (append_assoc did.wrote (mid.out ++ did.unsaid) (bytes_queued events)
            ∙ ap (λ (l : List ℕ). l ++ ((mid.out ++ did.unsaid) ++ bytes_queued events)) (sym (append-nil did.wrote) ∙ ap (λ (l : List ℕ). did.wrote ++ l) (sym others.2))));
        kept = λ opened. absurd (true≢false (sym others.3 ∙ opened));
      }

  pub life_wrote : (old : PortFacts L) (events : List Event) (new : PortFacts L) → Lives facts routed old events new → Wrote old events new
  life_wrote old [] new same = record {
    rest = old.out;
    bytes = append-nil old.out;
    kept = λ opened. ap (λ (p : PortFacts L). p.out) (sym same);
  }
  life_wrote old (stepped machine did ∷ events) new (mid, steps, lives) =
      step_wrote old mid new machine did events did.closed refl steps steps.turn.ends.settled (life_wrote mid events new lives) lives
  life_wrote old (replied heard cause ∷ events) new (mid, inl stays, lives) =
      let others = closed_life mid events new lives (ap (λ (p : PortFacts L). is_closed p.stage) stays.same ∙ stays.was_closed) in
      wrote_closing old new (replied heard cause) events others.2 others.3
  life_wrote old (replied heard cause ∷ events) new (mid, inr (inl takes), lives) =
      let next = life_wrote mid events new lives in record {
        rest = next.rest;
        bytes = sym (append_assoc old.out heard.wire (bytes_queued events)) ∙ (ap (λ (p : PortFacts L). p.out ++ bytes_queued events) (sym takes.rest) ∙ next.bytes);
        kept = next.kept;
      }
  life_wrote old (replied heard cause ∷ events) new (mid, inr (inr closes), lives) =
      let others = closed_life mid events new lives (ap (λ (p : PortFacts L). is_closed p.stage) closes.closes.rest) in
      wrote_closing old new (replied heard cause) events others.2 others.3
  life_wrote old (lagged cause ∷ events) new (mid, inl stays, lives) =
      let others = closed_life mid events new lives (ap (λ (p : PortFacts L). is_closed p.stage) stays.same ∙ stays.was_closed) in
      wrote_closing old new (lagged cause) events others.2 others.3
  life_wrote old (lagged cause ∷ events) new (mid, inr lags, lives) =
      let others = closed_life mid events new lives (ap (λ (p : PortFacts L). is_closed p.stage) lags.2.rest) in
      wrote_closing old new (lagged cause) events others.2 others.3
