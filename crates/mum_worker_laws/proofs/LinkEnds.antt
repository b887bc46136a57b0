-- A port that closed at the end of its link has handled all frames.
use Rattle.mum_worker_laws.proofs.Common.{◌≡◌, ◌∙◌, ℕ, Bool, true, false, true≢false, List, [], ◌∷◌, ◌++◌, Option, Some, None, refl, ap, sym, subst, inl, inr, All, flat_map, append-nil, option_to_list, flat_map-append, Cause, End, Frame, IsFrame, frame_spelling, Splits, LinkFacts, PortDid, is_last, stage_once_put, PortFacts, new_port, Event, Happens, Lives, Steps, bytes_taken, frames_handled, lagged, replied, stepped, cause_of, is_closed, stage_after_post, Settled, DeskItem, Stage, Live, Ending, Closed, stage_once_put-closed, end_has_all, closed_life, quiet, Opening, Machine, session_of, RoutesPacket}
use Rattle.mum_worker_laws.proofs.{Changing.frames-append, Lasting.answered-open}

-- ---- stages

once_put-cause : (put waiting : Option DeskItem) (stage : Stage) → cause_of (stage_once_put put waiting stage) ≡ cause_of stage
once_put-cause (Some item) (Some waits) stage = refl
once_put-cause (Some item) None Live = refl
once_put-cause (Some item) None (Ending parting) = refl
once_put-cause (Some item) None (Closed cause farewell) = refl
once_put-cause None waiting stage = refl

no_cause : (stage : Stage) → is_closed stage ≡ false → cause_of stage ≡ None
no_cause Live opened = refl
no_cause (Ending parting) opened = refl
no_cause (Closed cause farewell) opened = absurd (true≢false opened)

posted-open : (last : Bool) (stage : Stage) → is_closed stage ≡ false → is_closed (stage_after_post last stage) ≡ false
posted-open true stage opened = refl
posted-open false stage opened = opened

taken-append : (events more : List Event) → bytes_taken (events ++ more) ≡ bytes_taken events ++ bytes_taken more
taken-append events more = flat_map-append _ events more

module _ {L : Type 0} (facts : L → LinkFacts) (opening : Opening) where
  -- a port that is closed stays closed for that cause
  closed_cause : (old : PortFacts L) (events : List Event) (new : PortFacts L) → Lives facts (RoutesPacket opening) old events new → is_closed old.stage ≡ true → cause_of new.stage ≡ cause_of old.stage
  closed_cause old [] new same closed = ap (λ (p : PortFacts L). cause_of p.stage) same
  closed_cause old (stepped machine did ∷ events) new (mid, steps, lives) closed =
      let rests = quiet facts (RoutesPacket opening) old machine did mid steps closed in
      closed_cause mid events new lives (ap is_closed rests.stage ∙ (stage_once_put-closed did.put old.waiting old.stage ∙ closed))
      ∙ (ap cause_of rests.stage ∙ once_put-cause did.put old.waiting old.stage)
  closed_cause old (replied heard cause ∷ events) new (mid, inl stays, lives) closed =
      closed_cause mid events new lives (ap (λ (p : PortFacts L). is_closed p.stage) stays.same ∙ closed) ∙ ap (λ (p : PortFacts L). cause_of p.stage) stays.same
  closed_cause old (replied heard cause ∷ events) new (mid, inr (inl takes), lives) closed = absurd (true≢false (sym closed ∙ takes.was_open))
  closed_cause old (replied heard cause ∷ events) new (mid, inr (inr closes), lives) closed = absurd (true≢false (sym closed ∙ closes.was_open))
  closed_cause old (lagged cause ∷ events) new (mid, inl stays, lives) closed =
      closed_cause mid events new lives (ap (λ (p : PortFacts L). is_closed p.stage) stays.same ∙ closed) ∙ ap (λ (p : PortFacts L). cause_of p.stage) stays.same
  closed_cause old (lagged cause ∷ events) new (mid, inr lags, lives) closed = absurd (true≢false (sym closed ∙ lags.0))

  -- the step at which an open port closed at the end of its link
  pub record EndsAt (old : PortFacts L) (events : List Event) (new : PortFacts L) : Type 0 where
    pub before : List Event
    pub port : PortFacts L
    pub machine : Machine
    pub did : PortDid
    pub mid : PortFacts L
    pub after : List Event
    pub is : events ≡ before ++ stepped machine did ∷ after
    pub leads : Lives facts (RoutesPacket opening) old before port
    pub steps : Steps facts (RoutesPacket opening) port machine did mid
    pub closes : did.closed ≡ Some End
    pub closed : is_closed mid.stage ≡ true
    pub lives : Lives facts (RoutesPacket opening) mid after new

  ends_later : (old mid new : PortFacts L) (event : Event) (events : List Event) → Happens facts (RoutesPacket opening) old event mid → EndsAt mid events new → EndsAt old (event ∷ events) new
  ends_later old mid new event events happens later = record {
    before = event ∷ later.before;
    port = later.port;
    machine = later.machine;
    did = later.did;
    mid = later.mid;
    after = later.after;
    is = ap (λ (l : List Event). event ∷ l) later.is;
    leads = (mid, happens, later.leads);
    steps = later.steps;
    closes = later.closes;
    closed = later.closed;
    lives = later.lives;
  }

  ends_step : (old mid new : PortFacts L) (machine : Machine) (did : PortDid) (events : List Event) (closed : Option Cause) → did.closed ≡ closed → Steps facts (RoutesPacket opening) old machine did mid
      → Settled facts old did mid closed → Lives facts (RoutesPacket opening) mid events new → is_closed old.stage ≡ false → cause_of new.stage ≡ Some End
      → (is_closed mid.stage ≡ false → EndsAt mid events new) → EndsAt old (stepped machine did ∷ events) new
  ends_step old mid new machine did events None is steps stays lives opened ended later =
      ends_later old mid new (stepped machine did) events steps
      (later (ap is_closed stays.stage ∙ posted-open (is_last (session_of old.machine.stage) did.post) (stage_once_put did.put old.waiting old.stage) (stage_once_put-closed did.put old.waiting old.stage ∙ opened)))
  ends_step old mid new machine did events (Some cause) is steps closes lives opened ended later =
      let closed : is_closed mid.stage ≡ true = ap is_closed closes.stage in record {
        before = [];
        port = old;
        machine = machine;
        did = did;
        mid = mid;
        after = events;
        is = refl;
        leads = refl;
        steps = steps;
        closes = is ∙ (sym (ap cause_of closes.stage) ∙ (sym (closed_cause mid events new lives closed) ∙ ended));
        closed = closed;
        lives = lives;
      }

  ends_at : (old : PortFacts L) (events : List Event) (new : PortFacts L) → Lives facts (RoutesPacket opening) old events new → is_closed old.stage ≡ false → cause_of new.stage ≡ Some End → EndsAt old events new
  ends_at old [] new same opened ended =
      absurd (cc (sym (ap (λ (p : PortFacts L). cause_of p.stage) same ∙ no_cause old.stage opened) ∙ ended))
  ends_at old (stepped machine did ∷ events) new (mid, steps, lives) opened ended =
      ends_step old mid new machine did events did.closed refl steps steps.turn.ends.settled lives opened ended (λ open_on. ends_at mid events new lives open_on ended)
  ends_at old (replied heard cause ∷ events) new (mid, inl stays, lives) opened ended = absurd (true≢false (sym stays.was_closed ∙ opened))
  ends_at old (replied heard cause ∷ events) new (mid, inr (inl takes), lives) opened ended =
      ends_later old mid new (replied heard cause) events (inr (inl takes))
      (ends_at mid events new lives (ap (λ (p : PortFacts L). is_closed p.stage) takes.rest ∙ answered-open heard.end old.stage opened) ended)
  ends_at old (replied heard cause ∷ events) new (mid, inr (inr closes), lives) opened ended =
      absurd (cc (sym ended ∙ (closed_cause mid events new lives (ap (λ (p : PortFacts L). is_closed p.stage) closes.closes.rest) ∙ ap (λ (p : PortFacts L). cause_of p.stage) closes.closes.rest)))
  ends_at old (lagged cause ∷ events) new (mid, inl stays, lives) opened ended = absurd (true≢false (sym stays.was_closed ∙ opened))
  ends_at old (lagged cause ∷ events) new (mid, inr lags, lives) opened ended =
      absurd (cc (sym ended ∙ (closed_cause mid events new lives (ap (λ (p : PortFacts L). is_closed p.stage) lags.2.rest) ∙ ap (λ (p : PortFacts L). cause_of p.stage) lags.2.rest)))

  -- that step takes and handles nothing
  shown_at_end : (old : PortFacts L) (did : PortDid) (new : PortFacts L) (closed : Option Cause) → closed ≡ Some End → Settled facts old did new closed → (did.handled ≡ None) × (did.took ≡ [])
  shown_at_end old did new None is settled = absurd (cc is)
  shown_at_end old did new (Some cause) is closes =
      let same : cause ≡ End = cc is in
      let at_end = subst (λ (x : Cause). Settled facts old did new (Some x)) same closes in
      (at_end.shown.1, at_end.shown.2)

  taken_at_end : (old : PortFacts L) (events : List Event) (new : PortFacts L) (at : EndsAt old events new) → bytes_taken events ≡ bytes_taken at.before
  taken_at_end old events new at =
      ap bytes_taken at.is
      ∙ (taken-append at.before (stepped at.machine at.did ∷ at.after)
      ∙ (ap (λ (l : List ℕ). bytes_taken at.before ++ (at.did.took ++ l)) (closed_life facts (RoutesPacket opening) at.mid at.after new at.lives at.closed).0
      ∙ (ap (λ (l : List ℕ). bytes_taken at.before ++ (l ++ [])) (shown_at_end at.port at.did at.mid at.did.closed at.closes at.steps.turn.ends.settled).1
      ∙ append-nil (bytes_taken at.before))))

  handled_at_end : (old : PortFacts L) (events : List Event) (new : PortFacts L) (at : EndsAt old events new) → frames_handled events ≡ frames_handled at.before
  handled_at_end old events new at =
      ap frames_handled at.is
      ∙ (frames-append at.before (stepped at.machine at.did ∷ at.after)
      ∙ (ap (λ (l : List Frame). frames_handled at.before ++ (option_to_list at.did.handled ++ l)) (closed_life facts (RoutesPacket opening) at.mid at.after new at.lives at.closed).1
      ∙ (ap (λ (f : Option Frame). frames_handled at.before ++ (option_to_list f ++ [])) (shown_at_end at.port at.did at.mid at.did.closed at.closes at.steps.turn.ends.settled).0
      ∙ append-nil (frames_handled at.before))))

  pub all_frames : (connection worker : ℕ) (link : L) (events : List Event) (new : PortFacts L) → Lives facts (RoutesPacket opening) (new_port connection worker link) events new
      → cause_of new.stage ≡ Some End → (rest : List ℕ) × Splits (bytes_taken events) (frames_handled events) rest
  all_frames connection worker link events new lives ended =
      let at = ends_at (new_port connection worker link) events new lives refl ended in
      let splits = end_has_all facts (RoutesPacket opening) connection worker link at.before at.port at.mid at.machine at.did at.leads at.steps at.closes in
      let handled = handled_at_end (new_port connection worker link) events new at in (
        at.port.framer.kept,
        record {
          whole = taken_at_end (new_port connection worker link) events new at ∙ (splits.whole ∙ ap (λ (l : List Frame). flat_map frame_spelling l ++ at.port.framer.kept) (sym handled));
          each = subst (All IsFrame) (sym handled) splits.each;
          no_frame = splits.no_frame;
        },
      )
