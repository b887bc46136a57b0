-- The steps of one worker are those of the core, and what moments make of a worker.
use Rattle.mum_step_laws.proofs.Common.{◌≡◌, ◌∙◌, ℕ, ◌<◌, Bool, true, false, cond, List, [], ◌∷◌, ◌++◌, length, take, max, Option, Some, None, refl, sym, ap, subst, arith, nat_lt, append_assoc, is_none, is_some, not, replicate, slice_get, slice_index_or, flat_map, ltb-false, flat_map-append, fold-append, append-nil, length-map, filter_map-append, nat_tests, IsPrefix, SessionId, changed_same, none_stands, puts_workers, first_that_stands, is_untold, CoreState, at_worker, connection_at, is_opened, state_at, worker_at, does, frame_action, frame_version, illegal, HeldPacket, WorkerState, idle, in_hand, least_look, Reply, Outgoing, prefix_trans, Login, NoteFacts, Opening, PassFacts, ReplyFacts, Frame, Look, Offer, Tell, RouterFacts, Delivery, RoutesAt, Routed, Action, Voice, at, led_to, StateValue, Edit, Parts, Admits, LearnsGiven, Packet, Moment, Take, Told, Looked, Took, look_in, looks_in, revision_noted, Allows, AllowsEach, Hold, LookAt, HasNoted, MaySpeak, MayBeTold, Note, NotesAreTold, OfferNext, WorkerStep, WorkerStepsAreSteps, after_step, after_steps, copies_offered, offered_by, packet_in, steps_of, StandsAt, copies_for, held_packet}
use Rattle.mum_step_laws.specs.WorkerRuns.{offered}
use Rattle.mum_step_laws.proofs.WorkerParts.{copies_found, least_below, no_less, passes, shorter_front, stands_left, stands_looked, take_front, there}
use Rattle.mum_core.specs.steps.Frame as frame_step
use Rattle.mum_core.specs.steps.Look as look_step
use Rattle.mum_core.specs.steps.Offer as offer_step
use Rattle.mum_core.specs.steps.Tell as tell_step

-- ---- the steps of one worker

module _ (core : CoreState) (w : ℕ) (within : w < length core.workers) where
  look_is : (revision : ℕ)
      → ((illegal core (Look w revision) ≡ None → Allows core.published (worker_at core w) (LookAt revision))
      × (Allows core.published (worker_at core w) (LookAt revision) → illegal core (Look w revision) ≡ None))
      × (worker_at (does core (Look w revision)) w ≡ after_step (state_at core) (worker_at core w) (LookAt revision))
  look_is revision =
      let worker = worker_at core w in (
        (
          λ allowed.
              let first = none_stands (not (nat_lt w (length core.workers))) _ _ allowed in
              let second = none_stands (is_none worker.held) _ _ first.1 in
              let third = none_stands (nat_lt revision (least_look worker)) _ _ second.1 in
              let fourth = none_stands (nat_lt core.published revision) _ _ third.1 in
              (second.0, ltb-false revision (least_look worker) third.0, ltb-false core.published revision fourth.0),
          λ free.
              passes (not (nat_lt w (length core.workers))) _ _ (there w (length core.workers) within)
              (passes (is_none worker.held) _ _ free.0
              (passes (nat_lt revision (least_look worker)) _ _ (no_less revision (least_look worker) free.1)
              (passes (nat_lt core.published revision) _ _ (no_less core.published revision free.2) refl))),
        ),
        changed_same core.workers w _ idle within,
      )

  offer_is : ((illegal core (Offer w) ≡ None → Allows core.published (worker_at core w) OfferNext)
      × (Allows core.published (worker_at core w) OfferNext → illegal core (Offer w) ≡ None))
      × (worker_at (does core (Offer w)) w ≡ after_step (state_at core) (worker_at core w) OfferNext)
  offer_is =
      let taken : CoreState = at_worker w (λ worker. offer_step.left worker) core in (
        (
          λ allowed.
              let first = none_stands (not (nat_lt w (length core.workers))) _ _ allowed in
              (none_stands (is_none (offer_step.next_copy core w)) _ _ first.1).0,
          λ some.
              passes (not (nat_lt w (length core.workers))) _ _ (there w (length core.workers) within)
              (passes (is_none (offer_step.next_copy core w)) _ _ some refl),
        ),
        ap (λ (xs : List WorkerState). slice_index_or xs w idle) (puts_workers taken (offer_step.next_copy core w))
            ∙ changed_same core.workers w (λ worker. offer_step.left worker) idle within,
      )

  -- the worker after a frame that is a packet
  heard_worker : (c : ℕ) (version : Option ℕ) (a : Action) (held : HeldPacket) → (connection_at core c).worker ≡ w
      → packet_in (connection_at core c).seat a ≡ Some held
      → worker_at (frame_step.does core c version a) w ≡ frame_step.holding held (worker_at core w)
  heard_worker c version (Voice payload) held at is =
      ap (λ (o : Option HeldPacket). worker_at (frame_step.hears core (connection_at core c).worker o) w) is
      ∙ ap (λ (n : ℕ). worker_at (frame_step.hears core n (Some held)) w) at
      ∙ changed_same core.workers w (λ worker. frame_step.holding held worker) idle within
  heard_worker c version others held at is = absurd (cc is)

  frame_is : (c : ℕ) (bytes : List ℕ) (held : HeldPacket) → (connection_at core c).worker ≡ w
      → packet_in (connection_at core c).seat (frame_action core c bytes) ≡ Some held → MaySpeak core c
      → ((illegal core (Frame c bytes) ≡ None → Allows core.published (worker_at core w) (Hold held))
      × (Allows core.published (worker_at core w) (Hold held) → illegal core (Frame c bytes) ≡ None))
      × (worker_at (does core (Frame c bytes)) w ≡ after_step (state_at core) (worker_at core w) (Hold held))
  frame_is c bytes held at is may =
      let conn = connection_at core c in
      let same : in_hand (worker_at core conn.worker) ≡ in_hand (worker_at core w) = ap (λ (n : ℕ). in_hand (worker_at core n)) at in (
        (
          λ allowed.
              let first = none_stands (not (is_opened core c)) _ _ allowed in
              let second = none_stands (is_some conn.closed) _ _ first.1 in
              let third = none_stands (is_untold conn) _ _ second.1 in
              let fourth = none_stands (nat_lt 0 (in_hand (worker_at core conn.worker))) _ _ third.1 in
              let none = ltb-false 0 (in_hand (worker_at core conn.worker)) fourth.0 in
              omega (arith, same, none),
          λ free.
              passes (not (is_opened core c)) _ _ (ap not may.opened)
              (passes (is_some conn.closed) _ _ (ap is_some may.not_closed)
              (passes (is_untold conn) _ _ may.nothing_untold
              (passes (nat_lt 0 (in_hand (worker_at core conn.worker))) _ _ (ap (λ (n : ℕ). nat_lt 0 n) (same ∙ free)) refl))),
        ),
        heard_worker c (frame_version core c bytes) (frame_action core c bytes) held at is,
      )

  noted_worker : (c : ℕ) (note : Option ℕ) → (connection_at core c).worker ≡ w
      → worker_at (does core (Tell c note)) w ≡ after_step (state_at core) (worker_at core w) (Note note)
  noted_worker c None at = refl
  noted_worker c (Some revision) at =
      ap (λ (n : ℕ). worker_at (tell_step.notes n (Some revision) core) w) at
      ∙ changed_same core.workers w (λ worker. tell_step.noted revision worker) idle within

  note_is : (reply : Reply) (note : Option ℕ) → HasNoted reply note
      → (first_that_stands (tell_step.note_cases core (Some reply) note) ≡ None → Allows core.published (worker_at core w) (Note note))
      × (Allows core.published (worker_at core w) (Note note) → first_that_stands (tell_step.note_cases core (Some reply) note) ≡ None)
  note_is reply None has = (λ allowed. tt, λ free. refl)
  note_is reply (Some revision) has = (
    λ allowed.
        let first = none_stands (not (tell_step.has_edit (Some reply))) _ _ allowed in
        let second = none_stands (nat_lt revision (tell_step.edit_revision (Some reply))) _ _ first.1 in
        let third = none_stands (nat_lt core.published revision) _ _ second.1 in
        ltb-false core.published revision third.0,
    λ shown.
        passes (not (tell_step.has_edit (Some reply))) _ _ (ap not has.0)
        (passes (nat_lt revision (tell_step.edit_revision (Some reply))) _ _ (no_less revision (tell_step.edit_revision (Some reply)) has.1)
        (passes (nat_lt core.published revision) _ _ (no_less core.published revision shown) refl)),
  )

  tell_is : (c : ℕ) (note : Option ℕ) → (connection_at core c).worker ≡ w → MayBeTold core c note
      → ((illegal core (Tell c note) ≡ None → Allows core.published (worker_at core w) (Note note))
      × (Allows core.published (worker_at core w) (Note note) → illegal core (Tell c note) ≡ None))
      × (worker_at (does core (Tell c note)) w ≡ after_step (state_at core) (worker_at core w) (Note note))
  tell_is c note at may =
      let conn = connection_at core c in
      let both = note_is may.reply note may.fits in
      let same : first_that_stands (tell_step.note_cases core conn.decided note) ≡ first_that_stands (tell_step.note_cases core (Some may.reply) note) =
      ap (λ (o : Option Reply). first_that_stands (tell_step.note_cases core o note)) may.waits in (
        (
          λ allowed.
              let first = none_stands (not (is_opened core c)) _ _ allowed in
              let second = none_stands (is_none conn.decided) _ _ first.1 in
              both.0 (sym same ∙ second.1),
          λ free.
              passes (not (is_opened core c)) _ _ (ap not may.opened)
              (passes (is_none conn.decided) _ _ (ap is_none may.waits) (same ∙ both.1 free)),
        ),
        noted_worker c note at,
      )

pub steps_are : WorkerStepsAreSteps
steps_are core w within = record {
  look = look_is core w within;
  offer = offer_is core w within;
  frame = frame_is core w within;
  tell = tell_is core w within;
}

-- ---- a note

longest_by : (test : Bool) (edits others : List Edit) → nat_lt (length edits) (length others) ≡ test → length (cond test others edits) ≡ max (length edits) (length others)
longest_by true edits others is = grind (arith, nat_tests)
longest_by false edits others is = grind (arith, nat_tests)

-- a worker that is notified is where the pass is that learns the note
pub stands_told : (states : ℕ → StateValue) (note : Option NoteFacts) (old new : RouterFacts) → LearnsGiven note old new
    → (held : Option HeldPacket) (copies : List Outgoing) (worker : WorkerState) → StandsAt old.pass held copies worker
    → StandsAt new.pass held copies (after_step states worker (Note (revision_noted note)))
stands_told states None old new same held copies worker stands = subst (λ (r : RouterFacts). StandsAt r.pass held copies worker) (sym same) stands
stands_told states (Some note) old new learns held copies worker stands =
    let learnt = learns.0 in
    let is : length new.pass.known ≡ max (length old.pass.known) (length note.edits) =
    ap length learnt.one ∙ longest_by (nat_lt (length old.pass.known) (length note.edits)) old.pass.known note.edits refl in record {
      seen_is = stands.seen_is ∙ ap (λ (p : PassFacts). length p.seen) (sym learnt.same);
      least_is = omega (arith, is, stands.least_is);
      held_is = stands.held_is;
      copies_are = stands.copies_are;
    }

pub notes : NotesAreTold
notes note old new learns core c w held copies at within stands =
    subst (StandsAt new.pass held copies) (sym (noted_worker core w within c (revision_noted note) at))
    (stands_told (state_at core) note old new learns held copies (worker_at core w) stands)

-- ---- runs

module _ (states : ℕ → StateValue) where
  allows_on : (published : ℕ) (worker : WorkerState) (xs ys : List WorkerStep) → AllowsEach states published worker xs
      → AllowsEach states published (after_steps states worker xs) ys → AllowsEach states published worker (xs ++ ys)
  allows_on published worker [] ys first later = later
  allows_on published worker (x ∷ xs) ys first later = (first.0, allows_on published (after_step states worker x) xs ys first.1 later)

  offered_on : (worker : WorkerState) (xs ys : List WorkerStep) → offered states worker (xs ++ ys) ≡ offered states worker xs ++ offered states (after_steps states worker xs) ys
  offered_on worker [] ys = refl
  offered_on worker (x ∷ xs) ys =
      ap (λ (l : List Outgoing). offered_by states worker x ++ l) (offered_on (after_step states worker x) xs ys)
      ∙ sym (append_assoc (offered_by states worker x) (offered states (after_step states worker x) xs) (offered states (after_steps states (after_step states worker x) xs) ys))

  -- a run of steps from a worker to where this pass is, that offers these copies
  pub record Runs (published : ℕ) (worker : WorkerState) (steps : List WorkerStep) (copies : List Outgoing) (pass : PassFacts) : Type 0 where
    pub allowed : AllowsEach states published worker steps
    pub offers : offered states worker steps ≡ copies
    pub stands : StandsAt pass None [] (after_steps states worker steps)

  runs_on : (published : ℕ) (worker : WorkerState) (xs ys : List WorkerStep) (one more : List Outgoing) (mid new : PassFacts)
      → Runs published worker xs one mid → Runs published (after_steps states worker xs) ys more new → Runs published worker (xs ++ ys) (one ++ more) new
  runs_on published worker xs ys one more mid new first later = record {
    allowed = allows_on published worker xs ys first.allowed later.allowed;
    offers = offered_on worker xs ys ∙ ap (λ (l : List Outgoing). l ++ offered states (after_steps states worker xs) ys) first.offers ∙ ap (λ (l : List Outgoing). one ++ l) later.offers;
    stands = subst (StandsAt new None []) (sym (fold-append (after_step states) worker xs ys)) later.stands;
  }

  -- a worker offers all copies that it has
  offers_all : (published : ℕ) (pass : PassFacts) (copies : List Outgoing) (worker : WorkerState) → StandsAt pass None copies worker
      → Runs published worker (replicate (length copies) OfferNext) copies pass
  offers_all published pass [] worker stands = record { allowed = tt; offers = refl; stands = stands }
  offers_all published pass (next ∷ copies) worker stands =
      let rest = offers_all published pass copies (offer_step.left worker) (stands_left pass next copies worker stands) in record {
        allowed = (ap (λ (xs : List Outgoing). is_none (slice_get xs 0)) stands.copies_are, rest.allowed);
        offers = ap (λ (xs : List Outgoing). take 1 xs ++ offered states (offer_step.left worker) (replicate (length copies) OfferNext)) stands.copies_are
            ∙ ap (λ (xs : List Outgoing). next ∷ xs) rest.offers;
        stands = rest.stands;
      }

-- ---- moments

nothing_in_hand : (held : Option HeldPacket) (copies : List Outgoing) → held ≡ None → copies ≡ [] → cond (is_some held) 1 (length copies) ≡ 0
nothing_in_hand held copies none nothing = ap (λ (o : Option HeldPacket). cond (is_some o) 1 (length copies)) none ∙ ap length nothing

module _ (opening : Opening) (published : List Edit) where
  abbrev states : ℕ → StateValue
  states = at opening.state published

  state_is : (edits : List Edit) → IsPrefix edits published → states (length edits) ≡ led_to opening.state edits
  state_is edits begin = ap (led_to opening.state) (take_front edits published begin)

  -- a reply that was heard
  told_runs : (reply : ReplyFacts) (old new : RouterFacts) → LearnsGiven reply.note old new → IsPrefix new.pass.known published
      → (worker : WorkerState) → StandsAt old.pass None [] worker → Runs states (length published) worker (steps_of (Told reply)) [] new.pass
  told_runs reply old new learns front worker stands = record {
    allowed = (allowed reply.note learns, tt);
    offers = refl;
    stands = stands_told states reply.note old new learns None [] worker stands;
  }
    where
      allowed : (note : Option NoteFacts) → LearnsGiven note old new → Allows (length published) worker (Note (revision_noted note))
      allowed None same = tt
      allowed (Some note) given = shorter_front note.edits published (prefix_trans note.edits new.pass.known published given.0.its front)

  -- what was learnt of parcels
  took_runs : (takes : List Take) (note : Option NoteFacts) (old new : RouterFacts) → LearnsGiven note old new → IsPrefix new.pass.known published
      → (worker : WorkerState) → StandsAt old.pass None [] worker → Runs states (length published) worker (steps_of (Took takes note)) [] new.pass
  took_runs takes note old new learns front worker stands = record {
    allowed = (allowed note learns, tt);
    offers = refl;
    stands = stands_told states note old new learns None [] worker stands;
  }
    where
      allowed : (note : Option NoteFacts) → LearnsGiven note old new → Allows (length published) worker (Note (revision_noted note))
      allowed None same = tt
      allowed (Some note) given = shorter_front note.edits published (prefix_trans note.edits new.pass.known published given.0.its front)

  -- a packet that was routed
  saw_runs : (connection : ℕ) (old : RouterFacts) (speaker : SessionId) (packet : Parts) (edits : List Edit) (deliveries : List Delivery) (new : RouterFacts) (routed : Routed)
      → RoutesAt opening old speaker packet edits deliveries new routed → IsPrefix new.pass.known published
      → (worker : WorkerState) → StandsAt old.pass None [] worker
      → Runs states (length published) worker (steps_of (Looked (record { connection = connection; speaker = speaker; packet = packet; edits = edits; deliveries = deliveries }))) (copies_for speaker packet deliveries) new.pass
  saw_runs connection old speaker packet edits deliveries new routed routes front worker stands =
      let held = held_packet speaker packet in
      let seen : new.pass.seen ≡ edits = ap (λ (r : RouterFacts). r.pass.seen) routes.router in
      let known : new.pass.known ≡ edits = ap (λ (r : RouterFacts). r.pass.known) routes.router in
      let begin : IsPrefix edits published = subst (λ (l : List Edit). IsPrefix l published) known front in
      let holds : StandsAt old.pass (Some held) [] (frame_step.holding held worker) = record {
        seen_is = stands.seen_is;
        least_is = stands.least_is;
        held_is = refl;
        copies_are = stands.copies_are;
      } in
      let found : look_step.copies (states (length edits)) (Some held) ≡ copies_for speaker packet deliveries =
      ap (λ (s : StateValue). look_step.copies s (Some held)) (state_is edits begin) ∙ copies_found (led_to opening.state edits) speaker packet deliveries routes.each in
      let looked : WorkerState = look_step.looked (length edits) (look_step.copies (states (length edits)) (Some held)) (frame_step.holding held worker) in
      let after : StandsAt new.pass None (copies_for speaker packet deliveries) looked =
      subst (λ (xs : List Outgoing). StandsAt new.pass None xs looked) found
      (stands_looked old.pass new.pass (Some held) [] (look_step.copies (states (length edits)) (Some held)) (frame_step.holding held worker) edits holds routes.may.known seen known) in
      let many : length (copies_for speaker packet deliveries) ≡ length deliveries = length-map deliveries (λ (d : Delivery). look_step.outgoing held d.hearer) in
      let offers = subst (λ (n : ℕ). Runs states (length published) looked (replicate n OfferNext) (copies_for speaker packet deliveries) new.pass) many
      (offers_all states (length published) new.pass (copies_for speaker packet deliveries) looked after) in record {
        allowed = (
          nothing_in_hand worker.held worker.copies stands.held_is stands.copies_are,
          ((refl, least_below old.pass (Some held) [] (frame_step.holding held worker) edits holds routes.may.known, shorter_front edits published begin), offers.allowed),
        );
        offers = offers.offers;
        stands = offers.stands;
      }

  -- these moments lead a worker of the core from where one pass is to where another is
  pub record Leads (old new : RouterFacts) (moments : List Moment) : Type 0 where
    pub knows : IsPrefix old.pass.known new.pass.known
    pub runs : IsPrefix new.pass.known published → (worker : WorkerState) → StandsAt old.pass None [] worker
        → Runs states (length published) worker (flat_map steps_of moments) (flat_map copies_offered (looks_in moments)) new.pass

  pub leads_same : (old new : RouterFacts) → new ≡ old → Leads old new []
  leads_same old new same = record {
    knows = ([], append-nil old.pass.known ∙ ap (λ (r : RouterFacts). r.pass.known) (sym same));
    runs = λ front worker stands. record {
      allowed = tt;
      offers = refl;
      stands = subst (λ (r : RouterFacts). StandsAt r.pass None [] worker) (sym same) stands;
    };
  }

  -- of edits a pass knows no more once it learnt of logins
  leads_admitted : (roll : List Login) (old mid new : RouterFacts) (moments : List Moment) → Admits roll mid new → Leads old mid moments → Leads old new moments
  leads_admitted roll old mid new moments admits leads =
      let known : new.pass.known ≡ mid.pass.known = ap (λ (p : PassFacts). p.known) admits.0.same in record {
        knows = subst (λ (l : List Edit). IsPrefix old.pass.known l) (sym known) leads.knows;
        runs = λ front worker stands.
            let runs = leads.runs (subst (λ (l : List Edit). IsPrefix l published) known front) worker stands in record {
              allowed = runs.allowed;
              offers = runs.offers;
              stands = record {
                seen_is = runs.stands.seen_is ∙ ap (λ (p : PassFacts). length p.seen) (sym admits.0.same);
                least_is = runs.stands.least_is ∙ ap (λ (p : PassFacts). length p.known) (sym admits.0.same);
                held_is = runs.stands.held_is;
                copies_are = runs.stands.copies_are;
              };
            };
      }

  pub leads_told : (reply : ReplyFacts) (old mid new : RouterFacts) → LearnsGiven reply.note old mid → Admits reply.roll mid new → Leads old new (Told reply ∷ [])
  leads_told reply old mid new learns admits = leads_admitted reply.roll old mid new (Told reply ∷ []) admits (record {
    knows = from reply.note learns;
    runs = told_runs reply old mid learns;
  })
    where
      from : (note : Option NoteFacts) → LearnsGiven note old mid → IsPrefix old.pass.known mid.pass.known
      from None same = ([], append-nil old.pass.known ∙ ap (λ (r : RouterFacts). r.pass.known) (sym same))
      from (Some note) given = given.0.mine

  pub leads_took : (takes : List Take) (note : Option NoteFacts) (old new : RouterFacts) → LearnsGiven note old new → Leads old new (Took takes note ∷ [])
  leads_took takes note old new learns = record { knows = from note learns; runs = took_runs takes note old new learns }
    where
      from : (note : Option NoteFacts) → LearnsGiven note old new → IsPrefix old.pass.known new.pass.known
      from None same = ([], append-nil old.pass.known ∙ ap (λ (r : RouterFacts). r.pass.known) (sym same))
      from (Some note) given = given.0.mine

  pub leads_saw : (connection : ℕ) (old : RouterFacts) (speaker : SessionId) (packet : Parts) (edits : List Edit) (deliveries : List Delivery) (new : RouterFacts) (routed : Routed)
      → RoutesAt opening old speaker packet edits deliveries new routed
      → Leads old new (Looked (record { connection = connection; speaker = speaker; packet = packet; edits = edits; deliveries = deliveries }) ∷ [])
  leads_saw connection old speaker packet edits deliveries new routed routes =
      let look : Packet = record { connection = connection; speaker = speaker; packet = packet; edits = edits; deliveries = deliveries } in record {
        knows = subst (λ (l : List Edit). IsPrefix old.pass.known l) (sym (ap (λ (r : RouterFacts). r.pass.known) routes.router)) routes.may.known;
        runs = λ front worker stands.
            subst (λ (xs : List WorkerStep). Runs states (length published) worker xs (flat_map copies_offered (looks_in (Looked look ∷ []))) new.pass) (sym (append-nil (steps_of (Looked look))))
            (subst (λ (xs : List Outgoing). Runs states (length published) worker (steps_of (Looked look)) xs new.pass) (sym (append-nil (copies_offered look)))
            (saw_runs connection old speaker packet edits deliveries new routed routes front worker stands));
      }

  pub leads_on : (old mid new : RouterFacts) (ms ns : List Moment) → Leads old mid ms → Leads mid new ns → Leads old new (ms ++ ns)
  leads_on old mid new ms ns one other = record {
    knows = prefix_trans old.pass.known mid.pass.known new.pass.known one.knows other.knows;
    runs = λ front worker stands.
        let first = one.runs (prefix_trans mid.pass.known new.pass.known published other.knows front) worker stands in
        let later = other.runs front (after_steps states worker (flat_map steps_of ms)) first.stands in
        subst (λ (xs : List WorkerStep). Runs states (length published) worker xs (flat_map copies_offered (looks_in (ms ++ ns))) new.pass) (sym (flat_map-append steps_of ms ns))
        (subst (λ (xs : List Outgoing). Runs states (length published) worker (flat_map steps_of ms ++ flat_map steps_of ns) xs new.pass)
        (sym (ap (λ (l : List Packet). flat_map copies_offered l) (filter_map-append look_in ms ns) ∙ flat_map-append copies_offered (looks_in ms) (looks_in ns)))
        (runs_on states (length published) worker (flat_map steps_of ms) (flat_map steps_of ns) (flat_map copies_offered (looks_in ms)) (flat_map copies_offered (looks_in ns)) mid.pass new.pass first later));
  }
