-- Each packet is looked for once, and is taken of a frame.
use Rattle.mum_laws.proofs.Common.{◌≡◌, ℕ, ◌<◌, max, Bool, true, false, cond, List, [], ◌∷◌, ◌++◌, length, drop, Option, Some, None, refl, sym, ap, ◌∙◌, arith, inl, inr, ◌==◌, ◌⊎◌, is_none, option_to_list, replicate, slice_index_or, eqb-false, eqb-true, append-nil, length-replicate, StateValue, Action, Voice, Version, Step, Open, Frame, Publish, Tell, Look, Offer, Post, Drain, Collect, Close, End, CoreState, connection_at, start, state_at, worker_at, IsRun, gathered, packet_taken, ran, does, frame_action, frame_version, illegal, HeldPacket, WorkerState, idle, changed-by, changed_other, changed_same, length-changed, frame_hands, collect_workers, decided_workers, drain_workers, posted_workers, puts_workers, taken_core, told_core, looked_for, packet_in, said}
use Rattle.mum_laws.proofs.{Finding.idle_at, Finding.is_there, Finding.joins, Voicing.frame_finds, Voicing.heard_by}
use Rattle.mum_record.specs.declared.step.Step.TheVariants as steps
use Rattle.mum_core.specs.steps.Edit as edit_step
use Rattle.mum_core.specs.steps.Frame as frame_step
use Rattle.mum_core.specs.steps.Look as look_step
use Rattle.mum_core.specs.steps.Offer as offer_step
use Rattle.mum_core.specs.steps.Tell as tell_step

-- ---- no step makes or takes a worker

hears_many : (core : CoreState) (w : ℕ) (held : Option HeldPacket) → length (frame_step.hears core w held).workers ≡ length core.workers
hears_many core w None = refl
hears_many core w (Some held) = length-changed core.workers w (λ worker. record worker { held = Some held })

-- what an action has the core hear
frame_workers : (core : CoreState) (c : ℕ) (version : Option ℕ) (a : Action)
    → (frame_step.does core c version a).workers ≡ (frame_step.hears core (connection_at core c).worker (heard_by (connection_at core c).seat a)).workers
frame_workers core c version (Voice payload) = refl
frame_workers core c version others = refl

notes_many : (core : CoreState) (w : ℕ) (revision : Option ℕ) → length (tell_step.notes w revision core).workers ≡ length core.workers
notes_many core w None = refl
notes_many core w (Some revision) = length-changed core.workers w (λ worker. record worker { told = max worker.told revision })

abbrev many : List WorkerState → ℕ
many workers = length workers

pub as_many : (core : CoreState) (step : Step) → length (does core step).workers ≡ length core.workers
as_many core (Open c w) = refl
as_many core (Frame c bytes) =
    ap many (frame_workers core c (frame_version core c bytes) (frame_action core c bytes))
    ∙ hears_many core (connection_at core c).worker (heard_by (connection_at core c).seat (frame_action core c bytes))
as_many core (steps.Edit c) = ap many (decided_workers core c (edit_step.decision core c))
as_many core Publish = refl
as_many core (Tell c revision) = notes_many (told_core core c) (connection_at core c).worker revision
as_many core (Look w revision) = length-changed core.workers w (λ worker. record worker { seen = revision; held = None; copies = look_step.copies (state_at core revision) (worker_at core w).held })
as_many core (Offer w) =
    ap many (puts_workers (taken_core core w) (offer_step.next_copy core w)) ∙ length-changed core.workers w (λ worker. record worker { copies = drop 1 worker.copies })
as_many core (Drain c) = ap many (drain_workers core (connection_at core c).seat)
as_many core Post = ap many (posted_workers core)
as_many core (Collect c) = ap many (collect_workers core (connection_at core c).seat)
as_many core (Close c cause) = refl
as_many core End = refl

-- ---- what a worker holds

abbrev held_at : CoreState → ℕ → Option HeldPacket
held_at core w = (worker_at core w).held

abbrev HoldsSame : WorkerState → WorkerState → Type 0
HoldsSame old new = new.held ≡ old.held

holds_same : (x : WorkerState) → HoldsSame x x
holds_same x = refl

of_workers : (core new : CoreState) (w : ℕ) → new.workers ≡ core.workers → held_at new w ≡ held_at core w
of_workers core new w same = ap (λ (ws : List WorkerState). (slice_index_or ws w idle).held) same

notes_same : (core : CoreState) (v w : ℕ) (revision : Option ℕ) → held_at (tell_step.notes v revision core) w ≡ held_at core w
notes_same core v w None = refl
notes_same core v w (Some revision) = changed-by HoldsSame holds_same core.workers v w (λ worker. record worker { told = max worker.told revision }) idle (λ x at here. refl)

offer_same : (core : CoreState) (v w : ℕ) → held_at (does core (Offer v)) w ≡ held_at core w
offer_same core v w =
    of_workers (taken_core core v) (does core (Offer v)) w (puts_workers (taken_core core v) (offer_step.next_copy core v))
    ∙ changed-by HoldsSame holds_same core.workers v w (λ worker. record worker { copies = drop 1 worker.copies }) idle (λ x at here. refl)

-- ---- one step: what was held and what is said is what is looked for and what is held then

record Goes (w : ℕ) (core : CoreState) (step : Step) : Type 0 where
  looked : looked_for w core step ++ option_to_list (held_at (does core step) w) ≡ option_to_list (held_at core w) ++ said w core step
  taken : packet_taken w core step ≡ said w core step

none_taken : (old new : Option HeldPacket) → (new ≡ old) ⊎ (new ≡ None) → cond (is_none old) (option_to_list new) [] ≡ []
none_taken None new (inl same) = ap option_to_list same
none_taken None new (inr none) = ap option_to_list none
none_taken (Some held) new h = refl

none_more : (old new : Option HeldPacket) → new ≡ old → [] ++ option_to_list new ≡ option_to_list old ++ []
none_more old new same = ap option_to_list same ∙ sym (append-nil (option_to_list old))

abbrev Silent : ℕ → CoreState → Step → Type 0
Silent w core step = (looked_for w core step ≡ []) × (said w core step ≡ [])

-- a step that says nothing and looks for nothing
goes_same : (w : ℕ) (core : CoreState) (step : Step) → Silent w core step → held_at (does core step) w ≡ held_at core w → Goes w core step
goes_same w core step silent same = record {
  looked = ap (λ (xs : List HeldPacket). xs ++ option_to_list (held_at (does core step) w)) silent.0
      ∙ none_more (held_at core w) (held_at (does core step) w) same
      ∙ sym (ap (λ (xs : List HeldPacket). option_to_list (held_at core w) ++ xs) silent.1);
  taken = none_taken (held_at core w) (held_at (does core step) w) (inl same) ∙ sym silent.1;
}

-- ---- a frame

-- of a worker that hears a packet, or none
record Hears (old new : Option HeldPacket) (more : List HeldPacket) : Type 0 where
  more_held : option_to_list new ≡ option_to_list old ++ more
  more_taken : cond (is_none old) (option_to_list new) [] ≡ more

hears_none : (old : Option HeldPacket) (b : Bool) → Hears old old (cond b [] [])
hears_none old true = record { more_held = sym (append-nil (option_to_list old)); more_taken = none_taken old old (inl refl) }
hears_none old false = record { more_held = sym (append-nil (option_to_list old)); more_taken = none_taken old old (inl refl) }

hears_other : (old new : Option HeldPacket) → new ≡ old → Hears old new []
hears_other old new same = record {
  more_held = ap option_to_list same ∙ sym (append-nil (option_to_list old));
  more_taken = none_taken old new (inl same);
}

hears_own : (old new : Option HeldPacket) (held : HeldPacket) → old ≡ None → new ≡ Some held → Hears old new (held ∷ [])
hears_own old new held none is = rw (none, is) (record { more_held = refl; more_taken = refl })

hears_some : (core : CoreState) (v w : ℕ) (held : HeldPacket) (b : Bool) → (v == w) ≡ b → held_at core v ≡ None → w < length core.workers
    → Hears (held_at core w) (held_at (frame_step.hears core v (Some held)) w) (cond b (held ∷ []) [])
hears_some core v w held false e none within =
    hears_other (held_at core w) (held_at (frame_step.hears core v (Some held)) w)
    (ap (λ (x : WorkerState). x.held) (changed_other core.workers v w (λ worker. record worker { held = Some held }) idle (λ same. eqb-false v w e (sym same))))
hears_some core v w held true e none within =
    let here : w ≡ v = sym (eqb-true v w e) in
    hears_own (held_at core w) (held_at (frame_step.hears core v (Some held)) w) held (ap (held_at core) here ∙ none)
    (ap (λ (u : ℕ). held_at (frame_step.hears core u (Some held)) w) (sym here)
    ∙ ap (λ (x : WorkerState). x.held) (changed_same core.workers w (λ worker. record worker { held = Some held }) idle within))

hears : (core : CoreState) (v w : ℕ) (packet : Option HeldPacket) → held_at core v ≡ None → w < length core.workers
    → Hears (held_at core w) (held_at (frame_step.hears core v packet) w) (cond (v == w) (option_to_list packet) [])
hears core v w None none within = hears_none (held_at core w) (v == w)
hears core v w (Some held) none within = hears_some core v w held (v == w) refl none within

frame_hears : (core : CoreState) (c w : ℕ) (bytes : List ℕ) → held_at core (connection_at core c).worker ≡ None → w < length core.workers
    → Hears (held_at core w) (held_at (does core (Frame c bytes)) w) (said w core (Frame c bytes))
frame_hears core c w bytes none within =
    let u : ℕ = (connection_at core c).worker in
    let heard : Option HeldPacket = heard_by (connection_at core c).seat (frame_action core c bytes) in
    let found : option_to_list heard ≡ packet_in (connection_at core c) bytes = frame_finds c (connection_at core c) bytes in
    let so = hears core u w heard none within in
    let after : held_at (does core (Frame c bytes)) w ≡ held_at (frame_step.hears core u heard) w =
    ap (λ (ws : List WorkerState). (slice_index_or ws w idle).held) (frame_workers core c (frame_version core c bytes) (frame_action core c bytes)) in
    let more : cond (u == w) (option_to_list heard) [] ≡ said w core (Frame c bytes) = ap (λ (xs : List HeldPacket). cond (u == w) xs []) found in
    record {
      more_held = ap option_to_list after ∙ so.more_held ∙ ap (λ (xs : List HeldPacket). option_to_list (held_at core w) ++ xs) more;
      more_taken = ap (λ (o : Option HeldPacket). cond (is_none (held_at core w)) (option_to_list o) []) after ∙ so.more_taken ∙ more;
    }

-- ---- a look

look_by : (w : ℕ) (core : CoreState) (v revision : ℕ) (b : Bool) → (v == w) ≡ b → v < length core.workers
    → (cond b (option_to_list (held_at core w)) [] ++ option_to_list (held_at (does core (Look v revision)) w) ≡ option_to_list (held_at core w) ++ [])
    × (packet_taken w core (Look v revision) ≡ [])
look_by w core v revision false e within =
    let change = λ (worker : WorkerState). record worker { seen = revision; held = None; copies = look_step.copies (state_at core revision) (worker_at core v).held } in
    let same : held_at (does core (Look v revision)) w ≡ held_at core w =
    ap (λ (x : WorkerState). x.held) (changed_other core.workers v w change idle (λ here. eqb-false v w e (sym here))) in
    (none_more (held_at core w) (held_at (does core (Look v revision)) w) same, none_taken (held_at core w) (held_at (does core (Look v revision)) w) (inl same))
look_by w core v revision true e within =
    let change = λ (worker : WorkerState). record worker { seen = revision; held = None; copies = look_step.copies (state_at core revision) (worker_at core v).held } in
    let own : held_at (does core (Look v revision)) v ≡ None = ap (λ (x : WorkerState). x.held) (changed_same core.workers v change idle within) in
    let none : held_at (does core (Look v revision)) w ≡ None = ap (held_at (does core (Look v revision))) (sym (eqb-true v w e)) ∙ own in
    (ap (λ (o : Option HeldPacket). option_to_list (held_at core w) ++ option_to_list o) none, none_taken (held_at core w) (held_at (does core (Look v revision)) w) (inr none))

goes : (w : ℕ) (core : CoreState) (step : Step) → illegal core step ≡ None → w < length core.workers → Goes w core step
goes w core (Open c v) legal within = goes_same w core (Open c v) (refl, refl) refl
goes w core (Frame c bytes) legal within =
    let heard = frame_hears core c w bytes (frame_hands core c bytes legal).0 within in
    record { looked = heard.more_held; taken = heard.more_taken }
goes w core (steps.Edit c) legal within = goes_same w core (steps.Edit c) (refl, refl) (of_workers core (does core (steps.Edit c)) w (decided_workers core c (edit_step.decision core c)))
goes w core Publish legal within = goes_same w core Publish (refl, refl) refl
goes w core (Tell c revision) legal within = goes_same w core (Tell c revision) (refl, refl) (notes_same (told_core core c) (connection_at core c).worker w revision)
goes w core (Look v revision) legal within =
    let looks = look_by w core v revision (v == w) refl (is_there core v _ legal) in
    record { looked = looks.0; taken = looks.1 }
goes w core (Offer v) legal within = goes_same w core (Offer v) (refl, refl) (offer_same core v w)
goes w core (Drain c) legal within = goes_same w core (Drain c) (refl, refl) (of_workers core (does core (Drain c)) w (drain_workers core (connection_at core c).seat))
goes w core Post legal within = goes_same w core Post (refl, refl) (of_workers core (does core Post) w (posted_workers core))
goes w core (Collect c) legal within = goes_same w core (Collect c) (refl, refl) (of_workers core (does core (Collect c)) w (collect_workers core (connection_at core c).seat))
goes w core (Close c cause) legal within = goes_same w core (Close c cause) (refl, refl) refl
goes w core End legal within = goes_same w core End (refl, refl) refl

-- ---- a run

pub still_there : (core : CoreState) (step : Step) (w : ℕ) → w < length core.workers → w < length (does core step).workers
still_there core step w within = let same = as_many core step in omega (arith, within, same)

looked_on : (w : ℕ) (core : CoreState) (run : List Step) → IsRun core run → w < length core.workers
    → gathered (looked_for w) core run ++ option_to_list (held_at (ran core run) w) ≡ option_to_list (held_at core w) ++ gathered (said w) core run
looked_on w core [] is within = sym (append-nil (option_to_list (held_at core w)))
looked_on w core (step ∷ run) is within =
    joins (looked_for w core step) (gathered (looked_for w) (does core step) run) (option_to_list (held_at (ran core (step ∷ run)) w)) (option_to_list (held_at core w))
    (option_to_list (held_at (does core step) w)) (said w core step) (gathered (said w) (does core step) run) (goes w core step is.0 within).looked
    (looked_on w (does core step) run is.1 (still_there core step w within))

taken_on : (w : ℕ) (core : CoreState) (run : List Step) → IsRun core run → w < length core.workers
    → gathered (packet_taken w) core run ≡ gathered (said w) core run
taken_on w core [] is within = refl
taken_on w core (step ∷ run) is within =
    ap (λ (xs : List HeldPacket). xs ++ gathered (packet_taken w) (does core step) run) (goes w core step is.0 within).taken
    ∙ ap (λ (xs : List HeldPacket). said w core step ++ xs) (taken_on w (does core step) run is.1 (still_there core step w within))

begins : (workers w : ℕ) → w < workers → w < length (replicate workers idle)
begins workers w within = let same = length-replicate workers idle in omega (arith, within, same)

pub packets_looked_for : (version : Version) (opening : StateValue) (workers w : ℕ) (run : List Step) → w < workers → IsRun (start version opening workers) run
    → gathered (looked_for w) (start version opening workers) run ++ option_to_list (worker_at (ran (start version opening workers) run) w).held
    ≡ gathered (said w) (start version opening workers) run
packets_looked_for version opening workers w run within is =
    looked_on w (start version opening workers) run is (begins workers w within)
    ∙ ap (λ (x : WorkerState). option_to_list x.held ++ gathered (said w) (start version opening workers) run) (idle_at workers w)

pub packets_taken : (version : Version) (opening : StateValue) (workers w : ℕ) (run : List Step) → w < workers → IsRun (start version opening workers) run
    → gathered (packet_taken w) (start version opening workers) run ≡ gathered (said w) (start version opening workers) run
packets_taken version opening workers w run within is = taken_on w (start version opening workers) run is (begins workers w within)
