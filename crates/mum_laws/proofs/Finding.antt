-- What a worker offers is what its looks found.
use Rattle.mum_laws.proofs.Common.{◌≡◌, ℕ, zero, suc, ◌<◌, max, Bool, true, false, cond, List, [], ◌∷◌, ◌++◌, length, take, drop, Option, Some, None, refl, sym, ap, ◌∙◌, append_assoc, ◌==◌, is_none, nat_lt, not, replicate, slice_index_or, eqb-false, eqb-true, ltb-true, append-nil, packet, StateValue, Action, Voice, Version, Step, Open, Frame, Publish, Tell, Look, Offer, Post, Drain, Collect, Close, End, Outgoing, CoreState, connection_at, start, state_at, worker_at, IsRun, gathered, ran, does, frame_action, frame_version, illegal, HeldPacket, WorkerState, idle, spoken, changed-by, changed_other, changed_same, AreClean, clean_start, clean_step, held_there, collect_workers, decided_workers, drain_workers, none_stands, not_false, posted_workers, puts_workers, taken_core, told_core, found, offered}
use Rattle.mum_record.specs.declared.step.Step.TheVariants as steps
use Rattle.mum_core.specs.steps.Edit as edit_step
use Rattle.mum_core.specs.steps.Frame as frame_step
use Rattle.mum_core.specs.steps.Look as look_step
use Rattle.mum_core.specs.steps.Offer as offer_step
use Rattle.mum_core.specs.steps.Tell as tell_step

-- ---- the copies that a worker has, by step

abbrev copies_at : CoreState → ℕ → List Outgoing
copies_at core w = (worker_at core w).copies

abbrev HasSame : WorkerState → WorkerState → Type 0
HasSame old new = new.copies ≡ old.copies

has_same : (x : WorkerState) → HasSame x x
has_same x = refl

hears_same : (core : CoreState) (v w : ℕ) (held : Option HeldPacket) → copies_at (frame_step.hears core v held) w ≡ copies_at core w
hears_same core v w (Some held) = changed-by HasSame has_same core.workers v w (λ worker. record worker { held = Some held }) idle (λ x at here. refl)
hears_same core v w None = refl

frame_same : (core : CoreState) (c w : ℕ) (version : Option ℕ) (a : Action) → copies_at (frame_step.does core c version a) w ≡ copies_at core w
frame_same core c w version (Voice payload) = hears_same core (connection_at core c).worker w (spoken (connection_at core c).seat (packet payload))
frame_same core c w version others = refl

notes_same : (core : CoreState) (v w : ℕ) (revision : Option ℕ) → copies_at (tell_step.notes v revision core) w ≡ copies_at core w
notes_same core v w None = refl
notes_same core v w (Some revision) = changed-by HasSame has_same core.workers v w (λ worker. record worker { told = max worker.told revision }) idle (λ x at here. refl)

of_workers : (core new : CoreState) (w : ℕ) → new.workers ≡ core.workers → copies_at new w ≡ copies_at core w
of_workers core new w same = ap (λ (ws : List WorkerState). (slice_index_or ws w idle).copies) same

-- what is offered now, and then what is left, is what was there and is found now
abbrev Goes : ℕ → CoreState → Step → Type 0
Goes w core step = offered w core step ++ copies_at (does core step) w ≡ copies_at core w ++ found w core step

goes_same : (core new : CoreState) (w : ℕ) → copies_at new w ≡ copies_at core w → [] ++ copies_at new w ≡ copies_at core w ++ []
goes_same core new w same = same ∙ sym (append-nil (copies_at core w))

look_other : (core : CoreState) (v w revision : ℕ) → (w ≡ v → ⊥) → copies_at (does core (Look v revision)) w ≡ copies_at core w
look_other core v w revision other =
    ap (λ (x : WorkerState). x.copies)
    (changed_other core.workers v w (λ worker. record worker { seen = revision; held = None; copies = look_step.copies (state_at core revision) (worker_at core v).held }) idle other)

look_own : (core : CoreState) (w revision : ℕ) → w < length core.workers → copies_at (does core (Look w revision)) w ≡ look_step.copies (state_at core revision) (worker_at core w).held
look_own core w revision within =
    ap (λ (x : WorkerState). x.copies)
    (changed_same core.workers w (λ worker. record worker { seen = revision; held = None; copies = look_step.copies (state_at core revision) (worker_at core w).held }) idle within)

looks_by : (w : ℕ) (core : CoreState) (v revision : ℕ) (b : Bool) → (v == w) ≡ b → v < length core.workers → copies_at core v ≡ []
    → [] ++ copies_at (does core (Look v revision)) w ≡ copies_at core w ++ cond b (look_step.copies (state_at core revision) (worker_at core w).held) []
looks_by w core v revision false e within none =
    goes_same core (does core (Look v revision)) w (look_other core v w revision (λ same. eqb-false v w e (sym same)))
looks_by w core v revision true e within none =
    let here : v ≡ w = eqb-true v w e in
    rw (← here)
    (look_own core v revision within
    ∙ sym (ap (λ (xs : List Outgoing). xs ++ look_step.copies (state_at core revision) (worker_at core v).held) none))

offer_own : (core : CoreState) (w : ℕ) → w < length core.workers → copies_at (does core (Offer w)) w ≡ drop 1 (copies_at core w)
offer_own core w within =
    of_workers (taken_core core w) (does core (Offer w)) w (puts_workers (taken_core core w) (offer_step.next_copy core w))
    ∙ ap (λ (x : WorkerState). x.copies) (changed_same core.workers w (λ worker. record worker { copies = drop 1 worker.copies }) idle within)

offer_other : (core : CoreState) (v w : ℕ) → (w ≡ v → ⊥) → copies_at (does core (Offer v)) w ≡ copies_at core w
offer_other core v w other =
    of_workers (taken_core core v) (does core (Offer v)) w (puts_workers (taken_core core v) (offer_step.next_copy core v))
    ∙ ap (λ (x : WorkerState). x.copies) (changed_other core.workers v w (λ worker. record worker { copies = drop 1 worker.copies }) idle other)

first_and_rest : (xs : List Outgoing) → take 1 xs ++ drop 1 xs ≡ xs
first_and_rest [] = refl
first_and_rest (x ∷ xs) = refl

offers_by : (w : ℕ) (core : CoreState) (v : ℕ) (b : Bool) → (v == w) ≡ b → v < length core.workers
    → cond b (take 1 (copies_at core w)) [] ++ copies_at (does core (Offer v)) w ≡ copies_at core w ++ []
offers_by w core v false e within = goes_same core (does core (Offer v)) w (offer_other core v w (λ same. eqb-false v w e (sym same)))
offers_by w core v true e within =
    let here : v ≡ w = eqb-true v w e in
    rw (← here)
    (ap (λ (xs : List Outgoing). take 1 (copies_at core v) ++ xs) (offer_own core v within) ∙ first_and_rest (copies_at core v) ∙ sym (append-nil (copies_at core v)))

-- a worker that an allowed look or offer names is there
pub is_there : (core : CoreState) (w : ℕ) (cases : Option (ℕ × ℕ)) → cond (not (nat_lt w (length core.workers))) (Some (w, length core.workers)) cases ≡ None → w < length core.workers
is_there core w cases h =
    let first = none_stands (not (nat_lt w (length core.workers))) _ _ h in
    ltb-true w (length core.workers) (not_false (nat_lt w (length core.workers)) first.0)

looks_go : (w : ℕ) (core : CoreState) (v revision : ℕ) → illegal core (Look v revision) ≡ None → AreClean core.workers → Goes w core (Look v revision)
looks_go w core v revision legal clean =
    let first = none_stands (not (nat_lt v (length core.workers))) _ _ legal in
    let second = none_stands (is_none (worker_at core v).held) _ _ first.1 in
    looks_by w core v revision (v == w) refl (is_there core v _ legal) (clean v (held_there (worker_at core v).held second.0))

goes : (w : ℕ) (core : CoreState) (step : Step) → illegal core step ≡ None → AreClean core.workers → Goes w core step
goes w core (Open c v) legal clean = goes_same core (does core (Open c v)) w refl
goes w core (Frame c bytes) legal clean = goes_same core (does core (Frame c bytes)) w (frame_same core c w (frame_version core c bytes) (frame_action core c bytes))
goes w core (steps.Edit c) legal clean = goes_same core (does core (steps.Edit c)) w (of_workers core (does core (steps.Edit c)) w (decided_workers core c (edit_step.decision core c)))
goes w core Publish legal clean = goes_same core (does core Publish) w refl
goes w core (Tell c revision) legal clean = goes_same core (does core (Tell c revision)) w (notes_same (told_core core c) (connection_at core c).worker w revision)
goes w core (Look v revision) legal clean = looks_go w core v revision legal clean
goes w core (Offer v) legal clean = offers_by w core v (v == w) refl (is_there core v _ legal)
goes w core (Drain c) legal clean = goes_same core (does core (Drain c)) w (of_workers core (does core (Drain c)) w (drain_workers core (connection_at core c).seat))
goes w core Post legal clean = goes_same core (does core Post) w (of_workers core (does core Post) w (posted_workers core))
goes w core (Collect c) legal clean = goes_same core (does core (Collect c)) w (of_workers core (does core (Collect c)) w (collect_workers core (connection_at core c).seat))
goes w core (Close c cause) legal clean = goes_same core (does core (Close c cause)) w refl
goes w core End legal clean = goes_same core (does core End) w refl

-- ---- a run

-- what goes step by step goes over both
pub joins : {A : Type 0} (now later last before mid found more : List A) → now ++ mid ≡ before ++ found → later ++ last ≡ mid ++ more
    → (now ++ later) ++ last ≡ before ++ (found ++ more)
joins {A = A} now later last before mid found more first second =
    append_assoc now later last ∙ ap (λ (xs : List A). now ++ xs) second ∙ sym (append_assoc now mid more)
    ∙ ap (λ (xs : List A). xs ++ more) first ∙ append_assoc before found more

goes_on : (w : ℕ) (core : CoreState) (run : List Step) → IsRun core run → AreClean core.workers
    → gathered (offered w) core run ++ copies_at (ran core run) w ≡ copies_at core w ++ gathered (found w) core run
goes_on w core [] is clean = sym (append-nil (copies_at core w))
goes_on w core (step ∷ run) is clean =
    joins (offered w core step) (gathered (offered w) (does core step) run) (copies_at (ran core (step ∷ run)) w) (copies_at core w) (copies_at (does core step) w)
    (found w core step) (gathered (found w) (does core step) run) (goes w core step is.0 clean) (goes_on w (does core step) run is.1 (clean_step core step is.0 clean))

pub idle_at : (n w : ℕ) → slice_index_or (replicate n idle) w idle ≡ idle
idle_at zero w = refl
idle_at (suc n) zero = refl
idle_at (suc n) (suc w) = idle_at n w

pub found_is_offered : (version : Version) (opening : StateValue) (workers w : ℕ) (run : List Step) → IsRun (start version opening workers) run
    → gathered (offered w) (start version opening workers) run ++ (worker_at (ran (start version opening workers) run) w).copies ≡ gathered (found w) (start version opening workers) run
found_is_offered version opening workers w run is =
    goes_on w (start version opening workers) run is (clean_start workers)
    ∙ ap (λ (x : WorkerState). x.copies ++ gathered (found w) (start version opening workers) run) (idle_at workers w)
