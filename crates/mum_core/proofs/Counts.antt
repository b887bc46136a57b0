-- Each copy of a look is sent, or found its outbox full, or is left.
use Rattle.mum_core.proofs.Common.{◌≡◌, ℕ, zero, suc, ◌+◌, ◌-◌, ◌≤◌, ◌<◌, ◌^◌, min, Bool, true, false, cond, List, [], ◌∷◌, length, drop, get_or, Option, Some, None, refl, sym, ap, ◌∙◌, arith, not, is_none, is_some, nat_lt, sum_by, slice_get, slice_index_or, slice_set, replicate, if◌then◌else◌, option_map_or, ltb-false, ltb-true, length-map, sum_by-set, slice_get_within, get_or_from_slice_get, slice_get-get_or, Verdict, StateValue, packet, Seat, Outgoing, Action, Voice, Version, Step, Open, Frame, Publish, Tell, Look, Offer, Post, Drain, Collect, Close, End, is_untold, CoreState, start, connection_at, worker_at, state_at, is_opened, IsRun, ran, looked, changed_at, with_found, does, frame_action, frame_version, illegal, WorkerState, HeldPacket, idle, in_hand, spoken, Queues, does_from, with_stale, copy_queues, notice_queues, Notice}
use Rattle.mum_core.proofs.{Delivered.delivered, Changed.changed-by, RunLaws.decided_workers, RunLaws.drain_workers, RunLaws.first_of, RunLaws.none_stands, RunLaws.not_false, RunLaws.puts_workers, RunLaws.taken_core, RunLaws.told_core, RunLaws.posting_core, RunLaws.posted_workers, RunLaws.collect_workers}
use Rattle.mum_record.specs.declared.step.Step.TheVariants as steps
use Rattle.mum_core.specs.steps.Edit as edit_step
use Rattle.mum_core.specs.steps.Frame as frame_step
use Rattle.mum_core.specs.steps.Look as look_step
use Rattle.mum_core.specs.steps.Offer as offer_step
use Rattle.mum_core.specs.steps.Post as post_step
use Rattle.mum_core.specs.steps.Tell as tell_step

-- ---- a worker that holds a packet has no copies

abbrev pub IsClean : WorkerState → Type 0
IsClean x = is_some x.held ≡ true → x.copies ≡ []

abbrev pub AreClean : List WorkerState → Type 0
AreClean workers = (w : ℕ) → IsClean (slice_index_or workers w idle)

clean-at : (workers : List WorkerState) (i : ℕ) (change : WorkerState → WorkerState)
    → ((x : WorkerState) → slice_get workers i ≡ Some x → IsClean (change x)) → AreClean workers → AreClean (changed_at i change workers)
clean-at workers i change h clean w = changed-by (λ old new. IsClean old → IsClean new) (λ x was. was) workers i w change idle (λ x at here was. h x at) (clean w)

no_copies : (copies : List Outgoing) → length copies ≤ 0 → copies ≡ []
no_copies [] h = refl
no_copies (copy ∷ copies) h = absurd (omega arith)

idle_hands : (held : Option HeldPacket) (copies : List Outgoing) → (if is_some held then 1 else length copies) ≤ 0 → (held ≡ None) × (copies ≡ [])
idle_hands None copies h = (refl, no_copies copies h)
idle_hands (Some held) copies h = absurd (omega arith)

-- the worker of a frame that is allowed has nothing in hand
pub frame_hands : (core : CoreState) (c : ℕ) (bytes : List ℕ) → illegal core (Frame c bytes) ≡ None
    → ((worker_at core (connection_at core c).worker).held ≡ None) × ((worker_at core (connection_at core c).worker).copies ≡ [])
frame_hands core c bytes h =
    let worker : WorkerState = worker_at core (connection_at core c).worker in
    let first = none_stands (not (is_opened core c)) _ _ h in
    let second = none_stands (is_some (connection_at core c).closed) _ _ first.1 in
    let third = none_stands (is_untold (connection_at core c)) _ _ second.1 in
    let fourth = none_stands (nat_lt 0 (in_hand worker)) _ _ third.1 in
    idle_hands worker.held worker.copies (ltb-false 0 (in_hand worker) fourth.0)

clean_hears : (core : CoreState) (w : ℕ) (held : Option HeldPacket) → (worker_at core w).copies ≡ [] → AreClean core.workers → AreClean (frame_step.hears core w held).workers
clean_hears core w (Some held) none clean =
    clean-at core.workers w (λ worker. record worker { held = Some held })
    (λ x at yes. sym (ap (λ (y : WorkerState). y.copies) (get_or_from_slice_get core.workers w x idle at)) ∙ none) clean
clean_hears core w None none clean = clean

clean_frame : (core : CoreState) (c : ℕ) (version : Option ℕ) (a : Action) → (worker_at core (connection_at core c).worker).copies ≡ [] → AreClean core.workers → AreClean (frame_step.does core c version a).workers
clean_frame core c version (Voice payload) none clean = clean_hears core (connection_at core c).worker (spoken (connection_at core c).seat (packet payload)) none clean
clean_frame core c version others none clean = clean

clean_notes : (core : CoreState) (w : ℕ) (revision : Option ℕ) → AreClean core.workers → AreClean (tell_step.notes w revision core).workers
clean_notes core w None clean = clean
clean_notes core w (Some revision) clean =
    clean-at core.workers w _ (λ x at. let here : worker_at core w ≡ x = get_or_from_slice_get core.workers w x idle at in rw here at (clean w)) clean

clean_by : (old new : List WorkerState) → new ≡ old → AreClean old → AreClean new
clean_by old new same clean w = rw same (clean w)

pub clean_step : (core : CoreState) (step : Step) → illegal core step ≡ None → AreClean core.workers → AreClean (does core step).workers
clean_step core (Open c w) h clean = clean
clean_step core (Frame c bytes) h clean = clean_frame core c (frame_version core c bytes) (frame_action core c bytes) (frame_hands core c bytes h).1 clean
clean_step core (steps.Edit c) h clean = clean_by core.workers (does core (steps.Edit c)).workers (decided_workers core c (edit_step.decision core c)) clean
clean_step core Publish h clean = clean
clean_step core (Tell c revision) h clean = clean_notes (told_core core c) (connection_at core c).worker revision clean
clean_step core (Look w revision) h clean = clean-at core.workers w (λ worker. record worker { seen = revision; held = None; copies = look_step.copies (state_at core revision) (worker_at core w).held }) (λ x at yes. cc) clean
clean_step core (Offer w) h clean =
    clean_by (taken_core core w).workers (does core (Offer w)).workers (puts_workers (taken_core core w) (offer_step.next_copy core w))
    (clean-at core.workers w (λ worker. record worker { copies = drop 1 worker.copies })
    (λ x at yes.
    let here : worker_at core w ≡ x = get_or_from_slice_get core.workers w x idle at in
    let none : IsClean x = rw here at (clean w) in
    ap (drop 1) (none yes)) clean)
clean_step core (Drain c) h clean = clean_by core.workers (does core (Drain c)).workers (drain_workers core (connection_at core c).seat) clean
clean_step core Post h clean = clean_by core.workers (does core Post).workers (posted_workers core) clean
clean_step core (Collect c) h clean = clean_by core.workers (does core (Collect c)).workers (collect_workers core (connection_at core c).seat) clean
clean_step core (Close c cause) h clean = clean
clean_step core End h clean = clean

pub clean_start : (workers : ℕ) → AreClean (replicate workers idle)
clean_start zero w holds = refl
clean_start (suc n) zero holds = refl
clean_start (suc n) (suc w) holds = clean_start n w holds

-- ---- the sum

abbrev left : CoreState → ℕ
left core = sum_by (λ worker. length worker.copies) core.workers

left-found : (workers : List WorkerState) (i : ℕ) (change : WorkerState → WorkerState) (x : WorkerState) → slice_get workers i ≡ Some x
    → sum_by (λ worker. length worker.copies) (changed_at i change workers) + length x.copies ≡ sum_by (λ worker. length worker.copies) workers + length (change x).copies
left-found workers i change x e =
    let here : get_or workers i x ≡ x = get_or_from_slice_get workers i x x e in
    let sums = sum_by-set (λ (worker : WorkerState). length worker.copies) workers i (change x) x (slice_get_within workers i x e) in
    rw e (rw here at sums)

left-same : (workers : List WorkerState) (i : ℕ) (change : WorkerState → WorkerState) → ((x : WorkerState) → length (change x).copies ≡ length x.copies)
    → sum_by (λ worker. length worker.copies) (changed_at i change workers) ≡ sum_by (λ worker. length worker.copies) workers
left-same workers i change same = from (slice_get workers i) refl
  where
    from : (o : Option WorkerState) → slice_get workers i ≡ o → sum_by (λ worker. length worker.copies) (with_found workers i change o) ≡ sum_by (λ worker. length worker.copies) workers
    from None e = refl
    from (Some x) e =
        let here : get_or workers i x ≡ x = get_or_from_slice_get workers i x x e in
        let sums = sum_by-set (λ (worker : WorkerState). length worker.copies) workers i (change x) x (slice_get_within workers i x e) in
        let sum : sum_by (λ worker. length worker.copies) (slice_set workers i (change x)) + length x.copies ≡ sum_by (λ worker. length worker.copies) workers + length (change x).copies = rw here at sums in
        let as_long = same x in
        omega arith

-- the counts of copies, sent and full, and the copies left are as before
abbrev Same : CoreState → CoreState → Type 0
Same old new = (new.totals.copies ≡ old.totals.copies) × (new.totals.full ≡ old.totals.full) × (left new ≡ left old)

hears_same : (core : CoreState) (w : ℕ) (held : Option HeldPacket) → Same core (frame_step.hears core w held)
hears_same core w (Some held) = (refl, refl, left-same core.workers w (λ worker. record worker { held = Some held }) (λ x. refl))
hears_same core w None = (refl, refl, refl)

frame_same : (core : CoreState) (c : ℕ) (version : Option ℕ) (a : Action) → Same core (frame_step.does core c version a)
frame_same core c version (Voice payload) = hears_same core (connection_at core c).worker (spoken (connection_at core c).seat (packet payload))
frame_same core c version others = (refl, refl, refl)

decided_same : (core : CoreState) (c : ℕ) (verdict : Option Verdict) → Same core (option_map_or (edit_step.decides core c) verdict core)
decided_same core c None = (refl, refl, refl)
decided_same core c (Some verdict) = (refl, refl, refl)

notes_same : (core : CoreState) (w : ℕ) (revision : Option ℕ) → Same core (tell_step.notes w revision core)
notes_same core w None = (refl, refl, refl)
notes_same core w (Some revision) = (refl, refl, left-same core.workers w _ (λ x. refl))

cond_same : (b : Bool) (core x y : CoreState) → Same core x → Same core y → Same core (cond b x y)
cond_same true core x y hx hy = hx
cond_same false core x y hx hy = hy

post_same : (core : CoreState) (next : Option Notice) → Same core (post_step.puts core next)
post_same core None = (refl, refl, refl)
post_same core (Some next) = cond_same (post_step.has_room core next.slot.0) core _ _ (refl, refl, refl) (refl, refl, refl)

delivery_same : (queues : Queues) (core : CoreState) (seat : Option Seat) → ((slot : ℕ) → Same core (queues.without slot core))
    → ((slot : ℕ) → Same core (with_stale (queues.without slot core))) → Same core (does_from queues core seat)
delivery_same queues core seat own stale = delivered (Same core) queues core seat (refl, refl, refl) own stale

-- an offer counts its copy once, where no count is at its end
abbrev CountsOne : CoreState → CoreState → Type 0
CountsOne old new = (new.totals.copies + new.totals.full ≡ old.totals.copies + old.totals.full + 1) × (left new ≡ left old)

cond_one : (b : Bool) (core x y : CoreState) → CountsOne core x → CountsOne core y → CountsOne core (cond b x y)
cond_one true core x y hx hy = hx
cond_one false core x y hx hy = hy

puts_one : (core : CoreState) (next : Outgoing) → core.totals.copies + core.totals.full < 2 ^ 64 - 1 → CountsOne core (offer_step.puts core (Some next))
puts_one core next room =
    let sent : min (core.totals.copies + 1) (2 ^ 64 - 1) + core.totals.full ≡ core.totals.copies + core.totals.full + 1 = omega arith in
    let full : core.totals.copies + min (core.totals.full + 1) (2 ^ 64 - 1) ≡ core.totals.copies + core.totals.full + 1 = omega arith in
    cond_one (offer_step.has_room core next.slot.0) core _ _ (sent, refl) (full, refl)

abbrev total : CoreState → ℕ
total core = core.totals.copies + core.totals.full + left core

abbrev found : CoreState → Step → ℕ
found core (Look w revision) = length (look_step.audience (state_at core revision) (worker_at core w).held)
found core others = 0

pub looked-cons : (core : CoreState) (step : Step) (run : List Step) → looked core (step ∷ run) ≡ found core step + looked (does core step) run
looked-cons core (Open c w) run = omega arith
looked-cons core (Frame c bytes) run = omega arith
looked-cons core (steps.Edit c) run = omega arith
looked-cons core Publish run = omega arith
looked-cons core (Tell c revision) run = omega arith
looked-cons core (Look w revision) run = refl
looked-cons core (Offer w) run = omega arith
looked-cons core (Drain c) run = omega arith
looked-cons core Post run = omega arith
looked-cons core (Collect c) run = omega arith
looked-cons core (Close c cause) run = omega arith
looked-cons core End run = omega arith

length-copies : (state : StateValue) (held : Option HeldPacket) → length (look_step.copies state held) ≡ length (look_step.audience state held)
length-copies state None = refl
length-copies state (Some held) = length-map (look_step.audience state (Some held)) (look_step.outgoing held)

-- what a step adds: at most one to the counts, and to the total what its look finds
pub record Adds (old new : CoreState) (more : ℕ) : Type 0 where
  pub counted : new.totals.copies + new.totals.full ≤ old.totals.copies + old.totals.full + 1
  pub total_is : total new ≡ total old + more

adds_none : (old new : CoreState) → Same old new → Adds old new 0
adds_none old new same = record { counted = omega (arith, same.0, same.1); total_is = omega (arith, same.0, same.1, same.2) }

pub there_is : (core : CoreState) (w : ℕ) (cases : Option (ℕ × ℕ)) → (if not (nat_lt w (length core.workers)) then Some (w, length core.workers) else cases) ≡ None → slice_get core.workers w ≡ Some (worker_at core w)
there_is core w cases h =
    let first = none_stands (not (nat_lt w (length core.workers))) _ _ h in
    slice_get-get_or core.workers w idle (ltb-true w (length core.workers) (not_false (nat_lt w (length core.workers)) first.0))

pub held_there : (held : Option HeldPacket) → is_none held ≡ false → is_some held ≡ true
held_there None h = cc
held_there (Some x) h = refl

adds : (core : CoreState) (step : Step) → illegal core step ≡ None → AreClean core.workers → core.totals.copies + core.totals.full < 2 ^ 64 - 1 → Adds core (does core step) (found core step)
adds core (Open c w) h clean room = adds_none core (does core (Open c w)) (refl, refl, refl)
adds core (Frame c bytes) h clean room = adds_none core (does core (Frame c bytes)) (frame_same core c (frame_version core c bytes) (frame_action core c bytes))
adds core (steps.Edit c) h clean room = adds_none core (does core (steps.Edit c)) (decided_same core c (edit_step.decision core c))
adds core Publish h clean room = adds_none core (does core Publish) (refl, refl, refl)
adds core (Tell c revision) h clean room = adds_none core (does core (Tell c revision)) (notes_same (told_core core c) (connection_at core c).worker revision)
adds core (Look w revision) h clean room =
    let at = there_is core w _ h in
    let first = none_stands (not (nat_lt w (length core.workers))) _ _ h in
    let second = none_stands (is_none (worker_at core w).held) _ _ first.1 in
    let none : (worker_at core w).copies ≡ [] = clean w (held_there (worker_at core w).held second.0) in
    let change = λ (worker : WorkerState). record worker { seen = revision; held = None; copies = look_step.copies (state_at core revision) (worker_at core w).held } in
    let sum = left-found core.workers w change (worker_at core w) at in
    let before : length (worker_at core w).copies ≡ 0 = ap length none in
    let after = length-copies (state_at core revision) (worker_at core w).held in
    record { counted = omega arith; total_is = omega (arith, sum, before, after) }
adds core (Offer w) h clean room =
    let at = there_is core w _ h in
    let first = none_stands (not (nat_lt w (length core.workers))) _ _ h in
    let second = none_stands (is_none (offer_step.next_copy core w)) _ _ first.1 in
    let some = first_of (worker_at core w).copies second.0 in
    let next : offer_step.next_copy core w ≡ Some some.0 = ap (λ (xs : List Outgoing). slice_get xs 0) some.1 in
    let one = puts_one (taken_core core w) some.0 room in
    let change = λ (worker : WorkerState). record worker { copies = drop 1 worker.copies } in
    let sum = left-found core.workers w change (worker_at core w) at in
    let longer : length (worker_at core w).copies ≡ suc (length (drop 1 (worker_at core w).copies)) = ap length some.1 in
    rw next (record { counted = omega (arith, one.0); total_is = omega (arith, one.0, one.1, sum, longer) })
adds core (Drain c) h clean room = adds_none core (does core (Drain c)) (delivery_same copy_queues core (connection_at core c).seat (λ slot. (refl, refl, refl)) (λ slot. (refl, refl, refl)))
adds core Post h clean room = adds_none core (does core Post) (post_same (posting_core core) (post_step.next_notice core))
adds core (Collect c) h clean room = adds_none core (does core (Collect c)) (delivery_same notice_queues core (connection_at core c).seat (λ slot. (refl, refl, refl)) (λ slot. (refl, refl, refl)))
adds core (Close c cause) h clean room = adds_none core (does core (Close c cause)) (refl, refl, refl)
adds core End h clean room = adds_none core (does core End) (refl, refl, refl)

counted_from : (core : CoreState) (run : List Step) → IsRun core run → AreClean core.workers → core.totals.copies + core.totals.full + length run < 2 ^ 64 - 1
    → total (ran core run) ≡ total core + looked core run
counted_from core [] is clean room = omega arith
counted_from core (step ∷ run) is clean room =
    let more = adds core step is.0 clean (omega arith) in
    let count = more.counted in
    let first = more.total_is in
    let later = counted_from (does core step) run is.1 (clean_step core step is.0 clean) (omega (arith, count)) in
    let whole = looked-cons core step run in
    omega (arith, first, later, whole)

left_start : (workers : ℕ) → sum_by (λ worker. length worker.copies) (replicate workers idle) ≡ 0
left_start zero = refl
left_start (suc n) = left_start n

pub copies_are_counted : (version : Version) (opening : StateValue) (workers : ℕ) (run : List Step) → IsRun (start version opening workers) run → length run < 2 ^ 64 - 1
    → (ran (start version opening workers) run).totals.copies + (ran (start version opening workers) run).totals.full + left (ran (start version opening workers) run) ≡ looked (start version opening workers) run
copies_are_counted version opening workers run is room =
    let begun = left_start workers in
    let all = counted_from (start version opening workers) run is (clean_start workers) (omega (arith, room)) in
    omega (arith, begun, all)
