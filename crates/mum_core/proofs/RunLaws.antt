-- The laws over runs, step by step.
use Rattle.mum_core.proofs.Common.{◌≡◌, ℕ, ◌≤◌, ◌<◌, max, Bool, true, false, cond, List, [], ◌∷◌, ◌++◌, length, drop, Option, Some, None, refl, sym, ap, ◌∙◌, arith, append_assoc, length-append, not, is_none, nat_lt, slice_get, slice_index_or, option_map_or, ltb-false, ltb-true, append-nil, get_or_from_slice_get, Edit, Verdict, StateValue, packet, Seat, Outgoing, Action, Voice, Version, Step, Open, Frame, Publish, Tell, Look, Offer, Post, Drain, Collect, Close, End, Notice, CoreState, start, connection_at, worker_at, at_outbox, at_connection, at_worker, up, told, IsRun, ran, changed_at, edits_of, does, frame_action, frame_version, illegal, WorkerState, idle, least_look, HeldPacket, spoken, Queues, does_from, copy_queues, notice_queues}
use Rattle.mum_core.proofs.{Delivered.delivered, Changed.changed-by, Changed.changed_same}
use Rattle.mum_record.specs.declared.step.Step.TheVariants as steps
use Rattle.mum_core.specs.steps.Edit as edit_step
use Rattle.mum_core.specs.steps.Frame as frame_step
use Rattle.mum_core.specs.steps.Offer as offer_step
use Rattle.mum_core.specs.steps.Tell as tell_step
use Rattle.mum_core.specs.steps.Post as post_step

abbrev pub Grown : CoreState → CoreState → Type 0
Grown old new = (more : List Edit) × (new.accepted ≡ old.accepted ++ more)

stayed : (old new : CoreState) → new.accepted ≡ old.accepted → Grown old new
stayed old new same = ([], same ∙ sym (append-nil old.accepted))

-- ---- what the accepted edits, the published count and the opening become

abbrev pub Keeps : CoreState → CoreState → Type 0
Keeps old new = (new.accepted ≡ old.accepted) × (new.published ≡ old.published) × (new.opening ≡ old.opening)

hears_keeps : (core : CoreState) (w : ℕ) (held : Option HeldPacket) → Keeps core (frame_step.hears core w held)
hears_keeps core w (Some held) = (refl, refl, refl)
hears_keeps core w None = (refl, refl, refl)

pub frame_keeps : (core : CoreState) (c : ℕ) (version : Option ℕ) (a : Action) → Keeps core (frame_step.does core c version a)
frame_keeps core c version (Voice payload) = hears_keeps core (connection_at core c).worker (spoken (connection_at core c).seat (packet payload))
frame_keeps core c version others = (refl, refl, refl)

pub notes_keep : (core : CoreState) (w : ℕ) (revision : Option ℕ) → Keeps core (tell_step.notes w revision core)
notes_keep core w None = (refl, refl, refl)
notes_keep core w (Some revision) = (refl, refl, refl)

cond_keeps : (b : Bool) (core x y : CoreState) → Keeps core x → Keeps core y → Keeps core (cond b x y)
cond_keeps true core x y hx hy = hx
cond_keeps false core x y hx hy = hy

pub puts_keep : (core : CoreState) (next : Option Outgoing) → Keeps core (offer_step.puts core next)
puts_keep core None = (refl, refl, refl)
puts_keep core (Some next) = cond_keeps (offer_step.has_room core next.slot.0) core _ _ (refl, refl, refl) (refl, refl, refl)

pub drain_keeps : (core : CoreState) (seat : Option Seat) → Keeps core (does_from copy_queues core seat)
drain_keeps core seat = delivered (Keeps core) copy_queues core seat (refl, refl, refl) (λ slot. (refl, refl, refl)) (λ slot. (refl, refl, refl))

post_keeps : (core : CoreState) (next : Option Notice) → Keeps core (post_step.puts core next)
post_keeps core None = (refl, refl, refl)
post_keeps core (Some next) = cond_keeps (post_step.has_room core next.slot.0) core _ _ (refl, refl, refl) (refl, refl, refl)

pub collect_keeps : (core : CoreState) (seat : Option Seat) → Keeps core (does_from notice_queues core seat)
collect_keeps core seat = delivered (Keeps core) notice_queues core seat (refl, refl, refl) (λ slot. (refl, refl, refl)) (λ slot. (refl, refl, refl))

-- the core of a post before its slot's posts
abbrev pub posting_core : CoreState → CoreState
posting_core core = record core { pending = drop 1 core.pending; posted = up core.posted }

pub posted_keeps : (core : CoreState) → Keeps core (does core Post)
posted_keeps core = post_keeps (posting_core core) (post_step.next_notice core)

-- the core of a `Tell` before its note, and that of an offer before its outbox
abbrev pub told_core : CoreState → ℕ → CoreState
told_core core c = at_connection c told core

abbrev pub taken_core : CoreState → ℕ → CoreState
taken_core core w = at_worker w (λ worker. record worker { copies = drop 1 worker.copies }) core

decided_grown : (core : CoreState) (c : ℕ) (verdict : Option Verdict) → Grown core (option_map_or (edit_step.decides core c) verdict core)
decided_grown core c None = stayed core core refl
decided_grown core c (Some verdict) = (edits_of verdict, refl)

pub grown : (core : CoreState) (step : Step) → Grown core (does core step)
grown core (Open c w) = stayed core (does core (Open c w)) refl
grown core (Frame c bytes) = stayed core (does core (Frame c bytes)) (frame_keeps core c (frame_version core c bytes) (frame_action core c bytes)).0
grown core (steps.Edit c) = decided_grown core c (edit_step.decision core c)
grown core Publish = stayed core (does core Publish) refl
grown core (Tell c revision) = stayed core (does core (Tell c revision)) (notes_keep (told_core core c) (connection_at core c).worker revision).0
grown core (Look w revision) = stayed core (does core (Look w revision)) refl
grown core (Offer w) = stayed core (does core (Offer w)) (puts_keep (taken_core core w) (offer_step.next_copy core w)).0
grown core (Drain c) = stayed core (does core (Drain c)) (drain_keeps core (connection_at core c).seat).0
grown core Post = stayed core (does core Post) (posted_keeps core).0
grown core (Collect c) = stayed core (does core (Collect c)) (collect_keeps core (connection_at core c).seat).0
grown core (Close c cause) = stayed core (does core (Close c cause)) refl
grown core End = stayed core (does core End) refl

pub accepted_grows : (core : CoreState) (run : List Step) → Grown core (ran core run)
accepted_grows core [] = stayed core core refl
accepted_grows core (step ∷ run) =
    let first = grown core step in
    let later = accepted_grows (does core step) run in
    (first.0 ++ later.0, later.1 ∙ ap (λ (xs : List Edit). xs ++ later.0) first.1 ∙ append_assoc core.accepted first.0 later.0)

-- the opening stays
decided_opening : (core : CoreState) (c : ℕ) (verdict : Option Verdict) → (option_map_or (edit_step.decides core c) verdict core).opening ≡ core.opening
decided_opening core c None = refl
decided_opening core c (Some verdict) = refl

pub same_opening : (core : CoreState) (step : Step) → (does core step).opening ≡ core.opening
same_opening core (Open c w) = refl
same_opening core (Frame c bytes) = (frame_keeps core c (frame_version core c bytes) (frame_action core c bytes)).2
same_opening core (steps.Edit c) = decided_opening core c (edit_step.decision core c)
same_opening core Publish = refl
same_opening core (Tell c revision) = (notes_keep (told_core core c) (connection_at core c).worker revision).2
same_opening core (Look w revision) = refl
same_opening core (Offer w) = (puts_keep (taken_core core w) (offer_step.next_copy core w)).2
same_opening core (Drain c) = (drain_keeps core (connection_at core c).seat).2
same_opening core Post = (posted_keeps core).2
same_opening core (Collect c) = (collect_keeps core (connection_at core c).seat).2
same_opening core (Close c cause) = refl
same_opening core End = refl

pub opening_stays : (core : CoreState) (run : List Step) → (ran core run).opening ≡ core.opening
opening_stays core [] = refl
opening_stays core (step ∷ run) = opening_stays (does core step) run ∙ same_opening core step

abbrev pub IsWithin : CoreState → Type 0
IsWithin core = core.published ≤ length core.accepted

within_by : (old new : CoreState) → Keeps old new → IsWithin old → IsWithin new
within_by old new keeps h = rw (keeps.0, keeps.1) h

decided_within : (core : CoreState) (c : ℕ) (verdict : Option Verdict) → IsWithin core → IsWithin (option_map_or (edit_step.decides core c) verdict core)
decided_within core c None h = h
decided_within core c (Some verdict) h = simp length-append (omega arith)

pub within : (core : CoreState) (step : Step) → IsWithin core → IsWithin (does core step)
within core (Open c w) h = h
within core (Frame c bytes) h = within_by core (does core (Frame c bytes)) (frame_keeps core c (frame_version core c bytes) (frame_action core c bytes)) h
within core (steps.Edit c) h = decided_within core c (edit_step.decision core c) h
within core Publish h = omega arith
within core (Tell c revision) h = within_by core (does core (Tell c revision)) (notes_keep (told_core core c) (connection_at core c).worker revision) h
within core (Look w revision) h = h
within core (Offer w) h = within_by core (does core (Offer w)) (puts_keep (taken_core core w) (offer_step.next_copy core w)) h
within core (Drain c) h = within_by core (does core (Drain c)) (drain_keeps core (connection_at core c).seat) h
within core Post h = within_by core (does core Post) (posted_keeps core) h
within core (Collect c) h = within_by core (does core (Collect c)) (collect_keeps core (connection_at core c).seat) h
within core (Close c cause) h = h
within core End h = h

pub within_all : (core : CoreState) (run : List Step) → IsWithin core → IsWithin (ran core run)
within_all core [] h = h
within_all core (step ∷ run) h = within_all (does core step) run (within core step h)

pub published_is_accepted : (version : Version) (opening : StateValue) (workers : ℕ) (run : List Step) → IsWithin (ran (start version opening workers) run)
published_is_accepted version opening workers run = within_all (start version opening workers) run (omega arith)

-- what is published never falls
decided_published : (core : CoreState) (c : ℕ) (verdict : Option Verdict) → (option_map_or (edit_step.decides core c) verdict core).published ≡ core.published
decided_published core c None = refl
decided_published core c (Some verdict) = refl

kept_up : (old new : CoreState) → new.published ≡ old.published → old.published ≤ new.published
kept_up old new same = omega (arith, same)

published_rises : (core : CoreState) (step : Step) → IsWithin core → core.published ≤ (does core step).published
published_rises core (Open c w) h = omega arith
published_rises core (Frame c bytes) h = kept_up core (does core (Frame c bytes)) (frame_keeps core c (frame_version core c bytes) (frame_action core c bytes)).1
published_rises core (steps.Edit c) h = kept_up core (does core (steps.Edit c)) (decided_published core c (edit_step.decision core c))
published_rises core Publish h = h
published_rises core (Tell c revision) h = kept_up core (does core (Tell c revision)) (notes_keep (told_core core c) (connection_at core c).worker revision).1
published_rises core (Look w revision) h = omega arith
published_rises core (Offer w) h = kept_up core (does core (Offer w)) (puts_keep (taken_core core w) (offer_step.next_copy core w)).1
published_rises core (Drain c) h = kept_up core (does core (Drain c)) (drain_keeps core (connection_at core c).seat).1
published_rises core Post h = kept_up core (does core Post) (posted_keeps core).1
published_rises core (Collect c) h = kept_up core (does core (Collect c)) (collect_keeps core (connection_at core c).seat).1
published_rises core (Close c cause) h = omega arith
published_rises core End h = omega arith

published_on : (core : CoreState) (run : List Step) → IsWithin core → core.published ≤ (ran core run).published
published_on core [] h = omega arith
published_on core (step ∷ run) h =
    let first = published_rises core step h in
    let later = published_on (does core step) run (within core step h) in
    omega (arith, first, later)

pub published_never_falls : (version : Version) (opening : StateValue) (workers : ℕ) (run more : List Step)
    → (ran (start version opening workers) run).published ≤ (ran (ran (start version opening workers) run) more).published
published_never_falls version opening workers run more = published_on (ran (start version opening workers) run) more (published_is_accepted version opening workers run)

-- ---- workers

abbrev pub Further : WorkerState → WorkerState → Type 0
Further old new = (old.seen ≤ new.seen) × (old.told ≤ new.told)

same_worker : (w : WorkerState) → Further w w
same_worker w = (omega arith, omega arith)

further_then : (a b c : WorkerState) → Further a b → Further b c → Further a c
further_then a b c h k = (omega (arith, h.0, k.0), omega (arith, h.1, k.1))

pub none_stands : {A : Type 0} (b : Bool) (x : A) (rest : Option A) → cond b (Some x) rest ≡ None → (b ≡ false) × (rest ≡ None)
none_stands true x rest h = cc
none_stands false x rest h = (refl, h)

-- a look is between the bounds
pub looks_are_bounded : (core : CoreState) (w revision : ℕ) → illegal core (Look w revision) ≡ None
    → ((worker_at core w).seen ≤ revision) × ((worker_at core w).told ≤ revision) × (revision ≤ core.published)
looks_are_bounded core w revision h =
    let worker : WorkerState = worker_at core w in
    let first = none_stands (not (nat_lt w (length core.workers))) _ _ h in
    let second = none_stands (is_none worker.held) _ _ first.1 in
    let third = none_stands (nat_lt revision (least_look worker)) _ _ second.1 in
    let fourth = none_stands (nat_lt core.published revision) _ _ third.1 in
    let low : max worker.seen worker.told ≤ revision = ltb-false revision (least_look worker) third.0 in
    let high : revision ≤ core.published = ltb-false core.published revision fourth.0 in
    (omega arith, omega arith, high)

-- where no case of a look applies, its revision is not below what was seen
hears_goes_on : (core : CoreState) (v w : ℕ) (held : Option HeldPacket) → Further (worker_at core w) (worker_at (frame_step.hears core v held) w)
hears_goes_on core v w (Some held) = changed-by Further same_worker core.workers v w _ idle (λ x at here. same_worker x)
hears_goes_on core v w None = same_worker (worker_at core w)

frame_goes_on : (core : CoreState) (c w : ℕ) (version : Option ℕ) (a : Action) → Further (worker_at core w) (worker_at (frame_step.does core c version a) w)
frame_goes_on core c w version (Voice payload) = hears_goes_on core (connection_at core c).worker w (spoken (connection_at core c).seat (packet payload))
frame_goes_on core c w version others = same_worker (worker_at core w)

notes_go_on : (core : CoreState) (v w : ℕ) (revision : Option ℕ) → Further (worker_at core w) (worker_at (tell_step.notes v revision core) w)
notes_go_on core v w None = same_worker (worker_at core w)
notes_go_on core v w (Some revision) = changed-by Further same_worker core.workers v w _ idle (λ x at here. (omega arith, omega arith))

cond_goes_on : (b : Bool) (core x y : CoreState) (w : ℕ) → Further (worker_at core w) (worker_at x w) → Further (worker_at core w) (worker_at y w) → Further (worker_at core w) (worker_at (cond b x y) w)
cond_goes_on true core x y w hx hy = hx
cond_goes_on false core x y w hx hy = hy

puts_go_on : (core : CoreState) (w : ℕ) (next : Option Outgoing) → Further (worker_at core w) (worker_at (offer_step.puts core next) w)
puts_go_on core w None = same_worker (worker_at core w)
puts_go_on core w (Some next) = cond_goes_on (offer_step.has_room core next.slot.0) core _ _ w (same_worker (worker_at core w)) (same_worker (worker_at core w))

decided_goes_on : (core : CoreState) (c w : ℕ) (verdict : Option Verdict) → Further (worker_at core w) (worker_at (option_map_or (edit_step.decides core c) verdict core) w)
decided_goes_on core c w None = same_worker (worker_at core w)
decided_goes_on core c w (Some verdict) = same_worker (worker_at core w)

cond_workers : (b : Bool) (core x y : CoreState) → x.workers ≡ core.workers → y.workers ≡ core.workers → (cond b x y).workers ≡ core.workers
cond_workers true core x y hx hy = hx
cond_workers false core x y hx hy = hy

post_workers : (core : CoreState) (next : Option Notice) → (post_step.puts core next).workers ≡ core.workers
post_workers core None = refl
post_workers core (Some next) = cond_workers (post_step.has_room core next.slot.0) core _ _ refl refl

pub posted_workers : (core : CoreState) → (does core Post).workers ≡ core.workers
posted_workers core = post_workers (posting_core core) (post_step.next_notice core)

delivery_workers : (queues : Queues) (core : CoreState) (seat : Option Seat) → ((slot : ℕ) → (queues.without slot core).workers ≡ core.workers)
    → (does_from queues core seat).workers ≡ core.workers
delivery_workers queues core seat rest = delivered (λ new. new.workers ≡ core.workers) queues core seat refl rest rest

pub drain_workers : (core : CoreState) (seat : Option Seat) → (does_from copy_queues core seat).workers ≡ core.workers
drain_workers core seat = delivery_workers copy_queues core seat (λ slot. refl)

pub collect_workers : (core : CoreState) (seat : Option Seat) → (does_from notice_queues core seat).workers ≡ core.workers
collect_workers core seat = delivery_workers notice_queues core seat (λ slot. refl)

unchanged : (core new : CoreState) (w : ℕ) → new.workers ≡ core.workers → Further (worker_at core w) (worker_at new w)
unchanged core new w same = rw same (same_worker (worker_at core w))

pub goes_on : (core : CoreState) (step : Step) (w : ℕ) → illegal core step ≡ None → Further (worker_at core w) (worker_at (does core step) w)
goes_on core (Open c v) w h = same_worker (worker_at core w)
goes_on core (Frame c bytes) w h = frame_goes_on core c w (frame_version core c bytes) (frame_action core c bytes)
goes_on core (steps.Edit c) w h = decided_goes_on core c w (edit_step.decision core c)
goes_on core Publish w h = same_worker (worker_at core w)
goes_on core (Tell c revision) w h = notes_go_on (told_core core c) (connection_at core c).worker w revision
goes_on core (Look v revision) w h =
    let bounds = looks_are_bounded core v revision h in
    changed-by Further same_worker core.workers v w _ idle (λ x at same.
    let here : worker_at core v ≡ x = get_or_from_slice_get core.workers v x idle at in
    let seen : x.seen ≤ revision = rw here at bounds.0 in
    (seen, omega arith))
goes_on core (Offer v) w h =
    further_then (worker_at core w) (worker_at (taken_core core v) w) (worker_at (does core (Offer v)) w)
    (changed-by Further same_worker core.workers v w (λ worker. record worker { copies = drop 1 worker.copies }) idle (λ x at here. same_worker x)) (puts_go_on (taken_core core v) w (offer_step.next_copy core v))
goes_on core (Drain c) w h = unchanged core (does core (Drain c)) w (drain_workers core (connection_at core c).seat)
goes_on core Post w h = unchanged core (does core Post) w (posted_workers core)
goes_on core (Collect c) w h = unchanged core (does core (Collect c)) w (collect_workers core (connection_at core c).seat)
goes_on core (Close c cause) w h = same_worker (worker_at core w)
goes_on core End w h = same_worker (worker_at core w)

pub workers_go_on : (core : CoreState) (run : List Step) (w : ℕ) → IsRun core run → Further (worker_at core w) (worker_at (ran core run) w)
workers_go_on core [] w h = same_worker (worker_at core w)
workers_go_on core (step ∷ run) w h =
    further_then (worker_at core w) (worker_at (does core step) w) (worker_at (ran core (step ∷ run)) w) (goes_on core step w h.0) (workers_go_on (does core step) run w h.1)

-- ---- offers

pub not_false : (b : Bool) → not b ≡ false → b ≡ true
not_false true h = refl
not_false false h = cc

pub puts_workers : (core : CoreState) (next : Option Outgoing) → (offer_step.puts core next).workers ≡ core.workers
puts_workers core None = refl
puts_workers core (Some next) = from (offer_step.has_room core next.slot.0)
  where
    from : (b : Bool) → (cond b (record (at_outbox next.slot.0 (λ parcels. parcels ++ record { to = next.to; bytes = next.bytes } ∷ []) core) { totals = record core.totals { copies = up core.totals.copies } })
        (record core { totals = record core.totals { full = up core.totals.full } })).workers ≡ core.workers
    from true = refl
    from false = refl

pub decided_workers : (core : CoreState) (c : ℕ) (verdict : Option Verdict) → (option_map_or (edit_step.decides core c) verdict core).workers ≡ core.workers
decided_workers core c None = refl
decided_workers core c (Some verdict) = refl

pub first_of : (copies : List Outgoing) → is_none (slice_get copies 0) ≡ false → (copy : Outgoing) × (copies ≡ copy ∷ drop 1 copies)
first_of [] h = cc
first_of (copy ∷ copies) h = (copy, refl)

pub offers_take_the_first : (core : CoreState) (w : ℕ) → illegal core (Offer w) ≡ None
    → (copy : Outgoing) × ((worker_at core w).copies ≡ copy ∷ (worker_at (does core (Offer w)) w).copies)
offers_take_the_first core w h =
    let first = none_stands (not (nat_lt w (length core.workers))) _ _ h in
    let second = none_stands (is_none (offer_step.next_copy core w)) _ _ first.1 in
    let within : w < length core.workers = ltb-true w (length core.workers) (not_false (nat_lt w (length core.workers)) first.0) in
    let some = first_of (worker_at core w).copies second.0 in
    let taken : CoreState = record core { workers = changed_at w (λ worker. record worker { copies = drop 1 worker.copies }) core.workers } in
    let after : (worker_at (does core (Offer w)) w).copies ≡ drop 1 (worker_at core w).copies =
    ap (λ (ws : List WorkerState). (slice_index_or ws w idle).copies) (puts_workers taken (offer_step.next_copy core w))
    ∙ ap (λ (x : WorkerState). x.copies) (changed_same core.workers w _ idle within) in
    (some.0, some.1 ∙ ap (λ (xs : List Outgoing). some.0 ∷ xs) (sym after))
