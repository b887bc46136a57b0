-- What holds of all copies that workers have in hand, where it holds of those of each look; and the steps that leave outboxes as they are.
use Rattle.mum_core.proofs.Common.{◌≡◌, ℕ, zero, suc, Bool, true, false, cond, List, [], ◌∷◌, ◌++◌, length, map, take, drop, Option, Some, None, refl, sym, ap, ◌∙◌, slice_index_or, replicate, AllByRecursion, option_map_or, User, Verdict, led_to, StateValue, Member, each_hearer, seated, packet, Action, Voice, Parcel, Seat, Outgoing, Step, Open, Frame, Publish, Tell, Look, Offer, Post, Drain, Collect, Close, End, CoreState, connection_at, worker_at, state_at, at_outbox, ran, does, frame_action, frame_version, WorkerState, HeldPacket, idle, spoken, changed_at, does_from, is_for, takes, with_stale, carried, copy_queues, notice_queues, Notice}
use Rattle.mum_users.specs.Sessions.{session_of}
use Rattle.mum_core.proofs.{Delivered.delivered, Changed.changed-by, Changed.length-changed, RunLaws.accepted_grows, RunLaws.decided_workers, RunLaws.drain_workers, RunLaws.opening_stays, RunLaws.puts_workers, RunLaws.taken_core, RunLaws.told_core, RunLaws.posting_core, RunLaws.posted_workers, RunLaws.collect_workers}
use Rattle.mum_record.specs.declared.step.Step.TheVariants as steps
use Rattle.mum_core.specs.steps.Edit as edit_step
use Rattle.mum_core.specs.steps.Frame as frame_step
use Rattle.mum_core.specs.steps.Look as look_step
use Rattle.mum_core.specs.steps.Offer as offer_step
use Rattle.mum_core.specs.steps.Post as post_step
use Rattle.mum_core.specs.steps.Tell as tell_step

-- ---- lists

pub all-pushed : {A : Type 0} (P : A → Type 0) (xs : List A) (x : A) → AllByRecursion P xs → P x → AllByRecursion P (xs ++ x ∷ [])
all-pushed P [] x all hx = (hx, tt)
all-pushed P (y ∷ ys) x all hx = (all.0, all-pushed P ys x all.1 hx)

pub all-dropped : {A : Type 0} (P : A → Type 0) (xs : List A) → AllByRecursion P xs → AllByRecursion P (drop 1 xs)
all-dropped P [] all = tt
all-dropped P (x ∷ xs) all = all.1

all-mapped : {A B : Type 0} (P : B → Type 0) (f : A → B) (xs : List A) → AllByRecursion (λ x. P (f x)) xs → AllByRecursion P (map f xs)
all-mapped P f [] all = tt
all-mapped P f (x ∷ xs) all = (all.0, all-mapped P f xs all.1)

-- ---- a state of a core is one of each later core

-- how many of the first n there are
abbrev front_length : {A : Type 0} → ℕ → List A → ℕ
front_length zero xs = zero
front_length (suc n) [] = zero
front_length (suc n) (x ∷ xs) = suc (front_length n xs)

take_on : {A : Type 0} (n : ℕ) (xs ys : List A) → take n xs ≡ take (front_length n xs) (xs ++ ys)
take_on zero xs ys = refl
take_on (suc n) [] ys = refl
take_on (suc n) (x ∷ xs) ys = ap (λ rest. x ∷ rest) (take_on n xs ys)

pub state_of_later : (core : CoreState) (run : List Step) (revision : ℕ) → (later : ℕ) × (state_at core revision ≡ state_at (ran core run) later)
state_of_later core run revision =
    let grown = accepted_grows core run in
    let later : ℕ = front_length revision core.accepted in (
      later,
      ap (led_to core.opening) (take_on revision core.accepted grown.0 ∙ ap (take later) (sym grown.1))
          ∙ ap (λ (opening : StateValue). led_to opening (take later (ran core run).accepted)) (sym (opening_stays core run)),
    )

-- ---- copies

abbrev pub AllCopies : (Outgoing → Type 0) → CoreState → Type 0
AllCopies P core = (w : ℕ) → AllByRecursion P (worker_at core w).copies

-- each copy of a look at the state
abbrev pub AllLooked : (Outgoing → Type 0) → StateValue → Type 0
AllLooked P state = (held : Option HeldPacket) → AllByRecursion P (look_step.copies state held)

-- those of a look are for users who are found, in their slots
pub each_looked : (P : Outgoing → Type 0) (state : StateValue)
    → ((held : HeldPacket) (one : Member) (user : User) → session_of state.roster one.0 ≡ Some user → P (look_step.outgoing held (seated state held.speaker one user)))
    → AllLooked P state
each_looked P state each None = tt
each_looked P state each (Some held) =
    all-mapped P (look_step.outgoing held) (look_step.audience state (Some held))
    (each_hearer state held.speaker held.parts.target (λ hearer. P (look_step.outgoing held hearer)) (each held))

abbrev Follows : (Outgoing → Type 0) → WorkerState → WorkerState → Type 0
Follows P old new = AllByRecursion P old.copies → AllByRecursion P new.copies

all_hears : (P : Outgoing → Type 0) (core : CoreState) (w : ℕ) (held : Option HeldPacket) → AllCopies P core → AllCopies P (frame_step.hears core w held)
all_hears P core w (Some held) all = λ v. changed-by (Follows P) (λ x h. h) core.workers w v _ idle (λ x at here h. h) (all v)
all_hears P core w None all = all

all_frame : (P : Outgoing → Type 0) (core : CoreState) (c : ℕ) (version : Option ℕ) (a : Action) → AllCopies P core → AllCopies P (frame_step.does core c version a)
all_frame P core c version (Voice payload) all = all_hears P core (connection_at core c).worker (spoken (connection_at core c).seat (packet payload)) all
all_frame P core c version others all = all

all_notes : (P : Outgoing → Type 0) (core : CoreState) (w : ℕ) (revision : Option ℕ) → AllCopies P core → AllCopies P (tell_step.notes w revision core)
all_notes P core w None all = all
all_notes P core w (Some revision) all = λ v. changed-by (Follows P) (λ x h. h) core.workers w v _ idle (λ x at here h. h) (all v)

all_by : (P : Outgoing → Type 0) (old new : CoreState) → new.workers ≡ old.workers → AllCopies P old → AllCopies P new
all_by P old new same all w = rw same (all w)

pub copies_step : (P : Outgoing → Type 0) (core : CoreState) (step : Step) → ((revision : ℕ) → AllLooked P (state_at core revision)) → AllCopies P core → AllCopies P (does core step)
copies_step P core (Open c w) looks all = all
copies_step P core (Frame c bytes) looks all = all_frame P core c (frame_version core c bytes) (frame_action core c bytes) all
copies_step P core (steps.Edit c) looks all = all_by P core (does core (steps.Edit c)) (decided_workers core c (edit_step.decision core c)) all
copies_step P core Publish looks all = all
copies_step P core (Tell c revision) looks all = all_notes P (told_core core c) (connection_at core c).worker revision all
copies_step P core (Look w revision) looks all = λ v. changed-by (Follows P) (λ x h. h) core.workers w v _ idle (λ x at here h. looks revision (worker_at core w).held) (all v)
copies_step P core (Offer w) looks all =
    all_by P (taken_core core w) (does core (Offer w)) (puts_workers (taken_core core w) (offer_step.next_copy core w))
    (λ v. changed-by (Follows P) (λ x h. h) core.workers w v _ idle (λ x at here h. all-dropped P x.copies h) (all v))
copies_step P core (Drain c) looks all = all_by P core (does core (Drain c)) (drain_workers core (connection_at core c).seat) all
copies_step P core Post looks all = all_by P core (does core Post) (posted_workers core) all
copies_step P core (Collect c) looks all = all_by P core (does core (Collect c)) (collect_workers core (connection_at core c).seat) all
copies_step P core (Close c cause) looks all = all
copies_step P core End looks all = all

-- what holds of the looks of the last core holds of those of each before it
pub looks_before : (P : Outgoing → Type 0) (core : CoreState) (run : List Step) → ((revision : ℕ) → AllLooked P (state_at (ran core run) revision)) → (revision : ℕ) → AllLooked P (state_at core revision)
looks_before P core run looks revision =
    let later = state_of_later core run revision in
    rw later.1 (looks later.0)

pub idle_copies : (P : Outgoing → Type 0) (count w : ℕ) → AllByRecursion P (slice_index_or (replicate count idle) w idle).copies
idle_copies P zero w = tt
idle_copies P (suc count) zero = tt
idle_copies P (suc count) (suc w) = idle_copies P count w

-- ---- totals and outboxes

abbrev pub Still : CoreState → CoreState → Type 0
Still old new = (new.totals ≡ old.totals) × (new.outboxes ≡ old.outboxes)

hears_still : (core : CoreState) (w : ℕ) (held : Option HeldPacket) → Still core (frame_step.hears core w held)
hears_still core w (Some held) = (refl, refl)
hears_still core w None = (refl, refl)

pub frame_still : (core : CoreState) (c : ℕ) (version : Option ℕ) (a : Action) → Still core (frame_step.does core c version a)
frame_still core c version (Voice payload) = hears_still core (connection_at core c).worker (spoken (connection_at core c).seat (packet payload))
frame_still core c version others = (refl, refl)

pub notes_still : (core : CoreState) (w : ℕ) (revision : Option ℕ) → Still core (tell_step.notes w revision core)
notes_still core w None = (refl, refl)
notes_still core w (Some revision) = (refl, refl)

pub decided_still : (core : CoreState) (c : ℕ) (decision : Option Verdict) → Still core (option_map_or (edit_step.decides core c) decision core)
decided_still core c None = (refl, refl)
decided_still core c (Some verdict) = (refl, refl)

-- ---- the outbox that a step changes

-- an outbox with one copy more
abbrev pub put_core : CoreState → Outgoing → CoreState
put_core core next = at_outbox next.slot.0 (λ parcels. parcels ++ record { to = next.to; bytes = next.bytes } ∷ []) core

-- an outbox without its oldest copy
abbrev pub rest_core : CoreState → Seat → CoreState
rest_core core seat = at_outbox seat.slot.0 (λ parcels. drop 1 parcels) core

pub takes_boxes : (core : CoreState) (seat : Seat) (front : Parcel) → (takes copy_queues core seat (Some (carried front))).outboxes ≡ (rest_core core seat).outboxes
takes_boxes core seat front = from (is_for front.to seat)
  where
    from : (b : Bool) → (cond b (rest_core core seat) (with_stale (rest_core core seat))).outboxes ≡ (rest_core core seat).outboxes
    from true = refl
    from false = refl

-- there are as many outboxes as before
cond_length : (b : Bool) (n : ℕ) (x y : CoreState) → length x.outboxes ≡ n → length y.outboxes ≡ n → length (cond b x y).outboxes ≡ n
cond_length true n x y hx hy = hx
cond_length false n x y hx hy = hy

puts_length : (core : CoreState) (next : Option Outgoing) → length (offer_step.puts core next).outboxes ≡ length core.outboxes
puts_length core None = refl
puts_length core (Some next) = cond_length (offer_step.has_room core next.slot.0) (length core.outboxes) _ _ (length-changed core.outboxes next.slot.0 _) refl

drained_length : (core : CoreState) (seat : Option Seat) → length (does_from copy_queues core seat).outboxes ≡ length core.outboxes
drained_length core seat =
    let shorter : (slot : ℕ) → length (changed_at slot (λ parcels. drop 1 parcels) core.outboxes) ≡ length core.outboxes = λ slot. length-changed core.outboxes slot (λ parcels. drop 1 parcels) in
    delivered (λ new. length new.outboxes ≡ length core.outboxes) copy_queues core seat refl shorter shorter

cond_still : (b : Bool) (core x y : CoreState) → Still core x → Still core y → Still core (cond b x y)
cond_still true core x y hx hy = hx
cond_still false core x y hx hy = hy

post_still : (core : CoreState) (next : Option Notice) → Still core (post_step.puts core next)
post_still core None = (refl, refl)
post_still core (Some next) = cond_still (post_step.has_room core next.slot.0) core _ _ (refl, refl) (refl, refl)

pub posted_still : (core : CoreState) → Still core (does core Post)
posted_still core = post_still (posting_core core) (post_step.next_notice core)

pub collect_boxes : (core : CoreState) (seat : Option Seat) → (does_from notice_queues core seat).outboxes ≡ core.outboxes
collect_boxes core seat = delivered (λ new. new.outboxes ≡ core.outboxes) notice_queues core seat refl (λ slot. refl) (λ slot. refl)

pub boxes_step : (core : CoreState) (step : Step) → length (does core step).outboxes ≡ length core.outboxes
boxes_step core (Open c w) = refl
boxes_step core (Frame c bytes) = ap length (frame_still core c (frame_version core c bytes) (frame_action core c bytes)).1
boxes_step core (steps.Edit c) = ap length (decided_still core c (edit_step.decision core c)).1
boxes_step core Publish = refl
boxes_step core (Tell c revision) = ap length (notes_still (told_core core c) (connection_at core c).worker revision).1
boxes_step core (Look w revision) = refl
boxes_step core (Offer w) = puts_length (taken_core core w) (offer_step.next_copy core w)
boxes_step core (Drain c) = drained_length core (connection_at core c).seat
boxes_step core Post = ap length (posted_still core).1
boxes_step core (Collect c) = ap length (collect_boxes core (connection_at core c).seat)
boxes_step core (Close c cause) = refl
boxes_step core End = refl

pub empty_box : (count slot : ℕ) → let none : List Parcel = [] in slice_index_or (replicate count none) slot none ≡ none
empty_box zero slot = refl
empty_box (suc count) zero = refl
empty_box (suc count) (suc slot) = empty_box count slot
