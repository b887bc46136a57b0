-- A copy that is offered is at the back of its outbox, or found it full; and both are counted.
use Rattle.mum_laws.proofs.Common.{◌≡◌, ℕ, ◌+◌, ◌-◌, ◌≤◌, ◌<◌, ◌^◌, min, Bool, true, false, cond, List, [], ◌∷◌, ◌++◌, length, take, drop, Option, Some, None, refl, sym, ap, subst, ◌∙◌, arith, inl, inr, length-append, ◌⊎◌, codes, filter, not, slice_get, slice_index_or, AllByRecursion, ltb-false, ltb-true, length-replicate, get_or_from_slice_get, SLOTS, IsProper, StateValue, Version, Step, Open, Frame, Publish, Tell, Look, Offer, Post, Drain, Collect, Close, End, Seat, Totals, Parcel, Outgoing, CoreState, at_outbox, connection_at, outbox_at, start, state_at, up, worker_at, does_from, IsRun, gathered, ran, changed_at, does, frame_action, frame_version, illegal, lines, WorkerState, idle, copy_queues, notice_queues, changed-by, changed_other, changed_same, AllCopies, AllLooked, boxes_step, collect_boxes, copies_step, decided_still, each_looked, empty_box, frame_still, idle_copies, looks_before, notes_still, posted_still, delivered, lawful_all, lawful_start, state_proper, slot_below, offers_take_the_first, puts_workers, taken_core, told_core, IsLeftOut, IsSent, Offers, found_full, has_room, offer_line, sent}
use Rattle.mum_laws.proofs.Counting.{CountsEach, counts_all, counts_first, counts_none}
use Rattle.mum_record.specs.declared.step.Step.TheVariants as steps
use Rattle.mum_core.specs.steps.Edit as edit_step
use Rattle.mum_core.specs.steps.Offer as offer_step

-- ---- no outbox has more than it can hold

abbrev Fits : List Parcel → Type 0
Fits box = length box ≤ 128

abbrev StaysFit : List Parcel → List Parcel → Type 0
StaysFit old new = Fits old → Fits new

abbrev AllFit : CoreState → Type 0
AllFit core = (slot : ℕ) → Fits (outbox_at core slot)

fit_stays : (x : List Parcel) → StaysFit x x
fit_stays x fits = fits

fit_same : (old new : CoreState) → new.outboxes ≡ old.outboxes → AllFit old → AllFit new
fit_same old new same fits slot = rw same (fits slot)

longer : (box : List Parcel) (parcel : Parcel) → length box < 128 → Fits (box ++ parcel ∷ [])
longer box parcel room = let more = length-append box (parcel ∷ []) in omega (arith, more, room)

shorter : (box : List Parcel) → StaysFit box (drop 1 box)
shorter [] fits = fits
shorter (front ∷ rest) fits = omega (arith, fits)

fit_cond : (b : Bool) (x y : CoreState) → (b ≡ true → AllFit x) → (b ≡ false → AllFit y) → AllFit (cond b x y)
fit_cond true x y hx hy = hx refl
fit_cond false x y hx hy = hy refl

fit_puts : (core : CoreState) (next : Option Outgoing) → AllFit core → AllFit (offer_step.puts core next)
fit_puts core None fits = fits
fit_puts core (Some next) fits =
    let parcel : Parcel = record { to = next.to; bytes = next.bytes } in
    fit_cond (offer_step.has_room core next.slot.0) _ _
    (λ room slot.
    changed-by StaysFit fit_stays core.outboxes next.slot.0 slot (λ parcels. parcels ++ parcel ∷ []) [] (λ x at here fit.
    let is : outbox_at core next.slot.0 ≡ x = get_or_from_slice_get core.outboxes next.slot.0 x [] at in
    longer x parcel (subst (λ (box : List Parcel). length box < 128) is (ltb-true (length (outbox_at core next.slot.0)) 128 room))) (fits slot))
    (λ full. fits)

fit_drained : (core : CoreState) (seat : Option Seat) → AllFit core → AllFit (does_from copy_queues core seat)
fit_drained core seat fits =
    let rest : (slot place : ℕ) → Fits (slice_index_or (changed_at slot (λ parcels. drop 1 parcels) core.outboxes) place []) =
    λ slot place. changed-by StaysFit fit_stays core.outboxes slot place (λ parcels. drop 1 parcels) [] (λ x at here fit. shorter x fit) (fits place) in
    delivered AllFit copy_queues core seat fits rest rest

fit_step : (core : CoreState) (step : Step) → AllFit core → AllFit (does core step)
fit_step core (Open c w) fits = fits
fit_step core (Frame c bytes) fits = fit_same core (does core (Frame c bytes)) (frame_still core c (frame_version core c bytes) (frame_action core c bytes)).1 fits
fit_step core (steps.Edit c) fits = fit_same core (does core (steps.Edit c)) (decided_still core c (edit_step.decision core c)).1 fits
fit_step core Publish fits = fits
fit_step core (Tell c revision) fits = fit_same core (does core (Tell c revision)) (notes_still (told_core core c) (connection_at core c).worker revision).1 fits
fit_step core (Look w revision) fits = fits
fit_step core (Offer w) fits = fit_puts (taken_core core w) (offer_step.next_copy core w) fits
fit_step core (Drain c) fits = fit_drained core (connection_at core c).seat fits
fit_step core Post fits = fit_same core (does core Post) (posted_still core).1 fits
fit_step core (Collect c) fits = fit_same core (does core (Collect c)) (collect_boxes core (connection_at core c).seat) fits
fit_step core (Close c cause) fits = fits
fit_step core End fits = fits

fit_all : (core : CoreState) (run : List Step) → AllFit core → AllFit (ran core run)
fit_all core [] fits = fits
fit_all core (step ∷ run) fits = fit_all (does core step) run (fit_step core step fits)

pub none_above : (version : Version) (opening : StateValue) (workers slot : ℕ) (run : List Step) → length (outbox_at (ran (start version opening workers) run) slot) ≤ 128
none_above version opening workers slot run =
    fit_all (start version opening workers) run (λ place. subst Fits (sym (empty_box SLOTS place)) (omega arith)) slot

-- ---- each copy in hand is for a slot that there is

abbrev IsOfServer : Outgoing → Type 0
IsOfServer copy = copy.slot.0 < SLOTS

copies_all : (P : Outgoing → Type 0) (core : CoreState) (run : List Step) → ((revision : ℕ) → AllLooked P (state_at (ran core run) revision)) → AllCopies P core → AllCopies P (ran core run)
copies_all P core [] looks all = all
copies_all P core (step ∷ run) looks all = copies_all P (does core step) run looks (copies_step P core step (looks_before P core (step ∷ run) looks) all)

boxes_all : (core : CoreState) (run : List Step) → length (ran core run).outboxes ≡ length core.outboxes
boxes_all core [] = refl
boxes_all core (step ∷ run) = boxes_all (does core step) run ∙ boxes_step core step

in_server : (version : Version) (opening : StateValue) (workers : ℕ) (run : List Step) → IsProper opening → AllCopies IsOfServer (ran (start version opening workers) run)
in_server version opening workers run proper =
    let core : CoreState = ran (start version opening workers) run in
    let lawful = lawful_all (start version opening workers) run (lawful_start version opening workers proper) in
    copies_all IsOfServer (start version opening workers) run
    (λ revision. each_looked IsOfServer (state_at core revision) (λ held one user found. slot_below (state_at core revision) one.0 user (state_proper core revision lawful) found))
    (idle_copies IsOfServer workers)

an_outbox_each : (version : Version) (opening : StateValue) (workers : ℕ) (run : List Step) → length (ran (start version opening workers) run).outboxes ≡ SLOTS
an_outbox_each version opening workers run =
    let none : List Parcel = [] in
    boxes_all (start version opening workers) run ∙ length-replicate SLOTS none

-- ---- one offer

abbrev Put : CoreState → ℕ → Outgoing → CoreState → Type 0
Put old w copy new = IsSent old w copy new ⊎ IsLeftOut old w copy new

-- the core after the offer of this copy
abbrev offering : CoreState → ℕ → Option Outgoing → CoreState
offering core w next = record (offer_step.puts (taken_core core w) next) { line = up core.line }

line_of_offer : (core : CoreState) (w : ℕ) (copy : Outgoing) (b : Bool) → offer_step.next_copy core w ≡ Some copy → offer_step.has_room core copy.slot.0 ≡ b
    → lines core (Offer w) ≡ offer_line (cond b (codes "sent") (codes "full")) w copy ∷ []
line_of_offer core w copy b is room =
    ap (λ (next : Option Outgoing). offer_step.line_of core w next ∷ []) is
    ∙ ap (λ (x : Bool). offer_line (cond x (codes "sent") (codes "full")) w copy ∷ []) room

-- the two cores from which an offer chooses
abbrev with_copy : CoreState → ℕ → Outgoing → CoreState
with_copy core w copy =
    record (at_outbox copy.slot.0 (λ parcels. parcels ++ record { to = copy.to; bytes = copy.bytes } ∷ []) (taken_core core w))
    { totals = record core.totals { copies = up core.totals.copies } }

abbrev without_copy : CoreState → ℕ → CoreState
without_copy core w = record (taken_core core w) { totals = record core.totals { full = up core.totals.full } }

put_by : (core : CoreState) (w : ℕ) (copy : Outgoing) (b : Bool) → offer_step.has_room core copy.slot.0 ≡ b → copy.slot.0 < length core.outboxes
    → length (outbox_at core copy.slot.0) ≤ 128 → lines core (Offer w) ≡ offer_line (cond b (codes "sent") (codes "full")) w copy ∷ []
    → Put core w copy (record (cond b (with_copy core w copy) (without_copy core w)) { line = up core.line })
put_by core w copy true room within most told =
    let parcel : Parcel = record { to = copy.to; bytes = copy.bytes } in
    inl (record {
      room = ltb-true (length (outbox_at core copy.slot.0)) 128 room;
      back = changed_same core.outboxes copy.slot.0 (λ parcels. parcels ++ parcel ∷ []) [] within;
      others = λ slot other. changed_other core.outboxes copy.slot.0 slot (λ parcels. parcels ++ parcel ∷ []) [] other;
      counted = refl;
      told = told;
    })
put_by core w copy false full within most told =
    let enough = ltb-false (length (outbox_at core copy.slot.0)) 128 full in
    inr (record { waited = omega (arith, enough, most); outboxes = refl; counted = refl; told = told })

offers_copy : (core : CoreState) (w : ℕ) → length core.outboxes ≡ SLOTS → AllCopies IsOfServer core → AllFit core → illegal core (Offer w) ≡ None → Offers core w (does core (Offer w))
offers_copy core w boxes all fits legal =
    let taken = offers_take_the_first core w legal in
    let copy : Outgoing = taken.0 in
    let next : offer_step.next_copy core w ≡ Some copy = ap (λ (xs : List Outgoing). slice_get xs 0) taken.1 in
    let low : copy.slot.0 < SLOTS = (subst (AllByRecursion IsOfServer) taken.1 (all w)).0 in
    let within : copy.slot.0 < length core.outboxes = omega (arith, boxes, low) in
    let told = line_of_offer core w copy (offer_step.has_room core copy.slot.0) next refl in
    let put : Put core w copy (offering core w (Some copy)) = put_by core w copy (offer_step.has_room core copy.slot.0) refl within (fits copy.slot.0) told in
    record {
      copy = copy;
      first = taken.1;
      workers = λ v other.
          ap (λ (ws : List WorkerState). slice_index_or ws v idle) (puts_workers (taken_core core w) (offer_step.next_copy core w))
          ∙ changed_other core.workers w v (λ worker. record worker { copies = drop 1 worker.copies }) idle other;
      put = subst (λ (o : Option Outgoing). Put core w copy (offering core w o)) (sym next) put;
    }

pub offers_of_runs : (version : Version) (opening : StateValue) (workers w : ℕ) (run : List Step) → IsProper opening → IsRun (start version opening workers) run
    → illegal (ran (start version opening workers) run) (Offer w) ≡ None → Offers (ran (start version opening workers) run) w (does (ran (start version opening workers) run) (Offer w))
offers_of_runs version opening workers w run proper is legal =
    offers_copy (ran (start version opening workers) run) w (an_outbox_each version opening workers run) (in_server version opening workers run proper)
    (λ slot. none_above version opening workers slot run) legal

-- ---- what is counted

-- a step after which the totals are the same
pub still_counts : (count : Totals → ℕ) (old new : CoreState) → new.totals ≡ old.totals → count old.totals ≤ 2 ^ 64 - 1 → count new.totals ≡ min (count old.totals + 0) (2 ^ 64 - 1)
still_counts count old new same low = counts_none (count old.totals) (count new.totals) (ap count same) low

cond_sent : (b : Bool) (copy : Outgoing) (old : ℕ) (x y : CoreState) → x.totals.copies ≡ min (old + 1) (2 ^ 64 - 1) → y.totals.copies ≡ min (old + 0) (2 ^ 64 - 1)
    → (cond b x y).totals.copies ≡ min (old + length (cond b (copy ∷ []) [])) (2 ^ 64 - 1)
cond_sent true copy old x y hx hy = hx
cond_sent false copy old x y hx hy = hy

cond_full : (b : Bool) (copy : Outgoing) (old : ℕ) (x y : CoreState) → x.totals.full ≡ min (old + 0) (2 ^ 64 - 1) → y.totals.full ≡ min (old + 1) (2 ^ 64 - 1)
    → (cond b x y).totals.full ≡ min (old + length (cond (not b) (copy ∷ []) [])) (2 ^ 64 - 1)
cond_full true copy old x y hx hy = hx
cond_full false copy old x y hx hy = hy

sent_of : (core : CoreState) (w : ℕ) (copies : List Outgoing) → core.totals.copies ≤ 2 ^ 64 - 1
    → (offer_step.puts (taken_core core w) (slice_get copies 0)).totals.copies ≡ min (core.totals.copies + length (filter (has_room core) (take 1 copies))) (2 ^ 64 - 1)
sent_of core w [] low = counts_none core.totals.copies core.totals.copies refl low
sent_of core w (copy ∷ copies) low =
    cond_sent (has_room core copy) copy core.totals.copies (with_copy core w copy) (without_copy core w) refl (counts_none core.totals.copies core.totals.copies refl low)

full_of : (core : CoreState) (w : ℕ) (copies : List Outgoing) → core.totals.full ≤ 2 ^ 64 - 1
    → (offer_step.puts (taken_core core w) (slice_get copies 0)).totals.full
    ≡ min (core.totals.full + length (filter (λ (copy : Outgoing). not (has_room core copy)) (take 1 copies))) (2 ^ 64 - 1)
full_of core w [] low = counts_none core.totals.full core.totals.full refl low
full_of core w (copy ∷ copies) low =
    cond_full (has_room core copy) copy core.totals.full (with_copy core w copy) (without_copy core w) (counts_none core.totals.full core.totals.full refl low) refl

-- where a delivery changes no count but that of what was stale
abbrev copies_in : Totals → ℕ
copies_in totals = totals.copies

abbrev full_in : Totals → ℕ
full_in totals = totals.full

kept_copies : (core new : CoreState) → new.totals.copies ≡ core.totals.copies → core.totals.copies ≤ 2 ^ 64 - 1 → new.totals.copies ≡ min (core.totals.copies + 0) (2 ^ 64 - 1)
kept_copies core new same low = counts_none core.totals.copies new.totals.copies same low

kept_full : (core new : CoreState) → new.totals.full ≡ core.totals.full → core.totals.full ≤ 2 ^ 64 - 1 → new.totals.full ≡ min (core.totals.full + 0) (2 ^ 64 - 1)
kept_full core new same low = counts_none core.totals.full new.totals.full same low

sent_each : CountsEach copies_in sent
sent_each core (Open c w) low = kept_copies core core refl low
sent_each core (Frame c bytes) low = still_counts copies_in core (does core (Frame c bytes)) (frame_still core c (frame_version core c bytes) (frame_action core c bytes)).0 low
sent_each core (steps.Edit c) low = still_counts copies_in core (does core (steps.Edit c)) (decided_still core c (edit_step.decision core c)).0 low
sent_each core Publish low = kept_copies core core refl low
sent_each core (Tell c revision) low = still_counts copies_in core (does core (Tell c revision)) (notes_still (told_core core c) (connection_at core c).worker revision).0 low
sent_each core (Look w revision) low = kept_copies core core refl low
sent_each core (Offer w) low = sent_of core w (worker_at core w).copies low
sent_each core (Drain c) low =
    kept_copies core (does core (Drain c))
    (delivered (λ new. new.totals.copies ≡ core.totals.copies) copy_queues core (connection_at core c).seat refl (λ slot. refl) (λ slot. refl)) low
sent_each core Post low = still_counts copies_in core (does core Post) (posted_still core).0 low
sent_each core (Collect c) low =
    kept_copies core (does core (Collect c))
    (delivered (λ new. new.totals.copies ≡ core.totals.copies) notice_queues core (connection_at core c).seat refl (λ slot. refl) (λ slot. refl)) low
sent_each core (Close c cause) low = kept_copies core core refl low
sent_each core End low = kept_copies core core refl low

full_each : CountsEach full_in found_full
full_each core (Open c w) low = kept_full core core refl low
full_each core (Frame c bytes) low = still_counts full_in core (does core (Frame c bytes)) (frame_still core c (frame_version core c bytes) (frame_action core c bytes)).0 low
full_each core (steps.Edit c) low = still_counts full_in core (does core (steps.Edit c)) (decided_still core c (edit_step.decision core c)).0 low
full_each core Publish low = kept_full core core refl low
full_each core (Tell c revision) low = still_counts full_in core (does core (Tell c revision)) (notes_still (told_core core c) (connection_at core c).worker revision).0 low
full_each core (Look w revision) low = kept_full core core refl low
full_each core (Offer w) low = full_of core w (worker_at core w).copies low
full_each core (Drain c) low =
    kept_full core (does core (Drain c))
    (delivered (λ new. new.totals.full ≡ core.totals.full) copy_queues core (connection_at core c).seat refl (λ slot. refl) (λ slot. refl)) low
full_each core Post low = still_counts full_in core (does core Post) (posted_still core).0 low
full_each core (Collect c) low =
    kept_full core (does core (Collect c))
    (delivered (λ new. new.totals.full ≡ core.totals.full) notice_queues core (connection_at core c).seat refl (λ slot. refl) (λ slot. refl)) low
full_each core (Close c cause) low = kept_full core core refl low
full_each core End low = kept_full core core refl low

pub copies_counted : (version : Version) (opening : StateValue) (workers : ℕ) (run : List Step)
    → (ran (start version opening workers) run).totals.copies ≡ min (length (gathered sent (start version opening workers) run)) (2 ^ 64 - 1)
copies_counted version opening workers run =
    counts_first (ran (start version opening workers) run).totals.copies (length (gathered sent (start version opening workers) run))
    (counts_all copies_in sent sent_each (start version opening workers) run (omega arith))

pub full_counted : (version : Version) (opening : StateValue) (workers : ℕ) (run : List Step)
    → (ran (start version opening workers) run).totals.full ≡ min (length (gathered found_full (start version opening workers) run)) (2 ^ 64 - 1)
full_counted version opening workers run =
    counts_first (ran (start version opening workers) run).totals.full (length (gathered found_full (start version opening workers) run))
    (counts_all full_in found_full full_each (start version opening workers) run (omega arith))
