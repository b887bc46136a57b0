-- A drain sends the front of its slot, or drops it; and what is dropped is counted.
use Rattle.mum_laws.proofs.Common.{◌≡◌, ℕ, zero, suc, ◌+◌, ◌-◌, ◌≤◌, ◌<◌, ◌^◌, min, Bool, true, false, cond, List, [], ◌∷◌, length, map, take, drop, Option, Some, None, refl, sym, ap, subst, ◌∙◌, arith, ◌==◌, codes, decimal, filter, is_none, is_some, not, slice_get, slice_index_or, option_map, eq-eqb, ne_eqb, slice_get_within, SessionId, Notice, StateValue, Version, Step, Open, Frame, Publish, Tell, Look, Offer, Post, Drain, Collect, Close, End, Seat, Totals, Parcel, Outgoing, CoreState, at_posts, connection_at, is_opened, outbox_at, posts_at, start, up, does_from, is_for, takes, with_stale, gathered, ran, wire_words, does, frame_action, frame_version, illegal, lines, carried, copy_queues, framed, notice_queues, changed_other, changed_same, decided_still, frame_still, notes_still, posted_still, rest_core, none_stands, taken_core, told_core, Drains, Drops, IsWithout, Tells, copies_for, dropped, notices_for, strangers}
use Rattle.mum_laws.proofs.Counting.{CountsEach, counts_all, counts_first, counts_none}
use Rattle.mum_record.specs.declared.step.Step.TheVariants as steps
use Rattle.mum_core.specs.Delivery as delivery
use Rattle.mum_core.specs.steps.Edit as edit_step
use Rattle.mum_core.specs.steps.Offer as offer_step

-- ---- one drain

-- an outbox that has a copy is there
box_there : (boxes : List (List Parcel)) (i : ℕ) (front : Parcel) (rest : List Parcel) → slice_index_or boxes i [] ≡ front ∷ rest → slice_get boxes i ≡ Some (front ∷ rest)
box_there [] i front rest e = cc
box_there (box ∷ boxes) zero front rest e = ap (λ (b : List Parcel). Some b) e
box_there (box ∷ boxes) (suc i) front rest e = box_there boxes i front rest e

without : (core new : CoreState) (seat : Seat) (front : Parcel) (rest : List Parcel) → outbox_at core seat.slot.0 ≡ front ∷ rest → new.outboxes ≡ (rest_core core seat).outboxes
    → IsWithout core seat rest new
without core new seat front rest is same =
    let within : seat.slot.0 < length core.outboxes = slice_get_within core.outboxes seat.slot.0 (front ∷ rest) (box_there core.outboxes seat.slot.0 front rest is) in
    record {
      left = ap (λ (boxes : List (List Parcel)). slice_index_or boxes seat.slot.0 []) same
          ∙ changed_same core.outboxes seat.slot.0 (λ parcels. drop 1 parcels) [] within
          ∙ ap (λ (box : List Parcel). drop 1 box) is;
      others = λ slot other.
          ap (λ (boxes : List (List Parcel)). slice_index_or boxes slot []) same
          ∙ changed_other core.outboxes seat.slot.0 slot (λ parcels. drop 1 parcels) [] other;
    }

-- the core after a drain that chose so
abbrev drained : CoreState → Seat → Bool → CoreState
drained core seat own = record (cond own (rest_core core seat) (with_stale (rest_core core seat))) { line = up core.line }

abbrev told_by : ℕ → Parcel → Bool → List (List (List ℕ))
told_by c front own = cond own (wire_words c (carried front).frame) (codes "stale" ∷ decimal c ∷ []) ∷ []

tells_own : (core : CoreState) (c : ℕ) (seat : Seat) (front : Parcel) (rest : List Parcel) (own : Bool) → own ≡ true → outbox_at core seat.slot.0 ≡ front ∷ rest
    → lines core (Drain c) ≡ told_by c front own → Tells core c seat front rest (drained core seat own)
tells_own core c seat front rest true e is told = record { without = without core (drained core seat true) seat front rest is refl; counted = refl; told = told }
tells_own core c seat front rest false e is told = cc

drops_other : (core : CoreState) (c : ℕ) (seat : Seat) (front : Parcel) (rest : List Parcel) (own : Bool) → own ≡ false → outbox_at core seat.slot.0 ≡ front ∷ rest
    → lines core (Drain c) ≡ told_by c front own → Drops core c seat rest (drained core seat own)
drops_other core c seat front rest true e is told = cc
drops_other core c seat front rest false e is told = record { without = without core (drained core seat false) seat front rest is refl; counted = refl; told = told }

drains_box : (core : CoreState) (c : ℕ) (seat : Seat) (box : List Parcel) → outbox_at core seat.slot.0 ≡ box
    → lines core (Drain c) ≡ delivery.line c seat (option_map carried (slice_get box 0)) ∷ []
    → Drains core c seat box (record (takes copy_queues core seat (option_map carried (slice_get box 0))) { line = up core.line })
drains_box core c seat [] is told = record { outboxes = refl; counted = refl; told = told }
drains_box core c seat (front ∷ rest) is told = (
  λ same. tells_own core c seat front rest (is_for front.to seat) (eq-eqb front.to.0 seat.session.0 same) is told,
  λ other. drops_other core c seat front rest (is_for front.to seat) (ne_eqb front.to.0 seat.session.0 other) is told,
)

seat_there : (o : Option Seat) → is_none o ≡ false → (seat : Seat) × (o ≡ Some seat)
seat_there None h = cc
seat_there (Some seat) h = (seat, refl)

-- the core after a drain of this seat, and its lines
abbrev drain_by : CoreState → Option Seat → CoreState
drain_by core seat = record (does_from copy_queues core seat) { line = up core.line }

pub drains_tell : (core : CoreState) (c : ℕ) → illegal core (Drain c) ≡ None
    → (seat : Seat) × ((connection_at core c).seat ≡ Some seat) × Drains core c seat (outbox_at core seat.slot.0) (does core (Drain c))
drains_tell core c legal =
    let first = none_stands (not (is_opened core c)) _ _ legal in
    let second = none_stands (is_some (connection_at core c).closed) _ _ first.1 in
    let third = none_stands (is_none (connection_at core c).seat) _ _ second.1 in
    let there = seat_there (connection_at core c).seat third.0 in
    let seat : Seat = there.0 in
    let box : List Parcel = outbox_at core seat.slot.0 in
    let told : lines core (Drain c) ≡ delivery.line c seat (option_map carried (slice_get box 0)) ∷ [] =
    ap (λ (o : Option Seat). delivery.line_from copy_queues core c o ∷ []) there.1 in
    let drained_so : Drains core c seat box (drain_by core (Some seat)) = drains_box core c seat box refl told in
    (seat, there.1, subst (λ (o : Option Seat). Drains core c seat box (drain_by core o)) (sym there.1) drained_so)

-- ---- what is counted

abbrev stale_in : Totals → ℕ
stale_in totals = totals.stale

kept : (core new : CoreState) → new.totals.stale ≡ core.totals.stale → core.totals.stale ≤ 2 ^ 64 - 1 → new.totals.stale ≡ min (core.totals.stale + 0) (2 ^ 64 - 1)
kept core new same low = counts_none core.totals.stale new.totals.stale same low

still : (core new : CoreState) → new.totals ≡ core.totals → core.totals.stale ≤ 2 ^ 64 - 1 → new.totals.stale ≡ min (core.totals.stale + 0) (2 ^ 64 - 1)
still core new same low = kept core new (ap stale_in same) low

cond_stale : (own : Bool) (session : SessionId) (old : ℕ) (x y : CoreState) → x.totals.stale ≡ min (old + 0) (2 ^ 64 - 1) → y.totals.stale ≡ min (old + 1) (2 ^ 64 - 1)
    → (cond own x y).totals.stale ≡ min (old + length (cond (not own) (session ∷ []) [])) (2 ^ 64 - 1)
cond_stale true session old x y hx hy = hx
cond_stale false session old x y hx hy = hy

abbrev stranger_in : Seat → List SessionId → List SessionId
stranger_in seat sessions = filter (λ (session : SessionId). not (session.0 == seat.session.0)) (take 1 sessions)

copies_stale : (core : CoreState) (seat : Seat) (box : List Parcel) → core.totals.stale ≤ 2 ^ 64 - 1
    → (takes copy_queues core seat (option_map carried (slice_get box 0))).totals.stale
    ≡ min (core.totals.stale + length (stranger_in seat (map (λ (parcel : Parcel). parcel.to) box))) (2 ^ 64 - 1)
copies_stale core seat [] low = kept core core refl low
copies_stale core seat (front ∷ rest) low =
    cond_stale (is_for front.to seat) front.to core.totals.stale (rest_core core seat) (with_stale (rest_core core seat)) (kept core core refl low) refl

drain_stale : (core : CoreState) (seat : Option Seat) → core.totals.stale ≤ 2 ^ 64 - 1
    → (does_from copy_queues core seat).totals.stale ≡ min (core.totals.stale + length (strangers seat (copies_for core))) (2 ^ 64 - 1)
drain_stale core None low = kept core core refl low
drain_stale core (Some seat) low = copies_stale core seat (outbox_at core seat.slot.0) low

abbrev rest_posts : CoreState → Seat → CoreState
rest_posts core seat = at_posts seat.slot.0 (λ posts. drop 1 posts) core

notices_stale : (core : CoreState) (seat : Seat) (box : List Notice) → core.totals.stale ≤ 2 ^ 64 - 1
    → (takes notice_queues core seat (option_map framed (slice_get box 0))).totals.stale
    ≡ min (core.totals.stale + length (stranger_in seat (map (λ (notice : Notice). notice.to) box))) (2 ^ 64 - 1)
notices_stale core seat [] low = kept core core refl low
notices_stale core seat (front ∷ rest) low =
    cond_stale (is_for front.to seat) front.to core.totals.stale (rest_posts core seat) (with_stale (rest_posts core seat)) (kept core core refl low) refl

collect_stale : (core : CoreState) (seat : Option Seat) → core.totals.stale ≤ 2 ^ 64 - 1
    → (does_from notice_queues core seat).totals.stale ≡ min (core.totals.stale + length (strangers seat (notices_for core))) (2 ^ 64 - 1)
collect_stale core None low = kept core core refl low
collect_stale core (Some seat) low = notices_stale core seat (posts_at core seat.slot.0) low

cond_kept : (b : Bool) (old : ℕ) (x y : CoreState) → x.totals.stale ≡ old → y.totals.stale ≡ old → (cond b x y).totals.stale ≡ old
cond_kept true old x y hx hy = hx
cond_kept false old x y hx hy = hy

puts_stale : (core : CoreState) (next : Option Outgoing) → (offer_step.puts core next).totals.stale ≡ core.totals.stale
puts_stale core None = refl
puts_stale core (Some next) = cond_kept (offer_step.has_room core next.slot.0) core.totals.stale _ _ refl refl

stale_each : CountsEach stale_in dropped
stale_each core (Open c w) low = kept core core refl low
stale_each core (Frame c bytes) low = still core (does core (Frame c bytes)) (frame_still core c (frame_version core c bytes) (frame_action core c bytes)).0 low
stale_each core (steps.Edit c) low = still core (does core (steps.Edit c)) (decided_still core c (edit_step.decision core c)).0 low
stale_each core Publish low = kept core core refl low
stale_each core (Tell c revision) low = still core (does core (Tell c revision)) (notes_still (told_core core c) (connection_at core c).worker revision).0 low
stale_each core (Look w revision) low = kept core core refl low
stale_each core (Offer w) low = kept core (does core (Offer w)) (puts_stale (taken_core core w) (offer_step.next_copy core w)) low
stale_each core (Drain c) low = drain_stale core (connection_at core c).seat low
stale_each core Post low = still core (does core Post) (posted_still core).0 low
stale_each core (Collect c) low = collect_stale core (connection_at core c).seat low
stale_each core (Close c cause) low = kept core core refl low
stale_each core End low = kept core core refl low

pub stale_counted : (version : Version) (opening : StateValue) (workers : ℕ) (run : List Step)
    → (ran (start version opening workers) run).totals.stale ≡ min (length (gathered dropped (start version opening workers) run)) (2 ^ 64 - 1)
stale_counted version opening workers run =
    counts_first (ran (start version opening workers) run).totals.stale (length (gathered dropped (start version opening workers) run))
    (counts_all stale_in dropped stale_each (start version opening workers) run (omega arith))
