-- What is sent to a session leaves the outbox of its slot, in order, or waits there.
use Rattle.mum_core.proofs.Common.{◌≡◌, ℕ, ◌<◌, Bool, true, false, cond, List, [], ◌∷◌, ◌++◌, length, map, take, drop, Option, Some, None, refl, sym, ap, subst, ◌∙◌, inl, inr, append_assoc, filter, slice_get, slice_index_or, ◌==◌, ◌&&◌, AllByRecursion, option_map, cases_eq, eqb-true, append-nil, map-append, length-replicate, filter-append, none-some, SessionId, Slot, User, IsInSlot, IsProper, StateValue, shown, Seat, Parcel, SLOTS, Outgoing, Version, Step, Open, Frame, Publish, Tell, Look, Offer, Post, Drain, Collect, Close, End, at_outbox, CoreState, start, connection_at, worker_at, outbox_at, state_at, up, IsRun, front, gathered, ran, removed, sent, changed_at, does, frame_action, frame_version, does_from, takes, carried, copy_queues}
use Rattle.mum_users.specs.Sessions.{session_of}
use Rattle.mum_core.proofs.{Delivered.delivered, Changed.changed-by, Changed.changed_same, Changed.changed_other, Copies.AllCopies, Copies.AllLooked, Copies.all-dropped, Copies.all-pushed, Copies.boxes_step, Copies.copies_step, Copies.decided_still, Copies.each_looked, Copies.empty_box, Copies.frame_still, Copies.idle_copies, Copies.looks_before, Copies.notes_still, Copies.put_core, Copies.takes_boxes, Copies.posted_still, Copies.collect_boxes, Fitted.IsLawful, Fitted.lawful_all, Fitted.lawful_start, Fitted.one_slot, Fitted.state_proper, Present.slot_below, RunLaws.taken_core, RunLaws.told_core}
use Rattle.mum_record.specs.declared.step.Step.TheVariants as steps
use Rattle.mum_core.specs.steps.Edit as edit_step
use Rattle.mum_core.specs.steps.Offer as offer_step

-- ---- copies for a session are in its slot alone

abbrev FitsCopy : ℕ → ℕ → Outgoing → Type 0
FitsCopy n slot copy = copy.to.0 ≡ n → copy.slot.0 ≡ slot

abbrev FitsParcel : ℕ → ℕ → ℕ → Parcel → Type 0
FitsParcel n slot at parcel = parcel.to.0 ≡ n → at ≡ slot

abbrev FitsBox : ℕ → ℕ → ℕ → List Parcel → Type 0
FitsBox n slot at box = AllByRecursion (FitsParcel n slot at) box

pub record Fits (n slot : ℕ) (core : CoreState) : Type 0 where
  pub boxes : length core.outboxes ≡ SLOTS
  pub copies : AllCopies (FitsCopy n slot) core
  pub parcels : (at : ℕ) → FitsBox n slot at (outbox_at core at)

abbrev Boxes : ℕ → ℕ → CoreState → Type 0
Boxes n slot core = (at : ℕ) → FitsBox n slot at (outbox_at core at)

boxes_by : (n slot : ℕ) (old new : CoreState) → new.outboxes ≡ old.outboxes → Boxes n slot old → Boxes n slot new
boxes_by n slot old new same fits at = rw same (fits at)

cond_boxes : (n slot : ℕ) (b : Bool) (x y : CoreState) → Boxes n slot x → Boxes n slot y → Boxes n slot (cond b x y)
cond_boxes n slot true x y hx hy = hx
cond_boxes n slot false x y hx hy = hy

put_boxes : (n slot : ℕ) (core : CoreState) (next : Outgoing) → FitsCopy n slot next → Boxes n slot core → Boxes n slot (put_core core next)
put_boxes n slot core next own fits at =
    let parcel : Parcel = record { to = next.to; bytes = next.bytes } in
    changed-by (λ old new. FitsBox n slot at old → FitsBox n slot at new) (λ x all. all) core.outboxes next.slot.0 at (λ parcels. parcels ++ parcel ∷ []) []
    (λ x there here all. all-pushed (FitsParcel n slot at) x parcel all (λ to. here ∙ own to)) (fits at)

puts_boxes : (n slot : ℕ) (core : CoreState) (next : Option Outgoing) → ((copy : Outgoing) → next ≡ Some copy → FitsCopy n slot copy) → Boxes n slot core → Boxes n slot (offer_step.puts core next)
puts_boxes n slot core None own fits = fits
puts_boxes n slot core (Some next) own fits = cond_boxes n slot (offer_step.has_room core next.slot.0) _ _ (put_boxes n slot core next (own next refl) fits) fits

rest_boxes : (n slot : ℕ) (core : CoreState) (k : ℕ) → Boxes n slot core → Boxes n slot (at_outbox k (λ parcels. drop 1 parcels) core)
rest_boxes n slot core k fits at =
    changed-by (λ old new. FitsBox n slot at old → FitsBox n slot at new) (λ x all. all) core.outboxes k at (λ parcels. drop 1 parcels) []
    (λ x there here all. all-dropped (FitsParcel n slot at) x all) (fits at)

drain_fits : (n slot : ℕ) (core : CoreState) (seat : Option Seat) → Boxes n slot core → Boxes n slot (does_from copy_queues core seat)
drain_fits n slot core seat fits =
    let rest : (k : ℕ) → Boxes n slot (copy_queues.without k core) = λ k. rest_boxes n slot core k fits in
    delivered (Boxes n slot) copy_queues core seat fits rest rest

first_fits : (n slot : ℕ) (copies : List Outgoing) (copy : Outgoing) → AllByRecursion (FitsCopy n slot) copies → slice_get copies 0 ≡ Some copy → FitsCopy n slot copy
first_fits n slot [] copy all e = cc
first_fits n slot (one ∷ copies) copy all e = let same : one ≡ copy = cc in rw same at all.0

parcels_step : (n slot : ℕ) (core : CoreState) (step : Step) → AllCopies (FitsCopy n slot) core → Boxes n slot core → Boxes n slot (does core step)
parcels_step n slot core (Open c w) copies fits = fits
parcels_step n slot core (Frame c bytes) copies fits = boxes_by n slot core (does core (Frame c bytes)) (frame_still core c (frame_version core c bytes) (frame_action core c bytes)).1 fits
parcels_step n slot core (steps.Edit c) copies fits = boxes_by n slot core (does core (steps.Edit c)) (decided_still core c (edit_step.decision core c)).1 fits
parcels_step n slot core Publish copies fits = fits
parcels_step n slot core (Tell c revision) copies fits = boxes_by n slot core (does core (Tell c revision)) (notes_still (told_core core c) (connection_at core c).worker revision).1 fits
parcels_step n slot core (Look w revision) copies fits = fits
parcels_step n slot core (Offer w) copies fits =
    puts_boxes n slot (taken_core core w) (offer_step.next_copy core w) (λ copy e. first_fits n slot (worker_at core w).copies copy (copies w) e) fits
parcels_step n slot core (Drain c) copies fits = drain_fits n slot core (connection_at core c).seat fits
parcels_step n slot core Post copies fits = boxes_by n slot core (does core Post) (posted_still core).1 fits
parcels_step n slot core (Collect c) copies fits = boxes_by n slot core (does core (Collect c)) (collect_boxes core (connection_at core c).seat) fits
parcels_step n slot core (Close c cause) copies fits = fits
parcels_step n slot core End copies fits = fits

pub fits_step : (n slot : ℕ) (core : CoreState) (step : Step) → ((revision : ℕ) → AllLooked (FitsCopy n slot) (state_at core revision)) → Fits n slot core → Fits n slot (does core step)
fits_step n slot core step looks fits =
    record {
      boxes = boxes_step core step ∙ fits.boxes;
      copies = copies_step (FitsCopy n slot) core step looks fits.copies;
      parcels = parcels_step n slot core step fits.copies fits.parcels;
    }

pub fits_start : (n slot : ℕ) (version : Version) (opening : StateValue) (workers : ℕ) → Fits n slot (start version opening workers)
fits_start n slot version opening workers =
    record {
      boxes = let none : List Parcel = [] in length-replicate SLOTS none;
      copies = idle_copies (FitsCopy n slot) workers;
      parcels = λ at. rw (empty_box SLOTS at) tt;
    }

-- where the session is in the slot in one state of the core, the copies of all looks fit
pub looks_fit : (core : CoreState) (revision : ℕ) (session : SessionId) (slot : Slot) → IsLawful core → IsInSlot (state_at core revision) session slot
    → (at : ℕ) → AllLooked (FitsCopy session.0 slot.0) (state_at core at)
looks_fit core revision session slot lawful sits at =
    each_looked (FitsCopy session.0 slot.0) (state_at core at)
    (λ held one user found to.
    let number : one.0 ≡ session = ap (λ n. record { 0 = n }) to in
    let there : IsInSlot (state_at core at) session user.slot =
    ap (λ (id : SessionId). option_map (λ user. user.slot) (session_of (state_at core at).roster id)) (sym number) ∙ ap (option_map (λ (one : User). one.slot)) found in
    ap (λ (s : Slot). s.0) (sym (one_slot core revision at session slot user.slot lawful sits there)))

-- ---- one step

abbrev mine : ℕ → List Parcel → List Parcel
mine n box = filter (λ parcel. parcel.to.0 == n) box

abbrev bytes_of : List Parcel → List (List ℕ)
bytes_of parcels = map (λ parcel. parcel.bytes) parcels

abbrev copies_of : List (ℕ × Outgoing) → List (List ℕ)
copies_of offers = map (λ offer. offer.1.bytes) offers

abbrev Conserved : ℕ → ℕ → CoreState → Step → Type 0
Conserved n slot core step =
    bytes_of (mine n (outbox_at core slot)) ++ copies_of (sent n core step) ≡ bytes_of (removed n core step) ++ bytes_of (mine n (outbox_at (does core step) slot))

quiet : (n slot : ℕ) (old new : CoreState) → new.outboxes ≡ old.outboxes → bytes_of (mine n (outbox_at old slot)) ++ [] ≡ bytes_of (mine n (outbox_at new slot))
quiet n slot old new same = append-nil (bytes_of (mine n (outbox_at old slot))) ∙ ap (λ (boxes : List (List Parcel)). bytes_of (mine n (slice_index_or boxes slot []))) (sym same)

-- one copy more at the end
put_mine : (n : ℕ) (box : List Parcel) (parcel : Parcel) (b : Bool) → (parcel.to.0 == n) ≡ b
    → bytes_of (mine n (box ++ parcel ∷ [])) ≡ bytes_of (mine n box) ++ cond b (parcel.bytes ∷ []) []
put_mine n box parcel b e =
    ap bytes_of (filter-append (λ (one : Parcel). one.to.0 == n) box (parcel ∷ []))
    ∙ map-append (λ (one : Parcel). one.bytes) (mine n box) (mine n (parcel ∷ []))
    ∙ ap (λ (xs : List (List ℕ)). bytes_of (mine n box) ++ xs) (by_here b e)
  where
    by_here : (b : Bool) → (parcel.to.0 == n) ≡ b → bytes_of (mine n (parcel ∷ [])) ≡ cond b (parcel.bytes ∷ []) []
    by_here true here = ap (λ (own : Bool). bytes_of (cond own (parcel ∷ []) [])) here
    by_here false here = ap (λ (own : Bool). bytes_of (cond own (parcel ∷ []) [])) here

put_elsewhere : (n slot : ℕ) (core : CoreState) (copy : Outgoing) (b : Bool) → (slot ≡ copy.slot.0 → ⊥) → FitsCopy n slot copy → (copy.to.0 == n) ≡ b
    → bytes_of (mine n (outbox_at core slot)) ++ cond b (copy.bytes ∷ []) [] ≡ bytes_of (mine n (outbox_at (put_core core copy) slot))
put_elsewhere n slot core copy true other fits e = absurd (other (sym (fits (eqb-true copy.to.0 n e))))
put_elsewhere n slot core copy false other fits e =
    append-nil (bytes_of (mine n (outbox_at core slot)))
    ∙ ap (λ (box : List Parcel). bytes_of (mine n box)) (sym (changed_other core.outboxes copy.slot.0 slot (λ parcels. parcels ++ record { to = copy.to; bytes = copy.bytes } ∷ []) [] other))

-- the outbox after an offer, where the copy is for the session or not
put_box : (n slot : ℕ) (core : CoreState) (copy : Outgoing) (b : Bool) → slot < length core.outboxes → FitsCopy n slot copy → (copy.to.0 == n) ≡ b
    → bytes_of (mine n (outbox_at core slot)) ++ cond b (copy.bytes ∷ []) [] ≡ bytes_of (mine n (outbox_at (put_core core copy) slot))
put_box n slot core copy b within fits e = elim (cases_eq slot copy.slot.0) [
  | inl here ↦
      let parcel : Parcel = record { to = copy.to; bytes = copy.bytes } in
      let there : outbox_at (put_core core copy) slot ≡ outbox_at core slot ++ parcel ∷ [] =
      ap (λ (k : ℕ). slice_index_or (changed_at k (λ parcels. parcels ++ parcel ∷ []) core.outboxes) slot []) (sym here)
      ∙ changed_same core.outboxes slot (λ parcels. parcels ++ parcel ∷ []) [] within in
      sym (put_mine n (outbox_at core slot) parcel b e) ∙ ap (λ (box : List Parcel). bytes_of (mine n box)) (sym there)
  | inr other ↦ put_elsewhere n slot core copy b other fits e
]

offered : (n slot : ℕ) (core : CoreState) (w : ℕ) (copies : List Outgoing) → slot < length core.outboxes → AllByRecursion (FitsCopy n slot) copies
    → bytes_of (mine n (outbox_at core slot)) ++ copies_of (map (λ copy. (w, copy)) (filter (λ copy. (copy.to.0 == n) && offer_step.has_room core copy.slot.0) (take 1 copies)))
    ≡ bytes_of (mine n (outbox_at (offer_step.puts (taken_core core w) (slice_get copies 0)) slot))
offered n slot core w [] within fits = append-nil (bytes_of (mine n (outbox_at core slot)))
offered n slot core w (copy ∷ copies) within fits = from (offer_step.has_room core copy.slot.0) (copy.to.0 == n) refl
  where
    from : (room here : Bool) → (copy.to.0 == n) ≡ here
        → bytes_of (mine n (outbox_at core slot)) ++ copies_of (map (λ copy. (w, copy)) (cond (here && room) (copy ∷ []) []))
        ≡ bytes_of (mine n (outbox_at (cond room (record (put_core (taken_core core w) copy) { totals = record core.totals { copies = up core.totals.copies } })
        (record (taken_core core w) { totals = record core.totals { full = up core.totals.full } })) slot))
    from false true e = append-nil (bytes_of (mine n (outbox_at core slot)))
    from false false e = append-nil (bytes_of (mine n (outbox_at core slot)))
    from true true e = put_box n slot core copy true within fits.0 e
    from true false e = put_box n slot core copy false within fits.0 e

-- the oldest copy of a seat's outbox goes
front_mine : (n : ℕ) (front : Parcel) (rest : List Parcel) (b : Bool) → bytes_of (cond b (front ∷ mine n rest) (mine n rest)) ≡ bytes_of (cond b (front ∷ []) []) ++ bytes_of (mine n rest)
front_mine n front rest true = refl
front_mine n front rest false = refl

none_mine : (n slot at : ℕ) (front : Parcel) → FitsParcel n slot at front → (slot ≡ at → ⊥) → (b : Bool) → (front.to.0 == n) ≡ b → cond b (front ∷ []) [] ≡ []
none_mine n slot at front fits other true e = absurd (other (sym (fits (eqb-true front.to.0 n e))))
none_mine n slot at front fits other false e = refl

drained_front : (n slot : ℕ) (core : CoreState) (seat : Seat) (front : Parcel) (rest : List Parcel) → slot < length core.outboxes → outbox_at core seat.slot.0 ≡ front ∷ rest
    → FitsParcel n slot seat.slot.0 front
    → bytes_of (mine n (outbox_at core slot)) ≡ bytes_of (mine n (front ∷ [])) ++ bytes_of (mine n (outbox_at (takes copy_queues core seat (Some (carried front))) slot))
drained_front n slot core seat front rest within e fits =
    let boxes = takes_boxes core seat front in
    let after : List Parcel = outbox_at (takes copy_queues core seat (Some (carried front))) slot in
    elim (cases_eq slot seat.slot.0) [
      | inl here ↦
          let own : outbox_at core slot ≡ front ∷ rest = ap (λ (k : ℕ). outbox_at core k) here ∙ e in
          let left : after ≡ rest =
          ap (λ (bs : List (List Parcel)). slice_index_or bs slot []) boxes
          ∙ (ap (λ (k : ℕ). slice_index_or (changed_at k (λ parcels. drop 1 parcels) core.outboxes) slot []) (sym here)
          ∙ (changed_same core.outboxes slot (λ parcels. drop 1 parcels) [] within ∙ ap (λ (box : List Parcel). drop 1 box) own)) in
          ap (λ (box : List Parcel). bytes_of (mine n box)) own
          ∙ (front_mine n front rest (front.to.0 == n) ∙ ap (λ (box : List Parcel). bytes_of (mine n (front ∷ [])) ++ bytes_of (mine n box)) (sym left))
      | inr other ↦
          let none : mine n (front ∷ []) ≡ [] = none_mine n slot seat.slot.0 front fits other (front.to.0 == n) refl in
          let same : after ≡ outbox_at core slot =
          ap (λ (bs : List (List Parcel)). slice_index_or bs slot []) boxes ∙ changed_other core.outboxes seat.slot.0 slot (λ parcels. drop 1 parcels) [] other in
          ap (λ (box : List Parcel). bytes_of (mine n box)) (sym same) ∙ ap (λ (xs : List Parcel). bytes_of xs ++ bytes_of (mine n after)) (sym none)
    ]

drained : (n slot : ℕ) (core : CoreState) (seat : Seat) → slot < length core.outboxes → (box : List Parcel) → outbox_at core seat.slot.0 ≡ box → FitsBox n slot seat.slot.0 box
    → bytes_of (mine n (outbox_at core slot)) ≡ bytes_of (mine n (take 1 box)) ++ bytes_of (mine n (outbox_at (takes copy_queues core seat (option_map carried (slice_get box 0))) slot))
drained n slot core seat within [] e fits = refl
drained n slot core seat within (front ∷ rest) e fits = drained_front n slot core seat front rest within e fits.0

drained_from : (n slot : ℕ) (core : CoreState) (seat : Option Seat) → slot < length core.outboxes → Boxes n slot core
    → bytes_of (mine n (outbox_at core slot)) ++ [] ≡ bytes_of (mine n (front core seat)) ++ bytes_of (mine n (outbox_at (does_from copy_queues core seat) slot))
drained_from n slot core None within fits = append-nil (bytes_of (mine n (outbox_at core slot)))
drained_from n slot core (Some seat) within fits =
    append-nil (bytes_of (mine n (outbox_at core slot))) ∙ drained n slot core seat within (outbox_at core seat.slot.0) refl (fits seat.slot.0)

conserved : (n slot : ℕ) (core : CoreState) (step : Step) → slot < SLOTS → Fits n slot core → Conserved n slot core step
conserved n slot core (Open c w) within fits = append-nil (bytes_of (mine n (outbox_at core slot)))
conserved n slot core (Frame c bytes) within fits = quiet n slot core (does core (Frame c bytes)) (frame_still core c (frame_version core c bytes) (frame_action core c bytes)).1
conserved n slot core (steps.Edit c) within fits = quiet n slot core (does core (steps.Edit c)) (decided_still core c (edit_step.decision core c)).1
conserved n slot core Publish within fits = append-nil (bytes_of (mine n (outbox_at core slot)))
conserved n slot core (Tell c revision) within fits = quiet n slot core (does core (Tell c revision)) (notes_still (told_core core c) (connection_at core c).worker revision).1
conserved n slot core (Look w revision) within fits = append-nil (bytes_of (mine n (outbox_at core slot)))
conserved n slot core (Offer w) within fits =
    let there : slot < length core.outboxes = rw fits.boxes within in
    offered n slot core w (worker_at core w).copies there (fits.copies w)
conserved n slot core (Drain c) within fits =
    let there : slot < length core.outboxes = rw fits.boxes within in
    drained_from n slot core (connection_at core c).seat there fits.parcels
conserved n slot core Post within fits = quiet n slot core (does core Post) (posted_still core).1
conserved n slot core (Collect c) within fits = quiet n slot core (does core (Collect c)) (collect_boxes core (connection_at core c).seat)
conserved n slot core (Close c cause) within fits = append-nil (bytes_of (mine n (outbox_at core slot)))
conserved n slot core End within fits = append-nil (bytes_of (mine n (outbox_at core slot)))

-- ---- all steps

conserved_all : (n slot : ℕ) (core : CoreState) (run : List Step) → slot < SLOTS → ((revision : ℕ) → AllLooked (FitsCopy n slot) (state_at (ran core run) revision)) → Fits n slot core
    → bytes_of (mine n (outbox_at core slot)) ++ copies_of (gathered (sent n) core run) ≡ bytes_of (gathered (removed n) core run) ++ bytes_of (mine n (outbox_at (ran core run) slot))
conserved_all n slot core [] within looks fits = append-nil (bytes_of (mine n (outbox_at core slot)))
conserved_all n slot core (step ∷ run) within looks fits =
    let first = conserved n slot core step within fits in
    let later = conserved_all n slot (does core step) run within looks (fits_step n slot core step (looks_before (FitsCopy n slot) core (step ∷ run) looks) fits) in
    let old : List (List ℕ) = bytes_of (mine n (outbox_at core slot)) in
    let put : List (ℕ × Outgoing) = sent n core step in
    let puts : List (ℕ × Outgoing) = gathered (sent n) (does core step) run in
    let take : List Parcel = removed n core step in
    let takes : List Parcel = gathered (removed n) (does core step) run in
    let between : List (List ℕ) = bytes_of (mine n (outbox_at (does core step) slot)) in
    let new : List (List ℕ) = bytes_of (mine n (outbox_at (ran (does core step) run) slot)) in
    ap (λ (xs : List (List ℕ)). old ++ xs) (map-append (λ (offer : ℕ × Outgoing). offer.1.bytes) put puts)
    ∙ (sym (append_assoc old (copies_of put) (copies_of puts))
    ∙ (ap (λ (xs : List (List ℕ)). xs ++ copies_of puts) first
    ∙ (append_assoc (bytes_of take) between (copies_of puts)
    ∙ (ap (λ (xs : List (List ℕ)). bytes_of take ++ xs) later
    ∙ (sym (append_assoc (bytes_of take) (bytes_of takes) new)
    ∙ ap (λ (xs : List (List ℕ)). xs ++ new) (sym (map-append (λ (parcel : Parcel). parcel.bytes) take takes)))))))

pub sent_is_conserved : (version : Version) (opening : StateValue) (workers revision : ℕ) (session : SessionId) (slot : Slot) (run : List Step) → IsProper opening → IsRun (start version opening workers) run
    → IsInSlot (state_at (ran (start version opening workers) run) revision) session slot
    → map (λ offer. offer.1.bytes) (gathered (sent session.0) (start version opening workers) run)
    ≡ map (λ parcel. parcel.bytes) (gathered (removed session.0) (start version opening workers) run ++ filter (λ parcel. parcel.to.0 == session.0) (outbox_at (ran (start version opening workers) run) slot.0))
sent_is_conserved version opening workers revision session slot run proper is sits =
    let core : CoreState = ran (start version opening workers) run in
    let lawful = lawful_all (start version opening workers) run (lawful_start version opening workers proper) in
    let (user, found, here) = shown (λ (user : User). user.slot) (session_of (state_at core revision).roster session) slot sits in
    let within : slot.0 < SLOTS = subst (λ (s : Slot). s.0 < SLOTS) here (slot_below (state_at core revision) session user (state_proper core revision lawful) found) in
    let all = conserved_all session.0 slot.0 (start version opening workers) run within (looks_fit core revision session slot lawful sits) (fits_start session.0 slot.0 version opening workers) in
    let none : bytes_of (mine session.0 (outbox_at (start version opening workers) slot.0)) ≡ [] = ap (λ (box : List Parcel). bytes_of (mine session.0 box)) (empty_box SLOTS slot.0) in
    ap (λ (xs : List (List ℕ)). xs ++ copies_of (gathered (sent session.0) (start version opening workers) run)) (sym none)
    ∙ (all ∙ sym (map-append (λ (parcel : Parcel). parcel.bytes) (gathered (removed session.0) (start version opening workers) run) (mine session.0 (outbox_at core slot.0))))

-- ---- none is sent to who was never there

abbrev IsForOthers : ℕ → Outgoing → Type 0
IsForOthers n copy = copy.to.0 ≡ n → ⊥

none_offered : (n w : ℕ) (core : CoreState) (copies : List Outgoing) → AllByRecursion (IsForOthers n) copies
    → map {B = ℕ × Outgoing} (λ copy. (w, copy)) (filter (λ copy. (copy.to.0 == n) && offer_step.has_room core copy.slot.0) (take 1 copies)) ≡ []
none_offered n w core [] others = refl
none_offered n w core (copy ∷ copies) others = from (copy.to.0 == n) refl
  where
    from : (here : Bool) → (copy.to.0 == n) ≡ here → map {B = ℕ × Outgoing} (λ copy. (w, copy)) (cond (here && offer_step.has_room core copy.slot.0) (copy ∷ []) []) ≡ []
    from true e = absurd (others.0 (eqb-true copy.to.0 n e))
    from false e = refl

none_sent : (n : ℕ) (core : CoreState) (step : Step) → AllCopies (IsForOthers n) core → sent n core step ≡ []
none_sent n core (Open c w) others = refl
none_sent n core (Frame c bytes) others = refl
none_sent n core (steps.Edit c) others = refl
none_sent n core Publish others = refl
none_sent n core (Tell c revision) others = refl
none_sent n core (Look w revision) others = refl
none_sent n core (Offer w) others = none_offered n w core (worker_at core w).copies (others w)
none_sent n core (Drain c) others = refl
none_sent n core Post others = refl
none_sent n core (Collect c) others = refl
none_sent n core (Close c cause) others = refl
none_sent n core End others = refl

none_sent_on : (n : ℕ) (core : CoreState) (run : List Step) → ((revision : ℕ) → AllLooked (IsForOthers n) (state_at (ran core run) revision)) → AllCopies (IsForOthers n) core
    → gathered (sent n) core run ≡ []
none_sent_on n core [] looks others = refl
none_sent_on n core (step ∷ run) looks others =
    let first = none_sent n core step others in
    let later = none_sent_on n (does core step) run looks (copies_step (IsForOthers n) core step (looks_before (IsForOthers n) core (step ∷ run) looks) others) in
    rw (first, later) refl

pub none_sent_to_absent : (version : Version) (opening : StateValue) (workers : ℕ) (session : SessionId) (run : List Step) → IsProper opening → IsRun (start version opening workers) run
    → ((revision : ℕ) → session_of (state_at (ran (start version opening workers) run) revision).roster session ≡ None)
    → gathered (sent session.0) (start version opening workers) run ≡ []
none_sent_to_absent version opening workers session run proper is absent =
    none_sent_on session.0 (start version opening workers) run
    (λ revision. each_looked (IsForOthers session.0) (state_at (ran (start version opening workers) run) revision)
    (λ held one user found to.
    let number : one.0 ≡ session = ap (λ n. record { 0 = n }) to in
    none-some user (sym (absent revision) ∙ ap (session_of (state_at (ran (start version opening workers) run) revision).roster) (sym number) ∙ found)))
    (idle_copies (IsForOthers session.0) workers)
