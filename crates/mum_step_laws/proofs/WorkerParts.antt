-- What a route of a worker makes of it is what the steps of the core make of a worker.
use Rattle.mum_step_laws.proofs.Common.{◌≡◌, ◌∙◌, ℕ, ◌<◌, ◌≤◌, Bool, true, false, cond, List, [], ◌∷◌, ◌++◌, length, map, take, max, Option, Some, None, refl, sym, ap, subst, arith, nat_lt, drop, is_none, not, slice_get, slice_index_or, lt-ltb, nat_tests, map-append, IsPrefix, SessionId, changed_same, puts_workers, CoreState, at_worker, outbox_at, state_at, worker_at, does, HeldPacket, WorkerState, idle, least_look, Parcel, Outgoing, Offers, BoxFacts, VoiceFacts, Offered, Sent, Full, PassFacts, Look, Offer, hearers_at, RouterFacts, Delivery, is_sent, parcel_for, led_to, StateValue, Edit, Parts, LooksAreLooks, OffersAreOffers, StandsAt, copies_for, held_packet, parcel_of_core}
use Rattle.mum_core.specs.steps.Look as look_step
use Rattle.mum_core.specs.steps.Offer as offer_step

-- ---- cases

-- a case that does not apply leaves it to the others
pub passes : {A : Type 0} (b : Bool) (x : A) (rest : Option A) → b ≡ false → rest ≡ None → cond b (Some x) rest ≡ None
passes b x rest is none = ap (λ (t : Bool). cond t (Some x) rest) is ∙ none

pub there : (w n : ℕ) → w < n → not (nat_lt w n) ≡ false
there w n within = ap not (lt-ltb w n within)

pub no_less : (m n : ℕ) → n ≤ m → nat_lt m n ≡ false
no_less m n low = grind (arith, nat_tests)

-- ---- a beginning of a list

pub take_front : {A : Type 0} (xs all : List A) → IsPrefix xs all → take (length xs) all ≡ xs
take_front [] all front = refl
take_front (x ∷ xs) [] front = absurd (cc (front.1))
take_front (x ∷ xs) (y ∷ all) front =
    let first : x ≡ y = cc (front.1) in
    let rest : xs ++ front.0 ≡ all = cc (front.1) in
    let later = take_front xs all (front.0, rest) in
    cc

pub shorter_front : {A : Type 0} (xs all : List A) → IsPrefix xs all → length xs ≤ length all
shorter_front [] all front = omega arith
shorter_front (x ∷ xs) [] front = absurd (cc (front.1))
shorter_front (x ∷ xs) (y ∷ all) front =
    let rest : xs ++ front.0 ≡ all = cc (front.1) in
    let later = shorter_front xs all (front.0, rest) in
    omega arith

map_map : {A B C : Type 0} (f : B → C) (g : A → B) (xs : List A) → map f (map g xs) ≡ map (λ x. f (g x)) xs
map_map f g [] = refl
map_map f g (x ∷ xs) = ap (λ ys. f (g x) ∷ ys) (map_map f g xs)

-- ---- a look

-- the copies that a look finds at a state are those for these deliveries, whose hearers are those of the state
pub copies_found : (state : StateValue) (speaker : SessionId) (packet : Parts) (deliveries : List Delivery)
    → map (λ delivery. delivery.hearer) deliveries ≡ hearers_at state speaker packet.target
    → look_step.copies state (Some (held_packet speaker packet)) ≡ copies_for speaker packet deliveries
copies_found state speaker packet deliveries each =
    ap (map (look_step.outgoing (held_packet speaker packet))) (sym each)
    ∙ map_map (look_step.outgoing (held_packet speaker packet)) (λ (delivery : Delivery). delivery.hearer) deliveries

-- a worker that is where a pass is may look at a list that goes on from what the pass saw and knows
pub least_below : (pass : PassFacts) (held : Option HeldPacket) (copies : List Outgoing) (worker : WorkerState) (edits : List Edit)
    → StandsAt pass held copies worker → IsPrefix pass.known edits → least_look worker ≤ length edits
least_below pass held copies worker edits stands known =
    let low = shorter_front pass.known edits known in omega (arith, low, stands.least_is)

-- what a look makes of it is where the pass is then
pub stands_looked : (pass after : PassFacts) (held : Option HeldPacket) (copies found : List Outgoing) (worker : WorkerState) (edits : List Edit)
    → StandsAt pass held copies worker → IsPrefix pass.known edits → after.seen ≡ edits → after.known ≡ edits
    → StandsAt after None found (look_step.looked (length edits) found worker)
stands_looked pass after held copies found worker edits stands known seen_is known_is =
    let low = least_below pass held copies worker edits stands known in
    let told : worker.told ≤ length edits = omega (arith, low) in record {
      seen_is = ap length (sym seen_is);
      least_is = (let most : max (length edits) worker.told ≡ length edits = omega (arith, told) in most ∙ ap length (sym known_is));
      held_is = refl;
      copies_are = refl;
    }

pub looks : LooksAreLooks
looks opening old new speaker packet edits deliveries routed at core w within published stands =
    let low = least_below old.pass (Some (held_packet speaker packet)) [] (worker_at core w) edits stands at.may.known in
    let state : state_at core (length edits) ≡ led_to opening.state edits =
    ap (led_to core.opening) (take_front edits core.accepted published.begin) ∙ ap (λ (s : StateValue). led_to s edits) published.opening_is in
    let found : look_step.copies (state_at core (length edits)) (worker_at core w).held ≡ copies_for speaker packet deliveries =
    ap (λ (s : StateValue). look_step.copies s (worker_at core w).held) state
    ∙ ap (look_step.copies (led_to opening.state edits)) stands.held_is
    ∙ copies_found (led_to opening.state edits) speaker packet deliveries at.each in
    let after : worker_at (does core (Look w (length edits))) w ≡ look_step.looked (length edits) (copies_for speaker packet deliveries) (worker_at core w) =
    changed_same core.workers w _ idle within ∙ ap (λ (xs : List Outgoing). look_step.looked (length edits) xs (worker_at core w)) found in (
      passes (not (nat_lt w (length core.workers))) _ _ (there w (length core.workers) within)
          (passes (is_none (worker_at core w).held) _ _ (ap is_none stands.held_is)
          (passes (nat_lt (length edits) (least_look (worker_at core w))) _ _ (no_less (length edits) (least_look (worker_at core w)) low)
          (passes (nat_lt core.published (length edits)) _ _ (no_less core.published (length edits) published.shown) refl))),
      subst (StandsAt new.pass None (copies_for speaker packet deliveries)) (sym after)
          (stands_looked old.pass new.pass (Some (held_packet speaker packet)) [] (copies_for speaker packet deliveries) (worker_at core w) edits stands at.may.known
          (ap (λ (r : RouterFacts). r.pass.seen) at.router) (ap (λ (r : RouterFacts). r.pass.known) at.router)),
    )

-- ---- an offer

-- what an offer makes of it is where the pass is
pub stands_left : (pass : PassFacts) (next : Outgoing) (rest : List Outgoing) (worker : WorkerState) → StandsAt pass None (next ∷ rest) worker
    → StandsAt pass None rest (offer_step.left worker)
stands_left pass next rest worker stands = record {
  seen_is = stands.seen_is;
  least_is = stands.least_is;
  held_is = stands.held_is;
  copies_are = ap (λ (xs : List Outgoing). drop 1 xs) stands.copies_are;
}

put_again : (sent : Bool) (next : Outgoing) (item : VoiceFacts) (before : List VoiceFacts) → parcel_of_core item ≡ record { to = next.to; bytes = next.bytes }
    → map parcel_of_core (cond sent (before ++ item ∷ []) before) ≡ offer_step.put sent next (map parcel_of_core before)
put_again true next item before is =
    map-append parcel_of_core before (item ∷ []) ∙ ap (λ (p : Parcel). map parcel_of_core before ++ p ∷ []) is
put_again false next item before is = refl

offered_is : (capacity : ℕ) (before later : BoxFacts VoiceFacts) (item : VoiceFacts) (answer : Offered VoiceFacts) → Offers capacity before item answer later
    → later.offered ≡ cond (is_sent answer) (before.offered ++ item ∷ []) before.offered
offered_is capacity before later item Sent offers = ap (λ (p : BoxFacts VoiceFacts). p.offered) offers
offered_is capacity before later item (Full back) offers = ap (λ (p : BoxFacts VoiceFacts). p.offered) offers.1

-- the outbox of the slot after an offer
put_where : (room : Bool) (next : Outgoing) (parcels : List Parcel) (one other : CoreState) → outbox_at one next.slot.0 ≡ offer_step.put true next parcels
    → outbox_at other next.slot.0 ≡ parcels → outbox_at (cond room one other) next.slot.0 ≡ offer_step.put room next parcels
put_where true next parcels one other first second = first
put_where false next parcels one other first second = second

put_at : (core : CoreState) (next : Outgoing) → next.slot.0 < length core.outboxes
    → outbox_at (offer_step.puts core (Some next)) next.slot.0 ≡ offer_step.put (offer_step.has_room core next.slot.0) next (outbox_at core next.slot.0)
put_at core next within =
    put_where (offer_step.has_room core next.slot.0) next (outbox_at core next.slot.0) _ _
    (changed_same core.outboxes next.slot.0 (λ parcels. offer_step.put true next parcels) [] within) refl

pub offers : OffersAreOffers
offers edits speaker packet outs delivery after delivers pass rest core w within stands =
    let next = look_step.outgoing (held_packet speaker packet) delivery.hearer in
    let taken : CoreState = at_worker w (λ worker. offer_step.left worker) core in
    let first : offer_step.next_copy core w ≡ Some next = ap (λ (xs : List Outgoing). slice_get xs 0) stands.copies_are in
    let left : worker_at (does core (Offer w)) w ≡ offer_step.left (worker_at core w) =
    ap (λ (xs : List WorkerState). slice_index_or xs w idle) (puts_workers taken (offer_step.next_copy core w))
    ∙ changed_same core.workers w (λ worker. offer_step.left worker) idle within in (
      passes (not (nat_lt w (length core.workers))) _ _ (there w (length core.workers) within)
          (passes (is_none (offer_step.next_copy core w)) _ _ (ap is_none first) refl),
      subst (StandsAt pass None rest) (sym left) (stands_left pass next rest (worker_at core w) stands),
      record {
        before = delivers.old;
        later = delivers.new;
        box = delivers.box;
        offered = ap (map parcel_of_core) (offered_is _ delivers.old delivers.new (parcel_for edits speaker packet delivery.hearer) delivery.answer delivers.offers)
            ∙ put_again (is_sent delivery.answer) next (parcel_for edits speaker packet delivery.hearer) delivers.old.offered refl;
        others = delivers.others;
      },
      λ inside room.
          ap (λ (o : Option Outgoing). outbox_at (offer_step.puts taken o) delivery.hearer.slot.0) first
          ∙ put_at taken next inside
          ∙ ap (λ (b : Bool). offer_step.put b next (outbox_at core delivery.hearer.slot.0)) room,
    )
