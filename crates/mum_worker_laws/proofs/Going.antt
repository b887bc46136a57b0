-- What turns do to what a router knows, asked and offered.
use Rattle.mum_worker_laws.proofs.Common.{◌≡◌, ◌≢◌, ◌==◌, ◌∙◌, ℕ, zero, suc, Bool, true, false, true≢false, List, [], ◌∷◌, ◌++◌, map, Option, Some, None, refl, ap, sym, subst, inl, inr, arith, append_assoc, ⊤, slice_get, slice_set, All, AllPairs, FoldsTo, cons_option, filter_map, flat_map, eq-eqb, eqb-true, flat_map-append, append-nil, map-append, All-append, All-cons, All-head, All-nil, filter_map-append, AllPairs-cons, IsPrefix, SessionId, VOICE_CAPACITY, TurnsTo, Turn, LinkFacts, Offers, BoxFacts, VoiceFacts, Sent, Full, Offered, action_of, PortFacts, told_by_passes, PortRoutes, edits_told, NoteFacts, Opening, PassFacts, ReplyFacts, Login, prefix_self, prefix_trans, RouterFacts, RoutedPacket, Delivers, Delivery, Outs, parcel_for, RoutesAt, Routed, Kept, SeesEach, kept_of, sees_append, sees_of, Along, Rung, Answer, Comes, Lagging, NoMore, session_of, Voice, Action, Edit, Parts, BoxesFacts, WorkerFacts, Admits, Hears, LearnsGiven, CommonFacts, RoutesPacket, PortSteps, Shares, Turned, WorkerTurned, shares_of, Follows, IsTold, Look, Moment, Take, Told, Looked, Took, SeesFrom, ask_made, copies_at, copies_made, copy_for, edits_of, history, if_sent, if_there, look_asked, look_in, look_made, look_stepped, looks_in, moments_along, moments_of, moments_stepped, offered_in, packets_in, routed_packet, takes_by, told_by}
use Rattle.mum_worker_laws.proofs.Taking.{takes_told}

-- ---- the copies of one packet

set_same : {X : Type 0} (xs : List X) (i : ℕ) (old x : X) → slice_get xs i ≡ Some old → slice_get (slice_set xs i x) i ≡ Some x
set_same [] zero old x there = absurd (cc there)
set_same [] (suc i) old x there = absurd (cc there)
set_same (y ∷ xs) zero old x there = refl
set_same (y ∷ xs) (suc i) old x there = set_same xs i old x there

set_other : {X : Type 0} (xs : List X) (i k : ℕ) (x : X) → k ≢ i → slice_get (slice_set xs i x) k ≡ slice_get xs k
set_other [] i k x apart = refl
set_other (y ∷ xs) zero zero x apart = absurd (apart refl)
set_other (y ∷ xs) zero (suc k) x apart = refl
set_other (y ∷ xs) (suc i) zero x apart = refl
set_other (y ∷ xs) (suc i) (suc k) x apart = set_other xs i k x (λ same. apart (ap (λ (n : ℕ). suc n) same))

offered_one : (answer : Offered VoiceFacts) (parcel : VoiceFacts) (old new : BoxFacts VoiceFacts) → Offers VOICE_CAPACITY old parcel answer new
    → new.offered ≡ old.offered ++ cons_option (if_sent answer parcel) []
offered_one Sent parcel old new offers = ap (λ (p : BoxFacts VoiceFacts). p.offered) offers
offered_one (Full back) parcel old new offers = ap (λ (p : BoxFacts VoiceFacts). p.offered) offers.1 ∙ sym (append-nil old.offered)

-- the box of its slot
own_box : (edits : List Edit) (speaker : SessionId) (packet : Parts) (outs : Outs) (d : Delivery) (after : Outs) → Delivers edits speaker packet outs d after
    → copies_at d.hearer.slot.0 after ≡ copies_at d.hearer.slot.0 outs ++ cons_option (if_sent d.answer (parcel_for edits speaker packet d.hearer)) []
own_box edits speaker packet outs d after delivers =
    ap (λ (os : Outs). offered_in (slice_get os d.hearer.slot.0)) delivers.others
    ∙ (ap (λ (o : Option (BoxFacts VoiceFacts)). offered_in o) (set_same outs d.hearer.slot.0 delivers.old delivers.new delivers.box)
    ∙ (offered_one d.answer (parcel_for edits speaker packet d.hearer) delivers.old delivers.new delivers.offers
    ∙ ap (λ (o : Option (BoxFacts VoiceFacts)). offered_in o ++ cons_option (if_sent d.answer (parcel_for edits speaker packet d.hearer)) []) (sym delivers.box)))

delivered_where : (b : Bool) (slot : ℕ) (edits : List Edit) (speaker : SessionId) (packet : Parts) (outs : Outs) (d : Delivery) (after : Outs) → (d.hearer.slot.0 == slot) ≡ b → Delivers edits speaker packet outs d after
    → copies_at slot after ≡ copies_at slot outs ++ cons_option (if_there b d.answer (parcel_for edits speaker packet d.hearer)) []
delivered_where true slot edits speaker packet outs d after is delivers =
    subst (λ (k : ℕ). copies_at k after ≡ copies_at k outs ++ cons_option (if_sent d.answer (parcel_for edits speaker packet d.hearer)) [])
    (eqb-true d.hearer.slot.0 slot is) (own_box edits speaker packet outs d after delivers)
delivered_where false slot edits speaker packet outs d after is delivers =
    ap (λ (os : Outs). offered_in (slice_get os slot)) delivers.others
    ∙ (ap (λ (o : Option (BoxFacts VoiceFacts)). offered_in o) (set_other outs d.hearer.slot.0 slot delivers.new (λ same. true≢false (sym (eq-eqb d.hearer.slot.0 slot (sym same)) ∙ is)))
    ∙ sym (append-nil (copies_at slot outs)))

onto : {X : Type 0} (one : Option X) (before after : List X) → (before ++ cons_option one []) ++ after ≡ before ++ cons_option one after
onto None before after = ap (λ l. l ++ after) (append-nil before)
onto (Some x) before after = append_assoc before (x ∷ []) after

delivered : (slot : ℕ) (edits : List Edit) (speaker : SessionId) (packet : Parts) (ds : List Delivery) (outs after : Outs) → FoldsTo (Delivers edits speaker packet) outs ds after
    → copies_at slot after ≡ copies_at slot outs ++ filter_map (copy_for slot edits speaker packet) ds
delivered slot edits speaker packet [] outs after done =
    ap (λ (os : Outs). copies_at slot os) (sym done) ∙ sym (append-nil (copies_at slot outs))
delivered slot edits speaker packet (d ∷ ds) outs after done =
    delivered slot edits speaker packet ds done.0 after done.2
    ∙ (ap (λ (l : List VoiceFacts). l ++ filter_map (copy_for slot edits speaker packet) ds) (delivered_where (d.hearer.slot.0 == slot) slot edits speaker packet outs d done.0 refl done.1)
    ∙ onto (copy_for slot edits speaker packet d) (copies_at slot outs) (filter_map (copy_for slot edits speaker packet) ds))

-- ---- lists

pub all_on : {X : Type 0} (P Q : X → Type 0) → ((x : X) → P x → Q x) → (xs : List X) → All P xs → All Q xs
all_on P Q so xs all k d within = so _ (all k d within)

pub pairs_nil : {X : Type 0} (R : X → X → Type 0) → AllPairs R []
pairs_nil R i j d below within = absurd (omega (arith, within))

pub pairs_head : {X : Type 0} (R : X → X → Type 0) (x : X) (xs : List X) → AllPairs R (x ∷ xs) → All (R x) xs
pairs_head R x xs pairs k d within = pairs 0 (suc k) d (omega arith) (omega (arith, within))

pub pairs_tail : {X : Type 0} (R : X → X → Type 0) (x : X) (xs : List X) → AllPairs R (x ∷ xs) → AllPairs R xs
pairs_tail R x xs pairs i j d below within = pairs (suc i) (suc j) d (omega (arith, below)) (omega (arith, within))

pub all_tail : {X : Type 0} (P : X → Type 0) (x : X) (xs : List X) → All P (x ∷ xs) → All P xs
all_tail P x xs all k d within = all (suc k) d (omega (arith, within))

pub pairs_join : {X : Type 0} (R : X → X → Type 0) (P Q : X → Type 0) → ((x y : X) → P x → Q y → R x y)
    → (xs ys : List X) → AllPairs R xs → All P xs → AllPairs R ys → All Q ys → AllPairs R (xs ++ ys)
pairs_join R P Q both [] ys pairs all others rest = others
pairs_join R P Q both (x ∷ xs) ys pairs all others rest =
    AllPairs-cons R x (xs ++ ys)
    (All-append (R x) xs ys (pairs_head R x xs pairs) (all_on Q (R x) (λ y q. both x y (All-head P x xs all) q) ys rest))
    (pairs_join R P Q both xs ys (pairs_tail R x xs pairs) (all_tail P x xs all) others rest)

-- ---- what a router knows, asked and offered

abbrev IsKnown : List Edit → Moment → Type 0
IsKnown known moment = IsPrefix (edits_of moment) known

-- a look of the pass: what it saw begins what is seen and what is known
abbrev pub IsSeen : PassFacts → Moment → Type 0
IsSeen pass (Told reply) = ⊤
IsSeen pass (Looked look) = IsPrefix look.edits pass.seen × IsPrefix look.edits pass.known
IsSeen pass (Took takes learnt) = ⊤

-- what is taken is by the rules, and what is learnt begins with the edits that came with it
abbrev pub IsRightly : Opening → Moment → Type 0
IsRightly opening (Told reply) = ⊤
IsRightly opening (Looked look) = ⊤
IsRightly opening (Took takes learnt) = All (IsTold opening (edits_told learnt)) takes

-- these moments lead from this router to that
pub record Goes (opening : Opening) (old new : RouterFacts) (moments : List Moment) : Type 0 where
  pub asks : new.pass.asks ≡ old.pass.asks ++ map ask_made (looks_in moments)
  pub knows : IsPrefix old.pass.known new.pass.known
  pub within : All (IsKnown new.pass.known) moments
  pub beyond : All (SeesFrom old.pass.known) moments
  pub pairs : AllPairs Follows moments
  pub copies : (slot : ℕ) → copies_at slot new.outs ≡ copies_at slot old.outs ++ flat_map (copies_made slot) (looks_in moments)
  pub opened : new.pass.opening ≡ old.pass.opening
  pub sees : old.pass.opening ≡ opening → SeesEach opening (kept_of old) (packets_in moments) (kept_of new)
  -- what begins the edits that were seen and known begins those that are seen
  pub keeps : (edits : List Edit) → IsPrefix edits old.pass.seen → IsPrefix edits old.pass.known → IsPrefix edits new.pass.seen
  pub looked : All (IsSeen new.pass) moments
  pub rolls : IsPrefix old.pass.roll new.pass.roll
  pub rightly : All (IsRightly opening) moments

stays : (opening : Opening) (old new : RouterFacts) → new ≡ old → Goes opening old new []
stays opening old new same = record {
  asks = ap (λ (r : RouterFacts). r.pass.asks) same ∙ sym (append-nil old.pass.asks);
  knows = subst (λ (r : RouterFacts). IsPrefix old.pass.known r.pass.known) (sym same) (prefix_self old.pass.known);
  within = All-nil (IsKnown new.pass.known);
  beyond = All-nil (SeesFrom old.pass.known);
  pairs = pairs_nil Follows;
  copies = λ slot. ap (λ (r : RouterFacts). copies_at slot r.outs) same ∙ sym (append-nil (copies_at slot old.outs));
  opened = ap (λ (r : RouterFacts). r.pass.opening) same;
  sees = λ opened. ap kept_of same;
  keeps = λ edits seen known. subst (λ (r : RouterFacts). IsPrefix edits r.pass.seen) (sym same) seen;
  looked = All-nil (IsSeen new.pass);
  rolls = subst (λ (r : RouterFacts). IsPrefix old.pass.roll r.pass.roll) (sym same) (prefix_self old.pass.roll);
  rightly = All-nil (IsRightly opening);
}

one_pair : (moment : Moment) → AllPairs Follows (moment ∷ [])
one_pair moment = AllPairs-cons Follows moment [] (All-nil (Follows moment)) (pairs_nil Follows)

-- ---- a reply

pub record Learns (edits : List Edit) (old new : RouterFacts) : Type 0 where
  pub asks : new.pass.asks ≡ old.pass.asks
  pub outs : new.outs ≡ old.outs
  pub mine : IsPrefix old.pass.known new.pass.known
  pub its : IsPrefix edits new.pass.known
  pub opening : new.pass.opening ≡ old.pass.opening
  pub kept : kept_of new ≡ kept_of old

-- a note that is learnt leaves the roll
roll_kept : (note : Option NoteFacts) (old new : RouterFacts) → LearnsGiven note old new → new.pass.roll ≡ old.pass.roll
roll_kept None old new same = ap (λ (r : RouterFacts). r.pass.roll) same
roll_kept (Some note) old new learns = ap (λ (p : PassFacts). p.roll) learns.0.same

learnt : (note : Option NoteFacts) (old new : RouterFacts) → LearnsGiven note old new → Learns (edits_told note) old new
learnt None old new same = record {
  asks = ap (λ (r : RouterFacts). r.pass.asks) same;
  outs = ap (λ (r : RouterFacts). r.outs) same;
  mine = subst (λ (r : RouterFacts). IsPrefix old.pass.known r.pass.known) (sym same) (prefix_self old.pass.known);
  its = (new.pass.known, refl);
  opening = ap (λ (r : RouterFacts). r.pass.opening) same;
  kept = ap kept_of same;
}
learnt (Some note) old new learns = record {
  asks = ap (λ (p : PassFacts). p.asks) learns.0.same;
  outs = ap (λ (r : RouterFacts). r.outs) learns.1;
  mine = learns.0.mine;
  its = learns.0.its;
  opening = ap (λ (p : PassFacts). p.opening) learns.0.same;
  kept = λ i. record { seen = ap (λ (p : PassFacts). p.seen) learns.0.same i; routes = ap (λ (r : RouterFacts). r.caches.routes) learns.1 i };
}

-- what was learnt of a note is known still once a roll is
admitted : (edits : List Edit) (roll : List Login) (old mid new : RouterFacts) → Learns edits old mid → Admits roll mid new → Learns edits old new
admitted edits roll old mid new facts admits =
    let known : new.pass.known ≡ mid.pass.known = ap (λ (p : PassFacts). p.known) admits.0.same in record {
      asks = ap (λ (p : PassFacts). p.asks) admits.0.same ∙ facts.asks;
      outs = ap (λ (r : RouterFacts). r.outs) admits.1 ∙ facts.outs;
      mine = subst (λ (l : List Edit). IsPrefix old.pass.known l) (sym known) facts.mine;
      its = subst (λ (l : List Edit). IsPrefix edits l) (sym known) facts.its;
      opening = ap (λ (p : PassFacts). p.opening) admits.0.same ∙ facts.opening;
      kept = (λ i. record { seen = ap (λ (p : PassFacts). p.seen) admits.0.same i; routes = ap (λ (r : RouterFacts). r.caches.routes) admits.1 i }) ∙ facts.kept;
    }

told : (opening : Opening) (reply : ReplyFacts) (old mid new : RouterFacts) → LearnsGiven reply.note old mid → Admits reply.roll mid new → Goes opening old new (Told reply ∷ [])
told opening reply old mid new learns admits =
    let first = learnt reply.note old mid learns in
    let facts = admitted (edits_told reply.note) reply.roll old mid new first admits in record {
      asks = facts.asks ∙ sym (append-nil old.pass.asks);
      knows = facts.mine;
      within = All-cons (IsKnown new.pass.known) (Told reply) [] facts.its (All-nil (IsKnown new.pass.known));
      beyond = All-cons (SeesFrom old.pass.known) (Told reply) [] tt (All-nil (SeesFrom old.pass.known));
      pairs = one_pair (Told reply);
      copies = λ slot. ap (λ (os : Outs). copies_at slot os) facts.outs ∙ sym (append-nil (copies_at slot old.outs));
      opened = facts.opening;
      sees = λ opened. facts.kept;
      keeps = λ edits seen known. subst (λ (k : Kept). IsPrefix edits k.seen) (sym facts.kept) seen;
      looked = All-cons (IsSeen new.pass) (Told reply) [] tt (All-nil (IsSeen new.pass));
      rolls = subst (λ (l : List Login). IsPrefix l new.pass.roll) (roll_kept reply.note old mid learns) admits.0.mine;
      rightly = All-cons (IsRightly opening) (Told reply) [] tt (All-nil (IsRightly opening));
    }

-- ---- a look

saw : (opening : Opening) (connection : ℕ) (old : RouterFacts) (speaker : SessionId) (packet : Parts) (edits : List Edit) (deliveries : List Delivery) (new : RouterFacts) (routed : Routed)
    → RoutesAt opening old speaker packet edits deliveries new routed
    → Goes opening old new (Looked (record { connection = connection; speaker = speaker; packet = packet; edits = edits; deliveries = deliveries }) ∷ [])
saw opening connection old speaker packet edits deliveries new routed routes =
    let look : Look = record { connection = connection; speaker = speaker; packet = packet; edits = edits; deliveries = deliveries } in
    let seen : new.pass.seen ≡ edits = ap (λ (r : RouterFacts). r.pass.seen) routes.router in
    let known : new.pass.known ≡ edits = ap (λ (r : RouterFacts). r.pass.known) routes.router in record {
      asks = ap (λ (r : RouterFacts). r.pass.asks) routes.router;
      knows = subst (λ (l : List Edit). IsPrefix old.pass.known l) (sym known) routes.may.known;
      within = All-cons (IsKnown new.pass.known) (Looked look) [] (subst (λ (l : List Edit). IsPrefix edits l) (sym known) (prefix_self edits)) (All-nil (IsKnown new.pass.known));
      beyond = All-cons (SeesFrom old.pass.known) (Looked look) [] routes.may.known (All-nil (SeesFrom old.pass.known));
      pairs = one_pair (Looked look);
      copies = λ slot. delivered slot edits speaker packet deliveries old.outs new.outs routes.offers
          ∙ ap (λ (l : List VoiceFacts). copies_at slot old.outs ++ l) (sym (append-nil (copies_made slot look)));
      opened = ap (λ (r : RouterFacts). r.pass.opening) routes.router;
      sees = λ opened. (kept_of new, sees_of opening old (routed_packet look) deliveries new routed opened routes, refl);
      keeps = λ begin seen_before known_before. subst (λ (l : List Edit). IsPrefix begin l) (sym seen)
          (prefix_trans begin old.pass.known edits known_before routes.may.known);
      looked = All-cons (IsSeen new.pass) (Looked look) []
          (subst (λ (l : List Edit). IsPrefix edits l) (sym seen) (prefix_self edits), subst (λ (l : List Edit). IsPrefix edits l) (sym known) (prefix_self edits))
          (All-nil (IsSeen new.pass));
      rolls = subst (λ (l : List Login). IsPrefix old.pass.roll l) (sym (ap (λ (r : RouterFacts). r.pass.roll) routes.router)) (prefix_self old.pass.roll);
      rightly = All-cons (IsRightly opening) (Looked look) [] tt (All-nil (IsRightly opening));
    }

-- ---- what was taken

took : (opening : Opening) (takes : List Take) (note : Option NoteFacts) (old new : RouterFacts) → LearnsGiven note old new → All (IsTold opening (edits_told note)) takes
    → Goes opening old new (Took takes note ∷ [])
took opening takes note old new learns told_all =
    let facts = learnt note old new learns in record {
      asks = facts.asks ∙ sym (append-nil old.pass.asks);
      knows = facts.mine;
      within = All-cons (IsKnown new.pass.known) (Took takes note) [] facts.its (All-nil (IsKnown new.pass.known));
      beyond = All-cons (SeesFrom old.pass.known) (Took takes note) [] tt (All-nil (SeesFrom old.pass.known));
      pairs = one_pair (Took takes note);
      copies = λ slot. ap (λ (os : Outs). copies_at slot os) facts.outs ∙ sym (append-nil (copies_at slot old.outs));
      opened = facts.opening;
      sees = λ opened. facts.kept;
      keeps = λ edits seen known. subst (λ (k : Kept). IsPrefix edits k.seen) (sym facts.kept) seen;
      looked = All-cons (IsSeen new.pass) (Took takes note) [] tt (All-nil (IsSeen new.pass));
      rolls = subst (λ (l : List Login). IsPrefix l new.pass.roll) (roll_kept note old new learns) (prefix_self new.pass.roll);
      rightly = All-cons (IsRightly opening) (Took takes note) [] told_all (All-nil (IsRightly opening));
    }

-- ---- one thing after another

pub sees_more : (some more : List Edit) → IsPrefix some more → (moment : Moment) → SeesFrom more moment → SeesFrom some moment
sees_more some more front (Told reply) sees = tt
sees_more some more front (Took takes learnt) sees = tt
sees_more some more front (Looked look) sees = prefix_trans some more look.edits front sees

seen_on : (mid new : PassFacts) → ((edits : List Edit) → IsPrefix edits mid.seen → IsPrefix edits mid.known → IsPrefix edits new.seen)
    → IsPrefix mid.known new.known → (moment : Moment) → IsSeen mid moment → IsSeen new moment
seen_on mid new keeps knows (Told reply) seen = tt
seen_on mid new keeps knows (Took takes learnt) seen = tt
seen_on mid new keeps knows (Looked look) (seen, known) = (keeps look.edits seen known, prefix_trans look.edits mid.known new.known known knows)

asks_join : (ms ns : List Moment) → map ask_made (looks_in (ms ++ ns)) ≡ map ask_made (looks_in ms) ++ map ask_made (looks_in ns)
asks_join ms ns = ap (λ (l : List Look). map ask_made l) (filter_map-append look_in ms ns) ∙ map-append ask_made (looks_in ms) (looks_in ns)

copies_join : (slot : ℕ) (ms ns : List Moment) → flat_map (copies_made slot) (looks_in (ms ++ ns)) ≡ flat_map (copies_made slot) (looks_in ms) ++ flat_map (copies_made slot) (looks_in ns)
copies_join slot ms ns = ap (λ (l : List Look). flat_map (copies_made slot) l) (filter_map-append look_in ms ns) ∙ flat_map-append (copies_made slot) (looks_in ms) (looks_in ns)

packets_join : (ms ns : List Moment) → packets_in (ms ++ ns) ≡ packets_in ms ++ packets_in ns
packets_join ms ns = ap (λ (l : List Look). map routed_packet l) (filter_map-append look_in ms ns) ∙ map-append routed_packet (looks_in ms) (looks_in ns)

chained : {X : Type 0} (a b c ms ns both : List X) → b ≡ a ++ ms → c ≡ b ++ ns → both ≡ ms ++ ns → c ≡ a ++ both
chained a b c ms ns both one other joined =
    other ∙ (ap (λ l. l ++ ns) one ∙ (append_assoc a ms ns ∙ ap (λ l. a ++ l) (sym joined)))

goes_on : (opening : Opening) (old mid new : RouterFacts) (ms ns : List Moment) → Goes opening old mid ms → Goes opening mid new ns → Goes opening old new (ms ++ ns)
goes_on opening old mid new ms ns one other = record {
  asks = chained old.pass.asks mid.pass.asks new.pass.asks (map ask_made (looks_in ms)) (map ask_made (looks_in ns)) (map ask_made (looks_in (ms ++ ns))) one.asks other.asks (asks_join ms ns);
  knows = prefix_trans old.pass.known mid.pass.known new.pass.known one.knows other.knows;
  within = All-append (IsKnown new.pass.known) ms ns
      (all_on (IsKnown mid.pass.known) (IsKnown new.pass.known) (λ m known. prefix_trans (edits_of m) mid.pass.known new.pass.known known other.knows) ms one.within) other.within;
  beyond = All-append (SeesFrom old.pass.known) ms ns one.beyond
      (all_on (SeesFrom mid.pass.known) (SeesFrom old.pass.known) (sees_more old.pass.known mid.pass.known one.knows) ns other.beyond);
  pairs = pairs_join Follows (IsKnown mid.pass.known) (SeesFrom mid.pass.known) (λ m n known sees. sees_more (edits_of m) mid.pass.known known n sees)
      ms ns one.pairs one.within other.pairs other.beyond;
  copies = λ slot. chained (copies_at slot old.outs) (copies_at slot mid.outs) (copies_at slot new.outs) (flat_map (copies_made slot) (looks_in ms)) (flat_map (copies_made slot) (looks_in ns)) (flat_map (copies_made slot) (looks_in (ms ++ ns)))
      (one.copies slot) (other.copies slot) (copies_join slot ms ns);
  opened = other.opened ∙ one.opened;
  sees = λ opened. subst (λ (packets : List RoutedPacket). SeesEach opening (kept_of old) packets (kept_of new)) (sym (packets_join ms ns))
      (sees_append opening (packets_in ms) (packets_in ns) (kept_of old) (kept_of mid) (kept_of new) (one.sees opened) (other.sees (one.opened ∙ opened)));
  keeps = λ edits seen known. other.keeps edits (one.keeps edits seen known) (prefix_trans edits old.pass.known mid.pass.known known one.knows);
  looked = All-append (IsSeen new.pass) ms ns
      (all_on (IsSeen mid.pass) (IsSeen new.pass) (λ m seen. seen_on mid.pass new.pass other.keeps other.knows m seen) ms one.looked) other.looked;
  rolls = prefix_trans old.pass.roll mid.pass.roll new.pass.roll one.rolls other.rolls;
  rightly = All-append (IsRightly opening) ms ns one.rightly other.rightly;
}

-- ---- the step of a port

module _ (opening : Opening) where
  go_made : (old : CommonFacts) (connection : ℕ) (speaker : SessionId) (bytes : List ℕ) (new : CommonFacts) (routes : RoutesPacket opening old connection speaker bytes new)
      → Goes opening old.router new.router (look_made opening old connection speaker bytes new routes)
  go_made old connection speaker bytes new (inl drops) = stays opening old.router new.router drops.not_one.same
  go_made old connection speaker bytes new (inr keeps) =
      saw opening connection old.router speaker keeps.once.parts keeps.once.routes.0 keeps.once.routes.1 new.router keeps.routed keeps.once.routes.2

  same_common : (old new : CommonFacts) → new ≡ old → Goes opening old.router new.router []
  same_common old new same = stays opening old.router new.router (ap (λ (c : CommonFacts). c.router) same)

  go_asked : (connection : ℕ) (session : Option SessionId) (asked : Option Action) (old new : CommonFacts) (routes : PortRoutes (RoutesPacket opening) connection session asked old new)
      → Goes opening old.router new.router (look_asked opening connection session asked old new routes)
  go_asked connection session (Some (Voice packet)) old new routes = go_made old connection routes.0 packet new routes.2
  go_asked connection session others old new same = same_common old new same

  module _ {L : Type 0} (facts : L → LinkFacts) where
    go_stepped : (boxes : BoxesFacts) (old : PortFacts L) (before : Shares) (new : PortFacts L) (after : Shares) (steps : PortSteps facts opening boxes old before new after)
        → Goes opening before.common.router after.common.router (moments_stepped opening facts boxes old before new after steps)
    go_stepped boxes old before new after steps =
        goes_on opening before.common.router steps.routed.router after.common.router
        (look_stepped opening facts boxes old before new after steps) (Took (takes_by old.machine steps.turned.0) (told_by_passes new.passes) ∷ [])
        (go_asked old.machine.connection (session_of old.machine.stage) (action_of old.machine steps.turned.0.handled) before.common steps.routed steps.turned.1.routes)
        (took opening (takes_by old.machine steps.turned.0) (told_by_passes new.passes) steps.routed.router after.common.router steps.learns
        (takes_told opening old.machine old.passes new.passes steps.turned.0 steps.turned.1.takes.passes steps.taken))

    pub go_along : (boxes : BoxesFacts) (olds : List (PortFacts L)) (before : Shares) (news : List (PortFacts L)) (after : Shares) (along : Along (PortSteps facts opening boxes) olds before news after)
        → Goes opening before.common.router after.common.router (moments_along opening facts boxes olds before news after along)
    go_along boxes [] before [] after same = same_common before.common after.common (ap (λ (s : Shares). s.common) same)
    go_along boxes [] before (new ∷ news) after none = absurd none
    go_along boxes (old ∷ olds) before [] after none = absurd none
    go_along boxes (old ∷ olds) before (new ∷ news) after (between, step, rest) =
        goes_on opening before.common.router between.common.router after.common.router
        (moments_stepped opening facts boxes old before new between step)
        (moments_along opening facts boxes olds between news after rest)
        (go_stepped boxes old before new between step)
        (go_along boxes olds between news after rest)

    -- ---- the bell, and the turns

    pub go_heard : (item : Option (Rung L)) (old new : WorkerFacts L) → Hears facts item old new → Goes opening old.common.router new.common.router (told_by item)
    go_heard None old new same = same_common old.common new.common (ap (λ (w : WorkerFacts L). w.common) same)
    go_heard (Some (Answer reply)) old new hears = told opening reply old.common.router hears.takes.noted_by new.common.router hears.takes.learns hears.takes.admits
    go_heard (Some (Comes connection link)) old new hears = stays opening old.common.router new.common.router hears.router
    go_heard (Some (Lagging session)) old new hears = stays opening old.common.router new.common.router hears.router
    go_heard (Some NoMore) old new same = same_common old.common new.common (ap (λ (w : WorkerFacts L). w.common) same)

    pub go_turn : (old new : WorkerFacts L) (turn : Turn) (turned : Turned facts opening old new turn)
        → Goes opening old.common.router new.common.router (moments_of facts opening old new turn turned)
    go_turn old new turn turned =
        goes_on opening old.common.router turned.between.common.router new.common.router
        (told_by turned.hears.item)
        (moments_along opening facts turned.between.boxes turned.between.ports (shares_of turned.between turned.heard) turned.steps.steps.stepped (shares_of new turned.worked) turned.steps.steps.along)
        (go_heard turned.hears.item (record old { bell = turned.hears.bell }) turned.between turned.hears.hears)
        (go_along turned.between.boxes turned.between.ports (shares_of turned.between turned.heard) turned.steps.steps.stepped (shares_of new turned.worked) turned.steps.steps.along)

    pub go_turns : (old : WorkerFacts L) (turns : List Turn) (new : WorkerFacts L) (all : TurnsTo (WorkerTurned facts opening) old turns new)
        → Goes opening old.common.router new.common.router (history facts opening old turns new all)
    go_turns old [] new same = same_common old.common new.common (ap (λ (w : WorkerFacts L). w.common) same)
    go_turns old (turn ∷ turns) new (mid, turned, rest) =
        goes_on opening old.common.router mid.common.router new.common.router
        (moments_of facts opening old mid turn turned)
        (history facts opening mid turns new rest)
        (go_turn old mid turn turned) (go_turns mid turns new rest)
