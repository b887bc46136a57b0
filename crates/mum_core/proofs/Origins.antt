-- What a worker sends to a session are copies of the packets that it took, in their order.
use Rattle.mum_core.proofs.Common.{◌≡◌, ℕ, zero, suc, ◌<◌, Bool, true, false, cond, List, [], ◌∷◌, ◌++◌, length, map, max, take, drop, Option, Some, None, refl, sym, ap, subst, ◌∙◌, inl, inr, append_assoc, ◌⊎◌, not, filter, is_none, nat_lt, option_to_list, slice_index_or, replicate, ◌==◌, ◌&&◌, AllByRecursion, cases_eq, eq-eqb, eqb-true, ltb-true, append-nil, map-append, filter-append, get_or_from_slice_get, IsProper, StateValue, packet, Action, Voice, Hearer, Outgoing, Version, Step, Open, Frame, Publish, Tell, Look, Offer, Post, Drain, Collect, Close, End, CoreState, start, connection_at, worker_at, state_at, IsCopyOf, IsOfferOf, IsRun, IsSubsequenceBy, gathered, packet_taken, sent, changed_at, does, frame_action, frame_version, illegal, WorkerState, HeldPacket, idle, spoken}
use Rattle.mum_core.proofs.{Changed.changed-by, Changed.changed_same, Changed.changed_other, Counts.AreClean, Counts.clean_start, Counts.clean_step, Counts.frame_hands, Counts.held_there, Fitted.IsLawful, Fitted.lawful_start, Fitted.lawful_step, Fitted.state_proper, Heard.AreApart, Heard.IsApart, Heard.hearers_are_apart, RunLaws.decided_workers, RunLaws.drain_workers, RunLaws.none_stands, RunLaws.not_false, RunLaws.puts_workers, RunLaws.taken_core, RunLaws.told_core, RunLaws.posted_workers, RunLaws.collect_workers, Subsequences.skip}
use Rattle.mum_record.specs.declared.step.Step.TheVariants as steps
use Rattle.mum_core.specs.steps.Edit as edit_step
use Rattle.mum_core.specs.steps.Frame as frame_step
use Rattle.mum_core.specs.steps.Look as look_step
use Rattle.mum_core.specs.steps.Offer as offer_step
use Rattle.mum_core.specs.steps.Tell as tell_step

-- ---- what may still be sent

-- a copy in hand, or a packet of which copies come
data Source : Type 0 where
  InHand : (copy : Outgoing) → Source
  Held : (held : HeldPacket) → Source

-- an offer is the copy in hand, or a copy of the packet
abbrev Comes : (ℕ × Outgoing) → Source → Type 0
Comes offer (InHand copy) = offer.1 ≡ copy
Comes offer (Held held) = IsOfferOf offer held

abbrev Stands : List (ℕ × Outgoing) → List Source → Type 0
Stands offers sources = IsSubsequenceBy Comes offers sources

-- the copies for a session among these
abbrev waiting : ℕ → List Outgoing → List Outgoing
waiting n copies = filter (λ copy. copy.to.0 == n) copies

abbrev packets : Option HeldPacket → List Source
packets held = map Held (option_to_list held)

-- what a worker may still send to a session of what it has in hand
abbrev in_sight : ℕ → WorkerState → List Source
in_sight n worker = map InHand (waiting n worker.copies) ++ packets worker.held

abbrev by_worker : ℕ → List (ℕ × Outgoing) → List (ℕ × Outgoing)
by_worker v offers = filter (λ offer. offer.0 == v) offers

-- what is sent now, and then comes of what is in sight next, comes of what was in sight and what is taken
abbrev Leads : List (ℕ × Outgoing) → List Source → List Source → List Source → Type 0
Leads now old took next = (xs : List (ℕ × Outgoing)) (ys : List Source) → Stands xs (next ++ ys) → Stands (now ++ xs) (old ++ (took ++ ys))

leads_by : (old took next : List Source) → old ++ took ≡ next → Leads [] old took next
leads_by old took next e xs ys h =
    let same : next ++ ys ≡ old ++ (took ++ ys) = sym (sym (append_assoc old took ys) ∙ ap (λ (zs : List Source). zs ++ ys) e) in
    subst (λ (zs : List Source). Stands xs zs) same h

-- ---- one worker

abbrev Goes : ℕ → WorkerState → WorkerState → Type 0
Goes n old new = Leads [] (in_sight n old) (map Held (cond (is_none old.held) (option_to_list new.held) [])) (in_sight n new)

none_taken : (held : Option HeldPacket) → map Held (cond (is_none held) (option_to_list held) []) ≡ []
none_taken None = refl
none_taken (Some held) = refl

goes_kept : (n : ℕ) (old new : WorkerState) → new.held ≡ old.held → new.copies ≡ old.copies → Goes n old new
goes_kept n old new held copies =
    let took : List Source = map Held (cond (is_none old.held) (option_to_list new.held) []) in
    let none : took ≡ [] = ap (λ (h : Option HeldPacket). map Held (cond (is_none old.held) (option_to_list h) [])) held ∙ none_taken old.held in
    let same : in_sight n old ≡ in_sight n new =
    ap (λ (xs : List Outgoing). map InHand (waiting n xs) ++ packets old.held) (sym copies)
    ∙ ap (λ (h : Option HeldPacket). map InHand (waiting n new.copies) ++ packets h) (sym held) in
    leads_by (in_sight n old) took (in_sight n new) (ap (λ (xs : List Source). in_sight n old ++ xs) none ∙ (append-nil (in_sight n old) ∙ same))

goes_hearing : (n : ℕ) (x : WorkerState) (held : HeldPacket) → x.held ≡ None → x.copies ≡ [] → Goes n x (record x { held = Some held })
goes_hearing n x held holds none = rw (holds, none) (λ xs ys h. h)

-- none of these, or one that is a copy of the packet
abbrev AtMost : HeldPacket → List Outgoing → Type 0
AtMost held copies = (copies ≡ []) ⊎ ((copy : Outgoing) × (copies ≡ copy ∷ []) × IsCopyOf copy held)

-- who comes of a copy of a packet comes of the packet
comes_of : (held : HeldPacket) (copy : Outgoing) (xs : List (ℕ × Outgoing)) (ys : List Source) → IsCopyOf copy held → Stands xs (InHand copy ∷ ys) → Stands xs (Held held ∷ ys)
comes_of held copy [] ys is h = tt
comes_of held copy (x ∷ xs) ys is (inl (own, rest)) = inl (subst (λ (one : Outgoing). IsCopyOf one held) (sym own) is, rest)
comes_of held copy (x ∷ xs) ys is (inr later) = inr later

looks_lead : (held : HeldPacket) (copies : List Outgoing) → AtMost held copies → Leads [] (Held held ∷ []) [] (map InHand copies ++ [])
looks_lead held copies (inl none) xs ys h = skip Comes (Held held) xs ys (rw none at h)
looks_lead held copies (inr (copy, one, is)) xs ys h = comes_of held copy xs ys is (rw one at h)

goes_looking : (n revision : ℕ) (x : WorkerState) (held : HeldPacket) (left : List Outgoing) → x.held ≡ Some held → x.copies ≡ [] → AtMost held (waiting n left)
    → Goes n x (record x { seen = revision; held = None; copies = left })
goes_looking n revision x held left holds none most = rw (holds, none) (looks_lead held (waiting n left) most)

still : (n : ℕ) (x : WorkerState) → Goes n x x
still n x = goes_kept n x x refl refl

-- ---- an audience has each session once at most

-- where the session is none of these, none of the copies is for it
none_for : (n : ℕ) (held : HeldPacket) (m : Hearer) (hearers : List Hearer) → m.session.0 ≡ n → AllByRecursion (IsApart m) hearers
    → waiting n (map (look_step.outgoing held) hearers) ≡ []
none_for n held m [] own apart = refl
none_for n held m (next ∷ hearers) own apart = by_next (next.session.0 == n) refl (none_for n held m hearers own apart.1)
  where
    by_next : (b : Bool) → (next.session.0 == n) ≡ b → waiting n (map (look_step.outgoing held) hearers) ≡ []
        → cond b (look_step.outgoing held next ∷ waiting n (map (look_step.outgoing held) hearers)) (waiting n (map (look_step.outgoing held) hearers)) ≡ []
    by_next true same none = absurd (apart.0.1 (own ∙ sym (eqb-true next.session.0 n same)))
    by_next false other none = none

one_for : (n : ℕ) (held : HeldPacket) (hearers : List Hearer) → AreApart hearers → AtMost held (waiting n (map (look_step.outgoing held) hearers))
one_for n held [] apart = inl refl
one_for n held (m ∷ hearers) apart = by_first (m.session.0 == n) refl (one_for n held hearers apart.1)
  where
    by_first : (b : Bool) → (m.session.0 == n) ≡ b → AtMost held (waiting n (map (look_step.outgoing held) hearers))
        → AtMost held (cond b (look_step.outgoing held m ∷ waiting n (map (look_step.outgoing held) hearers)) (waiting n (map (look_step.outgoing held) hearers)))
    by_first true same most =
        inr (
          look_step.outgoing held m,
          ap (λ (xs : List Outgoing). look_step.outgoing held m ∷ xs) (none_for n held m hearers (eqb-true m.session.0 n same) apart.0),
          (m.same, refl),
        )
    by_first false other most = most

one_of : (n : ℕ) (state : StateValue) (holds : Option HeldPacket) (held : HeldPacket) → holds ≡ Some held → IsProper state → AtMost held (waiting n (look_step.copies state holds))
one_of n state holds held e proper =
    subst (λ (one : Option HeldPacket). AtMost held (waiting n (look_step.copies state one))) (sym e)
    (one_for n held (look_step.audience state (Some held)) (hearers_are_apart state held.speaker held.parts.target proper))

-- ---- offers

offers_own : (v w : ℕ) (copies : List Outgoing) → (w == v) ≡ true → by_worker v (map (λ copy. (w, copy)) copies) ≡ map (λ copy. (w, copy)) copies
offers_own v w [] e = refl
offers_own v w (copy ∷ copies) e = rw e (ap (λ (xs : List (ℕ × Outgoing)). (w, copy) ∷ xs) (offers_own v w copies e))

offers_of_others : (v w : ℕ) (copies : List Outgoing) → (w == v) ≡ false → by_worker v (map (λ copy. (w, copy)) copies) ≡ []
offers_of_others v w [] e = refl
offers_of_others v w (copy ∷ copies) e = rw e (offers_of_others v w copies e)

puts_lead : (n w : ℕ) (room : Outgoing → Bool) (copies : List Outgoing) (held : List Source)
    → Leads (map (λ copy. (w, copy)) (filter (λ copy. (copy.to.0 == n) && room copy) (take 1 copies))) (map InHand (waiting n copies) ++ held) [] (map InHand (waiting n (drop 1 copies)) ++ held)
puts_lead n w room [] held xs ys h = h
puts_lead n w room (copy ∷ copies) held xs ys h = from (copy.to.0 == n) (room copy)
  where
    from : (here roomy : Bool) → Stands (map (λ copy. (w, copy)) (cond (here && roomy) (copy ∷ []) []) ++ xs)
        ((map InHand (cond here (copy ∷ waiting n copies) (waiting n copies)) ++ held) ++ ys)
    from true true = inl (refl, h)
    from true false = skip Comes (InHand copy) xs ((map InHand (waiting n copies) ++ held) ++ ys) h
    from false true = h
    from false false = h

-- ---- steps

abbrev GoesTo : ℕ → ℕ → List (ℕ × Outgoing) → CoreState → List WorkerState → Type 0
GoesTo n v now core workers =
    Leads now (in_sight n (worker_at core v)) (map Held (cond (is_none (worker_at core v).held) (option_to_list (slice_index_or workers v idle).held) [])) (in_sight n (slice_index_or workers v idle))

hears_go : (n v : ℕ) (core : CoreState) (w : ℕ) (held : Option HeldPacket) → (worker_at core w).held ≡ None → (worker_at core w).copies ≡ []
    → GoesTo n v [] core (frame_step.hears core w held).workers
hears_go n v core w (Some held) holds none =
    changed-by (Goes n) (still n) core.workers w v (λ worker. record worker { held = Some held }) idle (λ x at same.
    let here : worker_at core w ≡ x = get_or_from_slice_get core.workers w x idle at in
    goes_hearing n x held (rw here at holds) (rw here at none))
hears_go n v core w None holds none = still n (worker_at core v)

frame_goes : (n v : ℕ) (core : CoreState) (c : ℕ) (version : Option ℕ) (a : Action) → (worker_at core (connection_at core c).worker).held ≡ None → (worker_at core (connection_at core c).worker).copies ≡ []
    → GoesTo n v [] core (frame_step.does core c version a).workers
frame_goes n v core c version (Voice payload) holds none = hears_go n v core (connection_at core c).worker (spoken (connection_at core c).seat (packet payload)) holds none
frame_goes n v core c version others holds none = still n (worker_at core v)

notes_go : (n v : ℕ) (core : CoreState) (w : ℕ) (revision : Option ℕ) → GoesTo n v [] core (tell_step.notes w revision core).workers
notes_go n v core w None = still n (worker_at core v)
notes_go n v core w (Some revision) = changed-by (Goes n) (still n) core.workers w v _ idle (λ x at same. goes_kept n x (record x { told = max x.told revision }) refl refl)

some_held : (held : Option HeldPacket) → is_none held ≡ false → (packet : HeldPacket) × (held ≡ Some packet)
some_held None h = cc
some_held (Some packet) h = (packet, refl)

look_goes_from : (n v : ℕ) (core : CoreState) (w revision : ℕ) (held : HeldPacket) (left : List Outgoing) → (worker_at core w).held ≡ Some held → (worker_at core w).copies ≡ [] → AtMost held (waiting n left)
    → GoesTo n v [] core (changed_at w (λ worker. record worker { seen = revision; held = None; copies = left }) core.workers)
look_goes_from n v core w revision held left holds none most =
    changed-by (Goes n) (still n) core.workers w v (λ worker. record worker { seen = revision; held = None; copies = left }) idle (λ x at same.
    let here : worker_at core w ≡ x = get_or_from_slice_get core.workers w x idle at in
    goes_looking n revision x held left (rw here at holds) (rw here at none) most)

look_goes : (n v : ℕ) (core : CoreState) (w revision : ℕ) → illegal core (Look w revision) ≡ None → AreClean core.workers → IsLawful core
    → GoesTo n v [] core (does core (Look w revision)).workers
look_goes n v core w revision h clean are =
    let first = none_stands (not (nat_lt w (length core.workers))) _ _ h in
    let second = none_stands (is_none (worker_at core w).held) _ _ first.1 in
    let some = some_held (worker_at core w).held second.0 in
    let none : (worker_at core w).copies ≡ [] = clean w (held_there (worker_at core w).held second.0) in
    let most : AtMost some.0 (waiting n (look_step.copies (state_at core revision) (worker_at core w).held)) =
    one_of n (state_at core revision) (worker_at core w).held some.0 some.1 (state_proper core revision are) in
    look_goes_from n v core w revision some.0 (look_step.copies (state_at core revision) (worker_at core w).held) some.1 none most

offer_own : (n : ℕ) (core : CoreState) (w : ℕ) → w < length core.workers → GoesTo n w (by_worker w (sent n core (Offer w))) core (taken_core core w).workers
offer_own n core w within =
    let change = λ (worker : WorkerState). record worker { copies = drop 1 worker.copies } in
    let there : slice_index_or (changed_at w change core.workers) w idle ≡ change (worker_at core w) = changed_same core.workers w change idle within in
    let mine = offers_own w w (filter (λ copy. (copy.to.0 == n) && offer_step.has_room core copy.slot.0) (take 1 (worker_at core w).copies)) (eq-eqb w w refl) in
    rw (there, mine, none_taken (worker_at core w).held)
    (puts_lead n w (λ copy. offer_step.has_room core copy.slot.0) (worker_at core w).copies (packets (worker_at core w).held))

other_number : (v w : ℕ) → (v ≡ w → ⊥) → (w == v) ≡ false
other_number v w other = from (w == v) refl
  where
    from : (b : Bool) → (w == v) ≡ b → b ≡ false
    from true e = absurd (other (sym (eqb-true w v e)))
    from false e = refl

offer_of_other : (n v : ℕ) (core : CoreState) (w : ℕ) → (v ≡ w → ⊥) → GoesTo n v (by_worker v (sent n core (Offer w))) core (taken_core core w).workers
offer_of_other n v core w other =
    let change = λ (worker : WorkerState). record worker { copies = drop 1 worker.copies } in
    let there : slice_index_or (changed_at w change core.workers) v idle ≡ worker_at core v = changed_other core.workers w v change idle other in
    let nothing = offers_of_others v w (filter (λ copy. (copy.to.0 == n) && offer_step.has_room core copy.slot.0) (take 1 (worker_at core w).copies)) (other_number v w other) in
    rw (there, nothing) (still n (worker_at core v))

offer_goes : (n v : ℕ) (core : CoreState) (w : ℕ) → w < length core.workers → GoesTo n v (by_worker v (sent n core (Offer w))) core (taken_core core w).workers
offer_goes n v core w within = elim (cases_eq v w) [
  | inl same ↦ rw same (offer_own n core w within)
  | inr other ↦ offer_of_other n v core w other
]

goes : (n v : ℕ) (core : CoreState) (step : Step) → illegal core step ≡ None → AreClean core.workers → IsLawful core
    → GoesTo n v (by_worker v (sent n core step)) core (does core step).workers
goes n v core (Open c w) h clean are = still n (worker_at core v)
goes n v core (Frame c bytes) h clean are =
    let idle_now = frame_hands core c bytes h in
    frame_goes n v core c (frame_version core c bytes) (frame_action core c bytes) idle_now.0 idle_now.1
goes n v core (steps.Edit c) h clean are = let same = decided_workers core c (edit_step.decision core c) in rw same (still n (worker_at core v))
goes n v core Publish h clean are = still n (worker_at core v)
goes n v core (Tell c revision) h clean are = notes_go n v (told_core core c) (connection_at core c).worker revision
goes n v core (Look w revision) h clean are = look_goes n v core w revision h clean are
goes n v core (Offer w) h clean are =
    let first = none_stands (not (nat_lt w (length core.workers))) _ _ h in
    let within : w < length core.workers = ltb-true w (length core.workers) (not_false (nat_lt w (length core.workers)) first.0) in
    let same = puts_workers (taken_core core w) (offer_step.next_copy core w) in
    rw same (offer_goes n v core w within)
goes n v core (Drain c) h clean are = let same = drain_workers core (connection_at core c).seat in rw same (still n (worker_at core v))
goes n v core Post h clean are = let same = posted_workers core in rw same (still n (worker_at core v))
goes n v core (Collect c) h clean are = let same = collect_workers core (connection_at core c).seat in rw same (still n (worker_at core v))
goes n v core (Close c cause) h clean are = still n (worker_at core v)
goes n v core End h clean are = still n (worker_at core v)

sent_all : (n v : ℕ) (core : CoreState) (run : List Step) → IsRun core run → AreClean core.workers → IsLawful core
    → Stands (by_worker v (gathered (sent n) core run)) (in_sight n (worker_at core v) ++ map Held (gathered (packet_taken v) core run))
sent_all n v core [] is clean are = tt
sent_all n v core (step ∷ run) is clean are =
    let now : List (ℕ × Outgoing) = sent n core step in
    let rest : List (ℕ × Outgoing) = gathered (sent n) (does core step) run in
    let took : List HeldPacket = packet_taken v core step in
    let takes : List HeldPacket = gathered (packet_taken v) (does core step) run in
    let later = sent_all n v (does core step) run is.1 (clean_step core step is.0 clean) (lawful_step core step are) in
    let whole = goes n v core step is.0 clean are (by_worker v rest) (map Held takes) later in
    let split : by_worker v (now ++ rest) ≡ by_worker v now ++ by_worker v rest = filter-append (λ (offer : ℕ × Outgoing). offer.0 == v) now rest in
    let joined : map Held (took ++ takes) ≡ map Held took ++ map Held takes = map-append Held took takes in
    rw (split, joined) whole

idle_at : (n w : ℕ) → slice_index_or (replicate n idle) w idle ≡ idle
idle_at zero w = refl
idle_at (suc n) zero = refl
idle_at (suc n) (suc w) = idle_at n w

-- where nothing is in hand, each offer is of a packet
of_packets : (offers : List (ℕ × Outgoing)) (held : List HeldPacket) → Stands offers (map Held held) → IsSubsequenceBy IsOfferOf offers held
of_packets [] held h = tt
of_packets (offer ∷ offers) [] h = absurd h
of_packets (offer ∷ offers) (one ∷ held) (inl (is, rest)) = inl (is, of_packets offers held rest)
of_packets (offer ∷ offers) (one ∷ held) (inr later) = inr (of_packets (offer ∷ offers) held later)

pub copies_follow_packets : (version : Version) (opening : StateValue) (workers v n : ℕ) (run : List Step) → IsProper opening → IsRun (start version opening workers) run
    → IsSubsequenceBy IsOfferOf (filter (λ offer. offer.0 == v) (gathered (sent n) (start version opening workers) run)) (gathered (packet_taken v) (start version opening workers) run)
copies_follow_packets version opening workers v n run proper is =
    let all = sent_all n v (start version opening workers) run is (clean_start workers) (lawful_start version opening workers proper) in
    let nothing : in_sight n (worker_at (start version opening workers) v) ≡ [] = ap (in_sight n) (idle_at workers v) in
    of_packets (by_worker v (gathered (sent n) (start version opening workers) run)) (gathered (packet_taken v) (start version opening workers) run)
    (subst (λ (seen : List Source). Stands (by_worker v (gathered (sent n) (start version opening workers) run)) (seen ++ map Held (gathered (packet_taken v) (start version opening workers) run))) nothing all)
