-- What a connection is sent of one speaker are copies of packets that this speaker sent, in their order.
use Rattle.mum_core.proofs.Common.{◌≡◌, ℕ, zero, suc, ◌^◌, ◌<◌, ◌≤◌, ◌-◌, Bool, true, false, cond, List, [], ◌∷◌, ◌++◌, length, map, Option, Some, None, refl, sym, ap, subst, ◌∙◌, arith, inl, inr, append_assoc, lit≤, ◌⊎◌, filter, slice_index_or, ◌==◌, AllByRecursion, option_map, option_map_or, cases_eq, eq-eqb, eqb-true, User, IsProper, StateValue, shown, session_known, Parts, copy, shortest_word, word_at, shortest_word-read, Connection, Seat, Parcel, Outgoing, Version, Step, Drain, fresh, CoreState, start, connection_at, outbox_at, state_at, AreBytesOf, IsOfferOf, IsParcelOf, IsRun, IsSubsequence, IsSubsequenceBy, front_for, gathered, heard, is_by, own_front, packet_taken, ran, removed, sent, does, illegal, HeldPacket}
use Rattle.mum_users.specs.Sessions.{session_of}
use Rattle.mum_core.proofs.{Arrivals.ArePresent, Arrivals.IsPresent, Arrivals.none_present, Arrivals.present_step, Arrivals.seats_present, Fitted.IsLawful, Fitted.lawful_start, Fitted.lawful_step, Fitted.state_proper, Orders.sent_is_conserved, Origins.copies_follow_packets, Places.conn, Places.placed, Places.worker_stays, Settled.AreSettled, Settled.seat_all, Settled.seat_on, Settled.seat_placed, Settled.settled_start, Settled.settled_step, Speakers.IsOf, Speakers.Source, Speakers.given_of, Speakers.joined_none, Speakers.of_speaker, Speakers.sound_all, Speakers.sound_start, Speakers.source, Subsequences.filter-mapped, Subsequences.filtered_stand, Subsequences.from_mapped, Subsequences.mapped_stand, Subsequences.only_of, Subsequences.stands_in_none, Subsequences.stands_longer, Subsequences.stands_through, Told.heard_is_of_removed}

-- ---- the sender of a copy

copy_is_by : (speaker k context : ℕ) (parts : Parts) (with_position : Bool) → speaker < 2 ^ 64 → is_by k (copy parts speaker context with_position) ≡ (speaker == k)
copy_is_by speaker k context parts with_position small =
    let spelled : List ℕ = shortest_word speaker in
    let position : List ℕ = cond with_position parts.position [] in
    let whole : ((spelled ++ parts.sequence) ++ parts.audio) ++ position ≡ spelled ++ (parts.sequence ++ (parts.audio ++ position)) =
    append_assoc (spelled ++ parts.sequence) parts.audio position ∙ append_assoc spelled parts.sequence (parts.audio ++ position) in
    let read : word_at (((spelled ++ parts.sequence) ++ parts.audio) ++ position) ≡ Some (speaker, length spelled) =
    ap word_at whole ∙ shortest_word-read speaker (parts.sequence ++ (parts.audio ++ position)) small in
    ap (λ (o : Option (ℕ × ℕ)). option_map_or (λ (n : ℕ). n == k) (option_map (λ (r : ℕ × ℕ). r.0) o) false) read

abbrev IsSmall : HeldPacket → Type 0
IsSmall held = held.speaker.0 < 2 ^ 64

abbrev bytes_of : (ℕ × Outgoing) → List ℕ
bytes_of offer = offer.1.bytes

offer_is_by : (k : ℕ) (offer : ℕ × Outgoing) (held : HeldPacket) → IsSmall held → IsOfferOf offer held → is_by k (bytes_of offer) ≡ (held.speaker.0 == k)
offer_is_by k offer held small is = ap (is_by k) is.1 ∙ copy_is_by held.speaker.0 k offer.1.context held.parts is.0 small

-- ---- whoever sends has a number that was given

of_seat : (k : ℕ) (o : Option Seat) → IsOf k o → (seat : Seat) × (o ≡ Some seat) × (seat.session.0 ≡ k)
of_seat k None has = absurd has
of_seat k (Some seat) has = (seat, refl, has)

small_number : (core : CoreState) (seat : Seat) → IsLawful core → IsPresent core seat → seat.session.0 < 2 ^ 64
small_number core seat lawful present =
    let state : StateValue = state_at core present.0 in
    let proper = state_proper core present.0 lawful in
    let (user, found, here) = shown (λ (user : User). user.slot) (session_of state.roster seat.session) seat.slot present.1 in
    let known = session_known state seat.session user proper found in
    let fits = proper.roster.last_fits in
    let more : 2 ^ 32 ≤ 2 ^ 64 = lit≤ tt in
    omega (arith, known, fits, more)

one_small : (xs : List HeldPacket) → ((k : ℕ) → (of_speaker k xs ≡ []) ⊎ (k < 2 ^ 64)) → AllByRecursion IsSmall xs
one_small [] each = tt
one_small (held ∷ xs) each = (first (each held.speaker.0), one_small xs (λ k. rest k (held.speaker.0 == k) (each k)))
  where
    first : (of_speaker held.speaker.0 (held ∷ xs) ≡ []) ⊎ (held.speaker.0 < 2 ^ 64) → held.speaker.0 < 2 ^ 64
    first (inr small) = small
    first (inl none) =
        let own : (held.speaker.0 == held.speaker.0) ≡ true = eq-eqb held.speaker.0 held.speaker.0 refl in
        let ys : List HeldPacket = of_speaker held.speaker.0 xs in
        let never : held ∷ ys ≡ [] = subst (λ (b : Bool). cond b (held ∷ ys) ys ≡ []) own none in
        absurd cc

    rest : (k : ℕ) (b : Bool) → (cond b (held ∷ of_speaker k xs) (of_speaker k xs) ≡ []) ⊎ (k < 2 ^ 64) → (of_speaker k xs ≡ []) ⊎ (k < 2 ^ 64)
    rest k true (inl none) = absurd cc
    rest k false (inl none) = inl none
    rest k true (inr small) = inr small
    rest k false (inr small) = inr small

abbrev AllPresent : CoreState → Type 0
AllPresent core = (i : ℕ) → ArePresent core (conn core i)

small_step : (w : ℕ) (core : CoreState) (step : Step) → illegal core step ≡ None → IsLawful core → AllPresent core → AllByRecursion IsSmall (packet_taken w core step)
small_step w core step h lawful present = one_small (packet_taken w core step) (λ k. from k (source w k core step h))
  where
    from : (k : ℕ) → (of_speaker k (packet_taken w core step) ≡ []) ⊎ Source w k core → (of_speaker k (packet_taken w core step) ≡ []) ⊎ (k < 2 ^ 64)
    from k (inl none) = inl none
    from k (inr s) =
        let (seat, is, number) = of_seat k (conn core s.place).seat s.of in
        let small = small_number core seat lawful (present s.place seat (inl is)) in
        inr (subst (λ (n : ℕ). n < 2 ^ 64) number small)

all_both : (xs ys : List HeldPacket) → AllByRecursion IsSmall xs → AllByRecursion IsSmall ys → AllByRecursion IsSmall (xs ++ ys)
all_both [] ys all others = others
all_both (x ∷ xs) ys all others = (all.0, all_both xs ys all.1 others)

small_all : (w : ℕ) (core : CoreState) (run : List Step) → IsRun core run → IsLawful core → AllPresent core → AllByRecursion IsSmall (gathered (packet_taken w) core run)
small_all w core [] is lawful present = tt
small_all w core (step ∷ run) is lawful present =
    all_both (packet_taken w core step) (gathered (packet_taken w) (does core step) run) (small_step w core step is.0 lawful present)
    (small_all w (does core step) run is.1 (lawful_step core step lawful) (λ i. present_step core step i lawful (present i)))

-- ---- the connection of a session

is_of : (k : ℕ) (o : Option Seat) → IsOf k o ⊎ (IsOf k o → ⊥)
is_of k None = inr (λ has. has)
is_of k (Some seat) = cases_eq seat.session.0 k

abbrev Seated : ℕ → List Connection → Type 0
Seated k xs = ((i : ℕ) × IsOf k (slice_index_or xs i (fresh 0)).seat) ⊎ ((i : ℕ) → IsOf k (slice_index_or xs i (fresh 0)).seat → ⊥)

find_seat : (k : ℕ) (xs : List Connection) → Seated k xs
find_seat k [] = inr nobody
  where
    nobody : (i : ℕ) → IsOf k (slice_index_or [] i (fresh 0)).seat → ⊥
    nobody zero has = has
    nobody (suc i) has = has
find_seat k (x ∷ xs) = from (is_of k x.seat) (find_seat k xs)
  where
    nobody : (IsOf k x.seat → ⊥) → ((i : ℕ) → IsOf k (slice_index_or xs i (fresh 0)).seat → ⊥) → (i : ℕ) → IsOf k (slice_index_or (x ∷ xs) i (fresh 0)).seat → ⊥
    nobody first later zero has = first has
    nobody first later (suc i) has = later i has

    from : IsOf k x.seat ⊎ (IsOf k x.seat → ⊥) → Seated k xs → Seated k (x ∷ xs)
    from (inl here) later = inl (0, here)
    from (inr never) (inl later) = inl (suc later.0, later.1)
    from (inr never) (inr none) = inr (nobody never none)

-- ---- one worker takes the packets of a speaker

only_from : (v k : ℕ) (core : CoreState) (run : List Step) → IsRun core run → AreSettled core
    → ((p : ℕ) → IsOf k (conn (ran core run) p).seat → (conn (ran core run) p).worker ≡ v → ⊥) → of_speaker k (gathered (packet_taken v) core run) ≡ []
only_from v k core [] is settled never = refl
only_from v k core (step ∷ run) is settled never =
    joined_none k (packet_taken v core step) (gathered (packet_taken v) (does core step) run) (now (source v k core step is.0))
    (only_from v k (does core step) run is.1 (settled_step core step settled) never)
  where
    now : (of_speaker k (packet_taken v core step) ≡ []) ⊎ Source v k core → of_speaker k (packet_taken v core step) ≡ []
    now (inl none) = none
    now (inr s) =
        let (seat, here, number) = of_seat k (conn core s.place).seat s.of in
        let later = (seat_all core (step ∷ run) s.place (settled s.place)).1 seat here in
        absurd (never s.place (given_of (conn (ran core (step ∷ run)) s.place).seat seat k later number) (worker_stays core (step ∷ run) s.place s.within ∙ s.at))

-- ---- what is heard was offered

heard_none : (n : ℕ) (core : CoreState) (step : Step) (run : List Step) → AreSettled core → ((p : ℕ) → IsOf n (conn (ran core (step ∷ run)) p).seat → ⊥) → heard n core step ≡ []
heard_none n core (Drain d) run settled never = from (connection_at core d).seat refl
  where
    from : (o : Option Seat) → (connection_at core d).seat ≡ o → front_for n core o ≡ []
    from None e = refl
    from (Some seat) e = own (seat.session.0 == n) refl
      where
        own : (b : Bool) → (seat.session.0 == n) ≡ b → cond b (own_front core (Some seat)) [] ≡ []
        own false same = refl
        own true same =
            let last : CoreState = ran core (Drain d ∷ run) in
            let later = seat_on core (Drain d ∷ run) d seat settled e in
            let there : (conn last (d - 1)).seat ≡ Some seat = sym (ap (λ (x : Connection). x.seat) (placed last d (seat_placed last d seat later))) ∙ later in
            absurd (never (d - 1) (given_of (conn last (d - 1)).seat seat n there (eqb-true seat.session.0 n same)))
heard_none n core others run settled never = refl

hears_none : (n : ℕ) (core : CoreState) (run : List Step) → AreSettled core → ((p : ℕ) → IsOf n (conn (ran core run) p).seat → ⊥) → gathered (heard n) core run ≡ []
hears_none n core [] settled never = refl
hears_none n core (step ∷ run) settled never =
    ap (λ (xs : List Parcel). xs ++ gathered (heard n) (does core step) run) (heard_none n core step run settled never)
    ∙ hears_none n (does core step) run (settled_step core step settled) never

abbrev told_bytes : List Parcel → List (List ℕ)
told_bytes parcels = map (λ (parcel : Parcel). parcel.bytes) parcels

abbrev HeardIsSent : Version → StateValue → ℕ → List Step → ℕ → Type 0
HeardIsSent version opening workers run n =
    IsSubsequence (told_bytes (gathered (heard n) (start version opening workers) run)) (map bytes_of (gathered (sent n) (start version opening workers) run))

heard_is_sent : (version : Version) (opening : StateValue) (workers n : ℕ) (run : List Step) → IsProper opening → IsRun (start version opening workers) run → HeardIsSent version opening workers run n
heard_is_sent version opening workers n run proper is = from (find_seat n (ran (start version opening workers) run).connections)
  where
    from : Seated n (ran (start version opening workers) run).connections → HeardIsSent version opening workers run n
    from (inr nobody) =
        subst (λ (xs : List Parcel). IsSubsequence (told_bytes xs) (map bytes_of (gathered (sent n) (start version opening workers) run)))
        (sym (hears_none n (start version opening workers) run (settled_start version opening workers) nobody)) tt
    from (inl place) =
        let first : CoreState = start version opening workers in
        let core : CoreState = ran first run in
        let (seat, here, number) = of_seat n (conn core place.0).seat place.1 in
        let present = seats_present version opening workers run place.0 (lawful_start version opening workers proper) seat (inl here) in
        let m : ℕ = seat.session.0 in
        let left : List Parcel = filter (λ (parcel : Parcel). parcel.to.0 == m) (outbox_at core seat.slot.0) in
        let conserved = sent_is_conserved version opening workers present.0 seat.session seat.slot run proper is present.1 in
        let part = stands_longer (gathered (heard m) first run) (gathered (removed m) first run) left (heard_is_of_removed version opening workers m run) in
        let bytes = mapped_stand (λ (parcel : Parcel). parcel.bytes) (gathered (heard m) first run) (gathered (removed m) first run ++ left) part in
        subst (HeardIsSent version opening workers run) number
        (subst (λ (all : List (List ℕ)). IsSubsequence (told_bytes (gathered (heard m) first run)) all) (sym conserved) bytes)

-- ---- what is heard of one speaker

all_unit : {A : Type 0} (xs : List A) → AllByRecursion (λ x. Unit {0}) xs
all_unit [] = tt
all_unit (x ∷ xs) = (tt, all_unit xs)

-- of the worker that took the packets of a speaker
abbrev FollowsFrom : Version → StateValue → ℕ → List Step → ℕ → ℕ → ℕ → Type 0
FollowsFrom version opening workers run n k w =
    IsSubsequenceBy IsParcelOf (filter (λ parcel. is_by k parcel.bytes) (gathered (heard n) (start version opening workers) run)) (of_speaker k (gathered (packet_taken w) (start version opening workers) run))

follows : (version : Version) (opening : StateValue) (workers n k w : ℕ) (run : List Step) → IsProper opening → IsRun (start version opening workers) run
    → ((v : ℕ) → (v ≡ w → ⊥) → of_speaker k (gathered (packet_taken v) (start version opening workers) run) ≡ []) → FollowsFrom version opening workers run n k w
follows version opening workers n k w run proper is others =
    let first : CoreState = start version opening workers in
    let told : List Parcel = gathered (heard n) first run in
    let offers : List (ℕ × Outgoing) = gathered (sent n) first run in
    let whole : IsSubsequence (filter (is_by k) (told_bytes told)) (filter (is_by k) (map bytes_of offers)) =
    filtered_stand (λ (x y : List ℕ). x ≡ y) (λ y. Unit {0}) (is_by k) (is_by k) (λ x y good same. ap (is_by k) same) (told_bytes told) (map bytes_of offers) (all_unit (map bytes_of offers))
    (heard_is_sent version opening workers n run proper is) in
    let left : filter (is_by k) (told_bytes told) ≡ told_bytes (filter (λ (parcel : Parcel). is_by k parcel.bytes) told) = filter-mapped (λ (parcel : Parcel). parcel.bytes) (is_by k) told in
    let right : filter (is_by k) (map bytes_of offers) ≡ map bytes_of (filter (λ offer. is_by k (bytes_of offer)) (filter (λ (offer : ℕ × Outgoing). offer.0 == w) offers)) =
    filter-mapped bytes_of (is_by k) offers ∙ ap (map bytes_of) (only_of w (λ offer. is_by k (bytes_of offer)) (λ (offer : ℕ × Outgoing). offer.0) offers (λ v other. none_of v (others v other))) in
    let part : IsSubsequence (told_bytes (filter (λ (parcel : Parcel). is_by k parcel.bytes) told)) (map bytes_of (filter (λ offer. is_by k (bytes_of offer)) (filter (λ (offer : ℕ × Outgoing). offer.0 == w) offers))) =
    subst (λ (xs : List (List ℕ)). IsSubsequence xs (map bytes_of (filter (λ offer. is_by k (bytes_of offer)) (filter (λ (offer : ℕ × Outgoing). offer.0 == w) offers)))) left
    (subst (λ (ys : List (List ℕ)). IsSubsequence (filter (is_by k) (told_bytes told)) ys) right whole) in
    from_mapped AreBytesOf (λ (parcel : Parcel). parcel.bytes) (filter (λ (parcel : Parcel). is_by k parcel.bytes) told) (of_speaker k (gathered (packet_taken w) first run))
    (stands_through IsOfferOf AreBytesOf bytes_of (λ offer held of. (offer.1.context, of.0, of.1)) (told_bytes (filter (λ (parcel : Parcel). is_by k parcel.bytes) told))
    (filter (λ offer. is_by k (bytes_of offer)) (filter (λ (offer : ℕ × Outgoing). offer.0 == w) offers)) (of_speaker k (gathered (packet_taken w) first run)) part (of_worker w))
  where
    of_worker : (v : ℕ) → IsSubsequenceBy IsOfferOf (filter (λ offer. is_by k (bytes_of offer)) (filter (λ (offer : ℕ × Outgoing). offer.0 == v) (gathered (sent n) (start version opening workers) run)))
        (of_speaker k (gathered (packet_taken v) (start version opening workers) run))
    of_worker v =
        filtered_stand IsOfferOf IsSmall (λ offer. is_by k (bytes_of offer)) (λ held. held.speaker.0 == k) (offer_is_by k)
        (filter (λ (offer : ℕ × Outgoing). offer.0 == v) (gathered (sent n) (start version opening workers) run)) (gathered (packet_taken v) (start version opening workers) run)
        (small_all v (start version opening workers) run is (lawful_start version opening workers proper) (λ i. none_present (start version opening workers) 0))
        (copies_follow_packets version opening workers v n run proper is)

    none_of : (v : ℕ) → of_speaker k (gathered (packet_taken v) (start version opening workers) run) ≡ []
        → filter (λ offer. is_by k (bytes_of offer)) (filter (λ (offer : ℕ × Outgoing). offer.0 == v) (gathered (sent n) (start version opening workers) run)) ≡ []
    none_of v none =
        stands_in_none IsOfferOf (filter (λ offer. is_by k (bytes_of offer)) (filter (λ (offer : ℕ × Outgoing). offer.0 == v) (gathered (sent n) (start version opening workers) run)))
        (subst (λ (ys : List HeldPacket). IsSubsequenceBy IsOfferOf (filter (λ offer. is_by k (bytes_of offer)) (filter (λ (offer : ℕ × Outgoing). offer.0 == v) (gathered (sent n) (start version opening workers) run))) ys) none (of_worker v))

pub heard_in_order : (version : Version) (opening : StateValue) (workers n speaker : ℕ) (run : List Step) → IsProper opening → IsRun (start version opening workers) run
    → (w : ℕ) × ((v : ℕ) → (v ≡ w → ⊥) → of_speaker speaker (gathered (packet_taken v) (start version opening workers) run) ≡ []) × FollowsFrom version opening workers run n speaker w
heard_in_order version opening workers n speaker run proper is = from (find_seat speaker (ran (start version opening workers) run).connections)
  where
    whole : (w : ℕ) → ((v : ℕ) → (v ≡ w → ⊥) → of_speaker speaker (gathered (packet_taken v) (start version opening workers) run) ≡ [])
        → (w : ℕ) × ((v : ℕ) → (v ≡ w → ⊥) → of_speaker speaker (gathered (packet_taken v) (start version opening workers) run) ≡ []) × FollowsFrom version opening workers run n speaker w
    whole w others = (w, others, follows version opening workers n speaker w run proper is others)

    from : Seated speaker (ran (start version opening workers) run).connections
        → (w : ℕ) × ((v : ℕ) → (v ≡ w → ⊥) → of_speaker speaker (gathered (packet_taken v) (start version opening workers) run) ≡ []) × FollowsFrom version opening workers run n speaker w
    from (inr nobody) = whole 0 (λ v other. only_from v speaker (start version opening workers) run is (settled_start version opening workers) (λ p has at. nobody p has))
    from (inl place) =
        let core : CoreState = ran (start version opening workers) run in
        let sound = sound_all (start version opening workers) run (sound_start version opening workers) in
        whole (conn core place.0).worker
        (λ v other. only_from v speaker (start version opening workers) run is (settled_start version opening workers)
        (λ p has at. other (sym at ∙ ap (λ (i : ℕ). (conn core i).worker) (sound.alone place.0 p speaker (inl place.1) (inl has)))))
