-- A packet of a core at rest is heard, looked for, offered and drained, and the core is at rest again.
use Rattle.mum_laws.proofs.Common.{◌≡◌, ℕ, zero, suc, ◌+◌, ◌-◌, ◌/◌, ◌%◌, ◌^◌, ◌<◌, Bool, true, false, cond, List, [], ◌∷◌, ◌++◌, length, map, take, drop, Option, Some, None, Result, Ok, refl, sym, ap, subst, ◌∙◌, arith, length-append, inl, inr, is_none, nat_lt, not, slice_get, slice_index_or, AllByRecursion, cases_eq, le-ltb, lt-ltb, append-nil, drop_at, take_all, mod_below, SessionId, Slot, kind_of, payload_of, spelling_of, UDP_TUNNEL, kind-reads_back, payload_of-spelling, Parts, audio_len, is_audio_kind, opus_len, packet, packet_by_audio, packet_by_sequence, BadVoice, PACKET_LIMIT, number_at, shortest_word, word_at, length-shortest_word, shortest_word-read, User, has_number, Edit, led_to, StateValue, each_find, hearers_at, Member, each_hearer, seated, found_number, action, Action, Voice, Step, Drain, Frame, Look, Offer, Connection, Seat, Outgoing, fresh, CoreState, at_worker, connection_at, current, state_at, up, worker_at, IsRun, ran, machine_of, does, frame_action, frame_version, illegal, HeldPacket, WorkerState, idle, least_look, copy_queues, hears, spoken, changed_other, changed_same, length-changed, delivered, conn, puts_workers, taken_core, packet_bytes, voice_frame, worker_of, WORKERS}
use Rattle.mum_users.specs.Sessions.{session_of}
use Rattle.mum_laws.proofs.{Bringing.AreEmpty, Requesting.frame_allowed, Resting.AreSeated, Resting.HasSeat, Resting.IsFree, Resting.Rest, Resting.Rests, Resting.at_rest, Resting.here, Resting.may_take, Resting.passed, Resting.seats_of}
use Rattle.mum_core.specs.steps.Frame as frame_step
use Rattle.mum_core.specs.steps.Look as look_step
use Rattle.mum_core.specs.steps.Offer as offer_step

-- ---- the packet of a round

pub kind_read : (kind : ℕ) (payload : List ℕ) → kind < 2 ^ 16 → kind_of (spelling_of kind payload) ≡ kind
unfolding kind_of
kind_read kind payload fits = ap kind_of (sym (append-nil (spelling_of kind payload))) ∙ kind-reads_back kind payload [] fits

pub payload_read : (kind : ℕ) (payload : List ℕ) → payload_of (spelling_of kind payload) ≡ payload
payload_read kind payload = payload_of-spelling (record { kind = kind; payload = payload })

abbrev sound : List ℕ
sound = 0x03 ∷ 0xaa ∷ 0xbb ∷ 0xcc ∷ []

sound_length : audio_len 4 sound ≡ Some 4
unfolding audio_len opus_len word_at number_at
sound_length = refl

second_way : {A : Type 0} (a b : Bool) (x y z : A) → a ≡ false → b ≡ true → cond a x (cond b y z) ≡ y
second_way true b x y z off on = cc
second_way false true x y z off on = refl
second_way false false x y z off on = cc

below_two : (P : ℕ → Type 0) (n : ℕ) → n < 2 → P 0 → P 1 → P n
below_two P zero low first second = first
below_two P (suc zero) low first second = second
below_two P (suc (suc n)) low first second = absurd (omega (arith, low))

is_audio : (target : ℕ) → target < 2 → (0x80 + target) / 2 ^ 5 ≡ 4
is_audio target low = below_two (λ n. (0x80 + n) / 2 ^ 5 ≡ 4) target low refl refl

packet_is : (header : ℕ) (bytes : List ℕ) → nat_lt PACKET_LIMIT (length bytes + 1) ≡ false → is_audio_kind (header / 2 ^ 5) ≡ true
    → packet (header ∷ bytes) ≡ packet_by_sequence header bytes (word_at bytes)
unfolding packet
packet_is header bytes short known = second_way (nat_lt PACKET_LIMIT (length bytes + 1)) (is_audio_kind (header / 2 ^ 5)) _ _ _ short known

pub packet_read : (target number : ℕ) → target < 2 → number < 2 ^ 64 → (parts : Parts) × (packet (packet_bytes target number) ≡ Ok parts)
packet_read target number low fits =
    let header : ℕ = 0x80 + target in
    let seq : List ℕ = shortest_word number in
    let bytes : List ℕ = seq ++ sound in
    let n : ℕ = length seq in
    let few = length-shortest_word number in
    let size = length-append seq sound in
    let short : nat_lt PACKET_LIMIT (length bytes + 1) ≡ false = le-ltb PACKET_LIMIT (length bytes + 1) (omega (arith, few, size)) in
    let four = is_audio target low in
    let known : is_audio_kind (header / 2 ^ 5) ≡ true = ap is_audio_kind four in
    let left : drop n bytes ≡ sound = drop_at seq sound n refl in
    let audio : audio_len (header / 2 ^ 5) (drop n bytes) ≡ Some 4 = ap (audio_len (header / 2 ^ 5)) left ∙ ap (λ (k : ℕ). audio_len k sound) four ∙ sound_length in (
      record { kind = header / 2 ^ 5; target = header % 2 ^ 5; sequence = take n bytes; audio = take 4 (drop n bytes); position = drop 4 (drop n bytes) },
      packet_is header bytes short known ∙ ap (packet_by_sequence header bytes) (shortest_word-read number sound fits) ∙ ap (packet_by_audio header (take n bytes) (drop n bytes)) audio,
    )

-- a packet of who has a seat is heard
voice_heard : (c worker : ℕ) (version : Option ℕ) (seat : Seat) (lagged : Bool) (payload : List ℕ) → action (machine_of c (at_rest worker version (Some seat) lagged)) UDP_TUNNEL payload ≡ Voice payload
unfolding action
voice_heard c worker version seat lagged payload = refl

-- ---- the deliveries

record Unmoved (old new : CoreState) : Type 0 where
  connections : new.connections ≡ old.connections
  opening : new.opening ≡ old.opening
  accepted : new.accepted ≡ old.accepted
  published : new.published ≡ old.published
  pending : new.pending ≡ old.pending
  posts : new.posts ≡ old.posts

both_unmoved : (one two three : CoreState) → Unmoved one two → Unmoved two three → Unmoved one three
both_unmoved one two three first later = record {
  connections = later.connections ∙ first.connections;
  opening = later.opening ∙ first.opening;
  accepted = later.accepted ∙ first.accepted;
  published = later.published ∙ first.published;
  pending = later.pending ∙ first.pending;
  posts = later.posts ∙ first.posts;
}

unmoved : (core : CoreState) → Unmoved core core
unmoved core = record { connections = refl; opening = refl; accepted = refl; published = refl; pending = refl; posts = refl }

cond_unmoved : (b : Bool) (core x y : CoreState) → Unmoved core x → Unmoved core y → Unmoved core (cond b x y)
cond_unmoved true core x y hx hy = hx
cond_unmoved false core x y hx hy = hy

puts_unmoved : (core : CoreState) (next : Option Outgoing) → Unmoved core (offer_step.puts core next)
puts_unmoved core None = unmoved core
puts_unmoved core (Some next) =
    cond_unmoved (offer_step.has_room core next.slot.0) core _ _ (record { connections = refl; opening = refl; accepted = refl; published = refl; pending = refl; posts = refl })
    (record { connections = refl; opening = refl; accepted = refl; published = refl; pending = refl; posts = refl })

offer_unmoved : (core : CoreState) (w : ℕ) → Unmoved core (does core (Offer w))
offer_unmoved core w =
    let puts = puts_unmoved (taken_core core w) (offer_step.next_copy core w) in
    record { connections = puts.connections; opening = puts.opening; accepted = puts.accepted; published = puts.published; pending = puts.pending; posts = puts.posts }

abbrev Drained : CoreState → CoreState → Type 0
Drained old new = Unmoved old new × (new.workers ≡ old.workers)

drain_unmoved : (core : CoreState) (c : ℕ) → Drained core (does core (Drain c))
drain_unmoved core c =
    let same = delivered (Drained core) copy_queues core (connection_at core c).seat (unmoved core, refl)
    (λ slot. (record { connections = refl; opening = refl; accepted = refl; published = refl; pending = refl; posts = refl }, refl))
    (λ slot. (record { connections = refl; opening = refl; accepted = refl; published = refl; pending = refl; posts = refl }, refl)) in
    (record { connections = same.0.connections; opening = same.0.opening; accepted = same.0.accepted; published = same.0.published; pending = same.0.pending; posts = same.0.posts }, same.1)

-- what the offers of all copies of a worker leave
record Offered (core : CoreState) (w : ℕ) (steps : List Step) : Type 0 where
  allowed : IsRun core steps
  same : Unmoved core (ran core steps)
  many : length (ran core steps).workers ≡ length core.workers
  own : worker_at (ran core steps) w ≡ record (worker_at core w) { copies = [] }
  other : (k : ℕ) → (k ≡ w → ⊥) → worker_at (ran core steps) k ≡ worker_at core k

abbrev offers : ℕ → List Outgoing → List Step
offers w copies = map (λ (copy : Outgoing). Offer w) copies

offer_allowed : (core : CoreState) (w : ℕ) (copy : Outgoing) (copies : List Outgoing) → w < length core.workers → (worker_at core w).copies ≡ copy ∷ copies → illegal core (Offer w) ≡ None
offer_allowed core w copy copies within has =
    let first : not (nat_lt w (length core.workers)) ≡ false = ap not (lt-ltb w (length core.workers) within) in
    let second : is_none (offer_step.next_copy core w) ≡ false = ap (λ (xs : List Outgoing). is_none (slice_get xs 0)) has in
    passed (not (nat_lt w (length core.workers))) _ _ first (passed (is_none (offer_step.next_copy core w)) _ _ second refl)

all_offered : (core : CoreState) (w : ℕ) (copies : List Outgoing) → w < length core.workers → (worker_at core w).copies ≡ copies → Offered core w (offers w copies)
all_offered core w [] within has = record {
  allowed = tt;
  same = unmoved core;
  many = refl;
  own = ap (λ (left : List Outgoing). record (worker_at core w) { copies = left }) has;
  other = λ k other. refl;
}
all_offered core w (copy ∷ copies) within has =
    let next : CoreState = does core (Offer w) in
    let takes : WorkerState → WorkerState = λ worker. record worker { copies = drop 1 worker.copies } in
    let workers : next.workers ≡ (taken_core core w).workers = puts_workers (taken_core core w) (offer_step.next_copy core w) in
    let many : length next.workers ≡ length core.workers = ap (λ (ws : List WorkerState). length ws) workers ∙ length-changed core.workers w takes in
    let own : worker_at next w ≡ record (worker_at core w) { copies = copies } =
    ap (λ (ws : List WorkerState). slice_index_or ws w idle) workers ∙ changed_same core.workers w takes idle within
    ∙ ap (λ (left : List Outgoing). record (worker_at core w) { copies = drop 1 left }) has in
    let other : (k : ℕ) → (k ≡ w → ⊥) → worker_at next k ≡ worker_at core k =
    λ k apart. ap (λ (ws : List WorkerState). slice_index_or ws k idle) workers ∙ changed_other core.workers w k takes idle apart in
    let later = all_offered next w copies (omega (arith, many, within)) (ap (λ (worker : WorkerState). worker.copies) own) in
    record {
      allowed = (offer_allowed core w copy copies within has, later.allowed);
      same = both_unmoved core next (ran next (offers w copies)) (offer_unmoved core w) later.same;
      many = later.many ∙ many;
      own = later.own ∙ ap (λ (worker : WorkerState). record worker { copies = [] }) own;
      other = λ k apart. later.other k apart ∙ other k apart;
    }

-- a copy whose recipient has a seat
abbrev IsTaken : List Connection → Outgoing → Type 0
IsTaken connections copy = (slot : Slot) × HasSeat (length connections) (λ i. (slice_index_or connections i (fresh 0)).seat) copy.to slot

record DrainedAll (core : CoreState) (steps : List Step) : Type 0 where
  allowed : IsRun core steps
  same : Drained core (ran core steps)

abbrev drains : List Outgoing → List Step
drains copies = map (λ (copy : Outgoing). Drain copy.to.0) copies

all_drained : (core : CoreState) (copies : List Outgoing) → ((i : ℕ) → Rests (slice_index_or core.connections i (fresh 0))) → AllByRecursion (IsTaken core.connections) copies → DrainedAll core (drains copies)
all_drained core [] rest all = record { allowed = tt; same = (unmoved core, refl) }
all_drained core (copy ∷ copies) rest all =
    let next : CoreState = does core (Drain copy.to.0) in
    let first = drain_unmoved core copy.to.0 in
    let later = all_drained next copies (subst (λ (xs : List Connection). (i : ℕ) → Rests (slice_index_or xs i (fresh 0))) (sym first.0.connections) rest)
    (subst (λ (xs : List Connection). AllByRecursion (IsTaken xs) copies) (sym first.0.connections) all.1) in
    record {
      allowed = (may_take core copy.to all.0.0 rest all.0.1, later.allowed);
      same = (both_unmoved core next (ran next (drains copies)) first.0 later.same.0, later.same.1 ∙ first.1);
    }

run_joined : (core : CoreState) (one two : List Step) → IsRun core one → IsRun (ran core one) two → IsRun core (one ++ two)
run_joined core [] two first second = second
run_joined core (step ∷ one) two first second = (first.0, run_joined (does core step) one two first.1 second)

ran_joined : (core : CoreState) (one two : List Step) → ran core (one ++ two) ≡ ran (ran core one) two
ran_joined core [] two = refl
ran_joined core (step ∷ one) two = ran_joined (does core step) one two

all_mapped : {A B : Type 0} (P : B → Type 0) (f : A → B) (xs : List A) → AllByRecursion (λ x. P (f x)) xs → AllByRecursion P (map f xs)
all_mapped P f [] all = tt
all_mapped P f (x ∷ xs) all = (all.0, all_mapped P f xs all.1)

-- ---- a packet

abbrev pub heard_core : CoreState → ℕ → List ℕ → CoreState
heard_core core c bytes = does core (Frame c bytes)

abbrev pub looking : CoreState → ℕ → List ℕ → Step
looking core c bytes = Look (worker_of c) (heard_core core c bytes).published

abbrev pub looked_core : CoreState → ℕ → List ℕ → CoreState
looked_core core c bytes = does (heard_core core c bytes) (looking core c bytes)

abbrev pub deliveries : ℕ → List Outgoing → List Step
deliveries w copies = map (λ (copy : Outgoing). Offer w) copies ++ map (λ (copy : Outgoing). Drain copy.to.0) copies

-- what a look and the deliveries leave
pub record Spoken (n : ℕ) (core : CoreState) (w : ℕ) (heard : CoreState) : Type 0 where
  pub looked : illegal heard (Look w heard.published) ≡ None
  pub delivered : IsRun (does heard (Look w heard.published)) (deliveries w (worker_at (does heard (Look w heard.published)) w).copies)
  pub rest : Rest n (ran (does heard (Look w heard.published)) (deliveries w (worker_at (does heard (Look w heard.published)) w).copies))
  pub seats : (ran (does heard (Look w heard.published)) (deliveries w (worker_at (does heard (Look w heard.published)) w).copies)).connections ≡ core.connections
  pub state : current (ran (does heard (Look w heard.published)) (deliveries w (worker_at (does heard (Look w heard.published)) w).copies)) ≡ current core

-- a core of which a worker holds a packet
abbrev holding : CoreState → ℕ → HeldPacket → CoreState
holding core w held = record (at_worker w (λ worker. record worker { held = Some held }) core) { line = up core.line }

module _ (n : ℕ) (core : CoreState) (w : ℕ) (held : HeldPacket) (rest : Rest n core) (within : w < length core.workers) where
  abbrev heard : CoreState
  heard = holding core w held

  abbrev looked : CoreState
  looked = does heard (Look w heard.published)

  many_heard : length heard.workers ≡ length core.workers
  many_heard = length-changed core.workers w (λ (worker : WorkerState). record worker { held = Some held })

  holds : worker_at heard w ≡ record (worker_at core w) { held = Some held }
  holds = changed_same core.workers w (λ (worker : WorkerState). record worker { held = Some held }) idle within

  within_heard : w < length heard.workers
  within_heard = let many = many_heard in omega (arith, many, within)

  look_allowed : illegal heard (Look w heard.published) ≡ None
  look_allowed =
      let first : not (nat_lt w (length heard.workers)) ≡ false = ap not (lt-ltb w (length heard.workers) within_heard) in
      let second : is_none (worker_at heard w).held ≡ false = ap (λ (worker : WorkerState). is_none worker.held) holds in
      let free = rest.free w in
      let seen = free.seen in
      let noted = free.told in
      let least : nat_lt core.published (least_look (worker_at core w)) ≡ false = le-ltb core.published (least_look (worker_at core w)) (omega (arith, seen, noted)) in
      let third : nat_lt heard.published (least_look (worker_at heard w)) ≡ false = ap (λ (worker : WorkerState). nat_lt core.published (least_look worker)) holds ∙ least in
      let fourth : nat_lt core.published core.published ≡ false = le-ltb core.published core.published (omega arith) in
      passed (not (nat_lt w (length heard.workers))) _ _ first
      (passed (is_none (worker_at heard w).held) _ _ second
      (passed (nat_lt heard.published (least_look (worker_at heard w))) _ _ third (passed (nat_lt core.published core.published) _ _ fourth refl)))

  abbrev found : List Outgoing
  found = look_step.copies (state_at heard heard.published) (worker_at heard w).held

  found_is : found ≡ map (look_step.outgoing held) (hearers_at (current core) held.speaker held.parts.target)
  found_is =
      let all : take core.published core.accepted ≡ core.accepted = let same = rest.published in take_all core.published core.accepted (omega (arith, same)) in
      ap (λ (worker : WorkerState). look_step.copies (state_at heard heard.published) worker.held) holds
      ∙ ap (λ (edits : List Edit). look_step.copies (led_to core.opening edits) (Some held)) all

  looked_worker : worker_at looked w ≡ record (worker_at heard w) { seen = heard.published; held = None; copies = found }
  looked_worker = changed_same heard.workers w (λ (worker : WorkerState). record worker { seen = heard.published; held = None; copies = found }) idle within_heard

  many_looked : length looked.workers ≡ length core.workers
  many_looked = length-changed heard.workers w (λ (worker : WorkerState). record worker { seen = heard.published; held = None; copies = found }) ∙ many_heard

  looked_other : (k : ℕ) → (k ≡ w → ⊥) → worker_at looked k ≡ worker_at core k
  looked_other k apart =
      changed_other heard.workers w k (λ (worker : WorkerState). record worker { seen = heard.published; held = None; copies = found }) idle apart
      ∙ changed_other core.workers w k (λ (worker : WorkerState). record worker { held = Some held }) idle apart

  copies_are : (worker_at looked w).copies ≡ map (look_step.outgoing held) (hearers_at (current core) held.speaker held.parts.target)
  copies_are = ap (λ (worker : WorkerState). worker.copies) looked_worker ∙ found_is

  to_seat : (one : Member) (user : User) → session_of (current core).roster one.0 ≡ Some user → IsTaken core.connections (look_step.outgoing held (seated (current core) held.speaker one user))
  to_seat one user there =
      let kept = each_find (λ user. HasSeat n (seats_of core) user.session user.slot) (has_number one.0) (current core).roster.sessions user rest.seated there in
      let same : user.session ≡ one.0 = found_number (current core).roster.sessions one.0 user there in
      (user.slot, subst (λ (k : ℕ). HasSeat k (seats_of core) one.0 user.slot) (sym rest.many) (subst (λ (session : SessionId). HasSeat n (seats_of core) session user.slot) same kept.0))

  all_taken : AllByRecursion (IsTaken core.connections) (worker_at looked w).copies
  all_taken =
      subst (λ (copies : List Outgoing). AllByRecursion (IsTaken core.connections) copies) (sym copies_are)
      (all_mapped (IsTaken core.connections) (look_step.outgoing held) (hearers_at (current core) held.speaker held.parts.target)
      (each_hearer (current core) held.speaker held.parts.target (λ hearer. IsTaken core.connections (look_step.outgoing held hearer)) to_seat))

  within_looked : w < length looked.workers
  within_looked = let many = many_looked in omega (arith, many, within)

  pub spoken_so : Spoken n core w heard
  spoken_so =
      let copies : List Outgoing = (worker_at looked w).copies in
      let sent = all_offered looked w copies within_looked refl in
      let mid : CoreState = ran looked (offers w copies) in
      let rests : (i : ℕ) → Rests (slice_index_or mid.connections i (fresh 0)) = subst (λ (xs : List Connection). (i : ℕ) → Rests (slice_index_or xs i (fresh 0))) (sym sent.same.connections) rest.each in
      let drained = all_drained mid copies rests (subst (λ (xs : List Connection). AllByRecursion (IsTaken xs) copies) (sym sent.same.connections) all_taken) in
      let last : CoreState = ran mid (drains copies) in
      let joined : ran looked (deliveries w copies) ≡ last = ran_joined looked (offers w copies) (drains copies) in
      let same = both_unmoved looked mid last sent.same drained.same.0 in
      let state : current last ≡ current core = ap (λ (s : StateValue). led_to s last.accepted) same.opening ∙ ap (led_to core.opening) same.accepted in
      let workers : last.workers ≡ mid.workers = drained.same.1 in
      let free : (k : ℕ) → IsFree core.published (worker_at mid k) = λ k. elim (cases_eq k w) [
        | inl here ↦
            let own : worker_at mid w ≡ record (worker_at core w) { seen = core.published; held = None; copies = [] } =
            sent.own ∙ ap (λ (worker : WorkerState). record worker { copies = [] }) looked_worker
            ∙ ap (λ (worker : WorkerState). record worker { seen = core.published; held = None; copies = [] }) holds in
            let before = (rest.free w).told in
            subst (λ (j : ℕ). IsFree core.published (worker_at mid j)) (sym here)
            (subst (IsFree core.published) (sym own) (record { held = refl; copies = refl; seen = omega arith; told = before }))
        | inr apart ↦ subst (IsFree core.published) (sym (sent.other k apart ∙ looked_other k apart)) (rest.free k)
      ] in
      let rested : Rest n last = record {
        many = ap (λ (xs : List Connection). length xs) same.connections ∙ rest.many;
        each = subst (λ (xs : List Connection). (i : ℕ) → Rests (slice_index_or xs i (fresh 0))) (sym same.connections) rest.each;
        at = subst (λ (xs : List Connection). (i : ℕ) → i < n → (slice_index_or xs i (fresh 0)).worker ≡ i % WORKERS) (sym same.connections) rest.at;
        workers = ap (λ (ws : List WorkerState). length ws) workers ∙ sent.many ∙ many_looked ∙ rest.workers;
        free = λ k.
            subst (λ (p : ℕ). IsFree p (worker_at last k)) (sym same.published)
            (subst (λ (ws : List WorkerState). IsFree core.published (slice_index_or ws k idle)) (sym workers) (free k));
        published = same.published ∙ rest.published ∙ sym (ap (λ (es : List Edit). length es) same.accepted);
        pending = same.pending ∙ rest.pending;
        posts = subst AreEmpty (sym same.posts) rest.posts;
        seated =
            subst (λ (s : StateValue). AreSeated n (seats_of last) s.roster.sessions) (sym state)
            (subst (λ (xs : List Connection). AreSeated n (λ (j : ℕ). (slice_index_or xs j (fresh 0)).seat) (current core).roster.sessions) (sym same.connections) rest.seated);
      } in
      record {
        looked = look_allowed;
        delivered = run_joined looked (offers w copies) (drains copies) sent.allowed drained.allowed;
        rest = subst (Rest n) (sym joined) rested;
        seats = subst (λ (new : CoreState). new.connections ≡ core.connections) (sym joined) same.connections;
        state = subst (λ (new : CoreState). current new ≡ current core) (sym joined) state;
      }

pub record Speaks (n : ℕ) (core : CoreState) (i : ℕ) (bytes : List ℕ) : Type 0 where
  pub heard : illegal core (Frame (i + 1) bytes) ≡ None
  pub spoken : Spoken n core (worker_of (i + 1)) (heard_core core (i + 1) bytes)

pub speaks_so : (n : ℕ) (core : CoreState) (i target number : ℕ) (seat : Seat) → Rest n core → i < n → seats_of core i ≡ Some seat → target < 2 → number < 2 ^ 64
    → Speaks n core i (voice_frame target number)
speaks_so n core i target number seat rest within seated low fits =
    let c : ℕ = i + 1 in
    let bytes : List ℕ = voice_frame target number in
    let payload : List ℕ = packet_bytes target number in
    let x : Connection = conn core i in
    let is : connection_at core c ≡ at_rest x.worker x.version (Some seat) x.lagged = here core i ∙ rest.each i ∙ ap (λ (s : Option Seat). at_rest x.worker x.version s x.lagged) seated in
    let kind : kind_of bytes ≡ UDP_TUNNEL = kind_read UDP_TUNNEL payload (omega arith) in
    let voice : frame_action core c bytes ≡ Voice payload =
    ap (λ (y : Connection). action (machine_of c y) (kind_of bytes) (payload_of bytes)) is
    ∙ ap (λ (k : ℕ). action (machine_of c (at_rest x.worker x.version (Some seat) x.lagged)) k (payload_of bytes)) kind
    ∙ ap (λ (p : List ℕ). action (machine_of c (at_rest x.worker x.version (Some seat) x.lagged)) UDP_TUNNEL p) (payload_read UDP_TUNNEL payload)
    ∙ voice_heard c x.worker x.version seat x.lagged payload in
    let read = packet_read target number low fits in
    let held : HeldPacket = record { speaker = seat.session; parts = read.0 } in
    let place : c - 1 ≡ i = omega arith in
    let worker : x.worker ≡ worker_of c = rest.at i within ∙ ap (λ (k : ℕ). k % WORKERS) (sym place) in
    let heard : heard_core core c bytes ≡ holding core (worker_of c) held =
    ap (λ (a : Action). record (frame_step.does core c (frame_version core c bytes) a) { line = up core.line }) voice
    ∙ ap (λ (y : Connection). record (hears core y.worker (spoken y.seat (packet payload))) { line = up core.line }) is
    ∙ ap (λ (r : Result Parts BadVoice). record (hears core x.worker (spoken (Some seat) r)) { line = up core.line }) read.1
    ∙ ap (λ (w : ℕ). holding core w held) worker in
    let below : worker_of c < WORKERS = mod_below (c - 1) WORKERS (omega arith) in
    let many = rest.workers in
    record {
      heard = frame_allowed n core i bytes rest within;
      spoken = subst (Spoken n core (worker_of c)) (sym heard) (spoken_so n core (worker_of c) held rest (omega (arith, below, many)));
    }
