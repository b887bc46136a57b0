-- The packets of a worker are routed in a core in which nothing is underway, and leave such a core.
use Rattle.mum_recording_laws.proofs.Common.{◌≡◌, ℕ, ◌-◌, ◌≤◌, ◌<◌, ◌==◌, ◌&&◌, max, Bool, true, false, cond, List, [], ◌∷◌, ◌++◌, length, map, drop, Option, Some, None, Result, Ok, refl, sym, ap, subst, ◌∙◌, arith, inl, inr, is_none, is_some, nat_lt, not, option_to_list, slice_get, slice_index_or, list_any, option_map, cases_eq, eq-eqb, le-ltb, lt-ltb, ne_eqb, ControlEntry, Step, Frame, Look, Offer, Action, Edit, Parts, packet, BadVoice, Connection, Seat, Outgoing, fresh, session_of, CoreState, at_worker, connection_at, is_opened, state_at, up, worker_at, IsRun, gathered, ran, does, frame_version, illegal, HeldPacket, WorkerState, idle, least_look, hears, spoken, changed_other, changed_same, length-changed, puts_workers, taken_core, Past, leaves, AreOrderly, Routed, decided, routed, routed_at}
use Rattle.mum_recording_laws.proofs.{Asking.voice_frame, Asking.voice_heard, Following.Follows, Moving.IsFree, Moving.frame_allowed, Moving.passed, Resting.Ready, Resting.Sits}
use Rattle.mum_core.specs.steps.Frame as frame_step
use Rattle.mum_core.specs.steps.Look as look_step
use Rattle.mum_core.specs.steps.Offer as offer_step

-- ---- what is offered

-- nothing but workers, boxes and counts changes
record Unmoved (old new : CoreState) : Type 0 where
  connections : new.connections ≡ old.connections
  opening : new.opening ≡ old.opening
  accepted : new.accepted ≡ old.accepted
  published : new.published ≡ old.published

both_unmoved : (one two three : CoreState) → Unmoved one two → Unmoved two three → Unmoved one three
both_unmoved one two three first later = record {
  connections = later.connections ∙ first.connections;
  opening = later.opening ∙ first.opening;
  accepted = later.accepted ∙ first.accepted;
  published = later.published ∙ first.published;
}

unmoved : (core : CoreState) → Unmoved core core
unmoved core = record { connections = refl; opening = refl; accepted = refl; published = refl }

cond_unmoved : (b : Bool) (core x y : CoreState) → Unmoved core x → Unmoved core y → Unmoved core (cond b x y)
cond_unmoved true core x y hx hy = hx
cond_unmoved false core x y hx hy = hy

puts_unmoved : (core : CoreState) (next : Option Outgoing) → Unmoved core (offer_step.puts core next)
puts_unmoved core None = unmoved core
puts_unmoved core (Some next) =
    cond_unmoved (offer_step.has_room core next.slot.0) core _ _ (record { connections = refl; opening = refl; accepted = refl; published = refl })
    (record { connections = refl; opening = refl; accepted = refl; published = refl })

offer_unmoved : (core : CoreState) (w : ℕ) → Unmoved core (does core (Offer w))
offer_unmoved core w =
    let puts = puts_unmoved (taken_core core w) (offer_step.next_copy core w) in
    record { connections = puts.connections; opening = puts.opening; accepted = puts.accepted; published = puts.published }

abbrev offers : ℕ → List Outgoing → List Step
offers w copies = map (λ (copy : Outgoing). Offer w) copies

record Offered (core : CoreState) (w : ℕ) (run : List Step) : Type 0 where
  allowed : IsRun core run
  same : Unmoved core (ran core run)
  many : length (ran core run).workers ≡ length core.workers
  own : worker_at (ran core run) w ≡ record (worker_at core w) { copies = [] }
  other : (k : ℕ) → (k ≡ w → ⊥) → worker_at (ran core run) k ≡ worker_at core k
  decides : gathered decided core run ≡ []
  silent : (k : ℕ) → gathered (routed k) core run ≡ []
  orderly : AreOrderly core run

offer_allowed : (core : CoreState) (w : ℕ) (copy : Outgoing) (copies : List Outgoing) → w < length core.workers → (worker_at core w).copies ≡ copy ∷ copies → illegal core (Offer w) ≡ None
offer_allowed core w copy copies within has =
    let first : not (nat_lt w (length core.workers)) ≡ false = ap not (lt-ltb w (length core.workers) within) in
    let second : is_none (offer_step.next_copy core w) ≡ false = ap (λ (xs : List Outgoing). is_none (slice_get xs 0)) has in
    passed (not (nat_lt w (length core.workers))) _ _ first (passed (is_none (offer_step.next_copy core w)) _ _ second refl)

all_offered : (core : CoreState) (w : ℕ) (copies : List Outgoing) → w < length core.workers → (worker_at core w).copies ≡ copies → Offered core w (offers w copies)
all_offered core w [] within has = record {
  allowed = tt;
  same = unmoved core;
  many = refl;
  own = ap (λ (left : List Outgoing). record (worker_at core w) { copies = left }) has;
  other = λ k other. refl;
  decides = refl;
  silent = λ k. refl;
  orderly = tt;
}
all_offered core w (copy ∷ copies) within has =
    let next : CoreState = does core (Offer w) in
    let takes : WorkerState → WorkerState = λ worker. record worker { copies = drop 1 worker.copies } in
    let workers : next.workers ≡ (taken_core core w).workers = puts_workers (taken_core core w) (offer_step.next_copy core w) in
    let many : length next.workers ≡ length core.workers = ap (λ (ws : List WorkerState). length ws) workers ∙ length-changed core.workers w takes in
    let own : worker_at next w ≡ record (worker_at core w) { copies = copies } =
    ap (λ (ws : List WorkerState). slice_index_or ws w idle) workers ∙ changed_same core.workers w takes idle within
    ∙ ap (λ (left : List Outgoing). record (worker_at core w) { copies = drop 1 left }) has in
    let other : (k : ℕ) → (k ≡ w → ⊥) → worker_at next k ≡ worker_at core k =
    λ k apart. ap (λ (ws : List WorkerState). slice_index_or ws k idle) workers ∙ changed_other core.workers w k takes idle apart in
    let later = all_offered next w copies (omega (arith, many, within)) (ap (λ (worker : WorkerState). worker.copies) own) in
    record {
      allowed = (offer_allowed core w copy copies within has, later.allowed);
      same = both_unmoved core next (ran next (offers w copies)) (offer_unmoved core w) later.same;
      many = later.many ∙ many;
      own = later.own ∙ ap (λ (worker : WorkerState). record worker { copies = [] }) own;
      other = λ k apart. later.other k apart ∙ other k apart;
      decides = later.decides;
      silent = later.silent;
      orderly = (tt, later.orderly);
    }

-- ---- a packet

-- where a worker has looked for a packet and offered all of its copies
pub record Said (n : ℕ) (place : ℕ → ℕ) (core : CoreState) (past : Past) (earlier : List ControlEntry) (w revision : ℕ) (held : HeldPacket) : Type 0 where
  pub run : List Step
  pub allowed : IsRun core run
  pub ready : Ready n place (ran core run) past earlier
  pub crew : length (ran core run).workers ≡ length core.workers
  pub decides : gathered decided core run ≡ []
  pub own : gathered (routed w) core run ≡ routed_at core revision held ∷ []
  pub silent : (v : ℕ) → (v ≡ w → ⊥) → gathered (routed v) core run ≡ []
  pub others : (v : ℕ) → (v ≡ w → ⊥) → worker_at (ran core run) v ≡ worker_at core v
  pub least : least_look (worker_at (ran core run) w) ≡ revision
  pub orderly : AreOrderly core run

-- a core of which a worker holds a packet
abbrev holding : CoreState → ℕ → HeldPacket → CoreState
holding core w held = record (at_worker w (λ worker. record worker { held = Some held }) core) { line = up core.line }

follows_same : (old new : CoreState) (past : Past) → Unmoved old new → Follows old past → Follows new past
follows_same old new past same follows = record {
  opening = follows.opening ∙ sym same.opening;
  accepted = follows.accepted ∙ sym same.accepted;
  sessions = λ c. follows.sessions c ∙ sym (ap (λ (xs : List Connection). session_of (cond (nat_lt 0 c) (slice_index_or xs (c - 1) (fresh 0)) (fresh 0))) same.connections);
}

ready_same : (n : ℕ) (place : ℕ → ℕ) (old new : CoreState) (past : Past) (earlier : List ControlEntry) → Unmoved old new → Ready n place old past earlier → ((w : ℕ) → IsFree new.published (worker_at new w))
    → Ready n place new past earlier
ready_same n place old new past earlier same ready free = record {
  follows = follows_same old new past same ready.follows;
  published = same.published ∙ ready.published ∙ sym (ap (λ (edits : List Edit). length edits) same.accepted);
  many = ap (λ (xs : List Connection). length xs) same.connections ∙ ready.many;
  at = subst (λ (xs : List Connection). (c : ℕ) → (nat_lt 0 c && nat_lt (c - 1) (length xs)) ≡ true → (cond (nat_lt 0 c) (slice_index_or xs (c - 1) (fresh 0)) (fresh 0)).worker ≡ place c)
      (sym same.connections) ready.at;
  sits = subst (λ (xs : List Connection). (c : ℕ) → Sits earlier c (cond (nat_lt 0 c) (slice_index_or xs (c - 1) (fresh 0)) (fresh 0))) (sym same.connections) ready.sits;
  free = free;
}

module _ (n : ℕ) (place : ℕ → ℕ) (core : CoreState) (past : Past) (earlier : List ControlEntry) (w c revision : ℕ) (bytes : List ℕ) (seat : Seat) (parts : Parts)
    (ready : Ready n place core past earlier) (within : w < length core.workers) (opened : is_opened core c ≡ true) (at_worker_w : place c ≡ w)
    (there : list_any (leaves c) earlier ≡ false) (seated : (connection_at core c).seat ≡ Some seat) (parsed : packet bytes ≡ Ok parts)
    (low : least_look (worker_at core w) ≤ revision) (high : revision ≤ core.published) where
  abbrev x : Connection
  x = connection_at core c

  abbrev frame : List ℕ
  frame = voice_frame bytes

  abbrev held : HeldPacket
  held = record { speaker = seat.session; parts = parts }

  welcome : x.rejected ≡ false
  welcome = (ready.sits c).seated (ap (λ (o : Option Seat). is_some o) seated)

  frame_may : illegal core (Frame c frame) ≡ None
  frame_may = frame_allowed core core.published c frame opened (record { closed = ((ready.sits c).there there).1; waiting = (ready.sits c).waiting; decided = (ready.sits c).decided }) (ready.free x.worker)

  abbrev heard : CoreState
  heard = holding core w held

  heard_is : does core (Frame c frame) ≡ heard
  heard_is =
      ap (λ (a : Action). record (frame_step.does core c (frame_version core c frame) a) { line = up core.line }) (voice_heard c x seat bytes welcome seated)
      ∙ ap (λ (o : Option Seat). record (hears core x.worker (spoken o (packet bytes))) { line = up core.line }) seated
      ∙ ap (λ (r : Result Parts BadVoice). record (hears core x.worker (spoken (Some seat) r)) { line = up core.line }) parsed
      ∙ ap (λ (k : ℕ). holding core k held) (ready.at c opened ∙ at_worker_w)

  many_heard : length heard.workers ≡ length core.workers
  many_heard = length-changed core.workers w (λ (worker : WorkerState). record worker { held = Some held })

  holds : worker_at heard w ≡ record (worker_at core w) { held = Some held }
  holds = changed_same core.workers w (λ (worker : WorkerState). record worker { held = Some held }) idle within

  within_heard : w < length heard.workers
  within_heard = let many = many_heard in omega (arith, many, within)

  look_may : illegal heard (Look w revision) ≡ None
  look_may =
      let first : not (nat_lt w (length heard.workers)) ≡ false = ap not (lt-ltb w (length heard.workers) within_heard) in
      let second : is_none (worker_at heard w).held ≡ false = ap (λ (worker : WorkerState). is_none worker.held) holds in
      let least : nat_lt revision (least_look (worker_at core w)) ≡ false = le-ltb revision (least_look (worker_at core w)) low in
      let third : nat_lt revision (least_look (worker_at heard w)) ≡ false = ap (λ (worker : WorkerState). nat_lt revision (least_look worker)) holds ∙ least in
      let fourth : nat_lt core.published revision ≡ false = le-ltb core.published revision high in
      passed (not (nat_lt w (length heard.workers))) _ _ first
      (passed (is_none (worker_at heard w).held) _ _ second
      (passed (nat_lt revision (least_look (worker_at heard w))) _ _ third (passed (nat_lt core.published revision) _ _ fourth refl)))

  abbrev looked : CoreState
  looked = does heard (Look w revision)

  abbrev found : List Outgoing
  found = look_step.copies (state_at heard revision) (worker_at heard w).held

  looked_worker : worker_at looked w ≡ record (worker_at heard w) { seen = revision; held = None; copies = found }
  looked_worker = changed_same heard.workers w (λ (worker : WorkerState). record worker { seen = revision; held = None; copies = found }) idle within_heard

  many_looked : length looked.workers ≡ length core.workers
  many_looked = length-changed heard.workers w (λ (worker : WorkerState). record worker { seen = revision; held = None; copies = found }) ∙ many_heard

  looked_other : (k : ℕ) → (k ≡ w → ⊥) → worker_at looked k ≡ worker_at core k
  looked_other k apart =
      changed_other heard.workers w k (λ (worker : WorkerState). record worker { seen = revision; held = None; copies = found }) idle apart
      ∙ changed_other core.workers w k (λ (worker : WorkerState). record worker { held = Some held }) idle apart

  abbrev tail : List Step
  tail = offers w (worker_at looked w).copies

  sent : Offered looked w tail
  sent = all_offered looked w (worker_at looked w).copies (let many = many_looked in omega (arith, many, within)) refl

  abbrev last : CoreState
  last = ran looked tail

  same : Unmoved core last
  same = record { connections = sent.same.connections; opening = sent.same.opening; accepted = sent.same.accepted; published = sent.same.published }

  own_last : worker_at last w ≡ record (worker_at core w) { seen = revision; held = None; copies = [] }
  own_last =
      sent.own ∙ ap (λ (worker : WorkerState). record worker { copies = [] }) looked_worker
      ∙ ap (λ (worker : WorkerState). record worker { seen = revision; held = None; copies = [] }) holds

  others_last : (k : ℕ) → (k ≡ w → ⊥) → worker_at last k ≡ worker_at core k
  others_last k apart = sent.other k apart ∙ looked_other k apart

  free_last : (k : ℕ) → IsFree last.published (worker_at last k)
  free_last k = elim (cases_eq k w) [
    | inl here ↦
        subst (λ (j : ℕ). IsFree last.published (worker_at last j)) (sym here)
        (subst (IsFree last.published) (sym own_last) (subst (λ (most : ℕ). IsFree most (record (worker_at core w) { seen = revision; held = None; copies = [] })) (sym same.published) (record { held = refl; copies = refl; told = (ready.free w).told })))
    | inr apart ↦ subst (IsFree last.published) (sym (others_last k apart)) (subst (λ (most : ℕ). IsFree most (worker_at core k)) (sym same.published) (ready.free k))
  ]

  ready_last : Ready n place last past earlier
  ready_last = ready_same n place core last past earlier same ready free_last

  own_routes : gathered (routed w) heard (Look w revision ∷ tail) ≡ routed_at core revision held ∷ []
  own_routes =
      ap (λ (ones : List Routed). cond (w == w) (option_to_list (option_map (routed_at heard revision) (worker_at heard w).held)) [] ++ ones) (sent.silent w)
      ∙ ap (λ (b : Bool). cond b (option_to_list (option_map (routed_at heard revision) (worker_at heard w).held)) [] ++ []) (eq-eqb w w refl)
      ∙ ap (λ (worker : WorkerState). option_to_list (option_map (routed_at heard revision) worker.held) ++ []) holds

  no_routes : (v : ℕ) → (v ≡ w → ⊥) → gathered (routed v) heard (Look w revision ∷ tail) ≡ []
  no_routes v apart =
      ap (λ (ones : List Routed). cond (w == v) (option_to_list (option_map (routed_at heard revision) (worker_at heard v).held)) [] ++ ones) (sent.silent v)
      ∙ ap (λ (b : Bool). cond b (option_to_list (option_map (routed_at heard revision) (worker_at heard v).held)) [] ++ []) (ne_eqb w v (λ same. apart (sym same)))

  greatest : max revision (worker_at core w).told ≡ revision
  greatest = omega (arith, low)

  pub said : Said n place core past earlier w revision held
  said = record {
    run = Frame c frame ∷ Look w revision ∷ tail;
    allowed = (frame_may, subst (λ (new : CoreState). IsRun new (Look w revision ∷ tail)) (sym heard_is) (look_may, sent.allowed));
    ready = subst (λ (new : CoreState). Ready n place (ran new (Look w revision ∷ tail)) past earlier) (sym heard_is) ready_last;
    crew = ap (λ (new : CoreState). length (ran new (Look w revision ∷ tail)).workers) heard_is ∙ sent.many ∙ many_looked;
    decides = ap (λ (new : CoreState). gathered decided new (Look w revision ∷ tail)) heard_is ∙ sent.decides;
    own = ap (λ (new : CoreState). gathered (routed w) new (Look w revision ∷ tail)) heard_is ∙ own_routes;
    silent = λ v apart. ap (λ (new : CoreState). gathered (routed v) new (Look w revision ∷ tail)) heard_is ∙ no_routes v apart;
    others = λ v apart. ap (λ (new : CoreState). worker_at (ran new (Look w revision ∷ tail)) v) heard_is ∙ others_last v apart;
    least = ap (λ (new : CoreState). least_look (worker_at (ran new (Look w revision ∷ tail)) w)) heard_is ∙ ap (λ (worker : WorkerState). least_look worker) own_last ∙ greatest;
    orderly = (((ready.sits c).there there).0, subst (λ (new : CoreState). AreOrderly new (Look w revision ∷ tail)) (sym heard_is) (tt, sent.orderly));
  }
