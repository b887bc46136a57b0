-- What a step makes of each connection. A connection stays at its worker.
use Rattle.mum_core.proofs.Common.{◌≡◌, ℕ, zero, suc, ◌+◌, ◌-◌, ◌<◌, ◌≤◌, Bool, true, false, cond, List, [], ◌∷◌, ◌++◌, length, map, Option, Some, None, refl, sym, ap, ◌∙◌, subst, arith, inl, inr, length-append, ◌⊎◌, IfSome, nat_lt, slice_index_or, option_map, option_map_or, and_parts, lt-ltb, ltb-true, length-map, get_or_from_slice_get, SessionId, Verdict, packet, Notice, Action, Ask, Voice, Keep, Asked, Connection, Reply, Seat, Outgoing, Step, Open, Frame, Publish, Tell, Look, Offer, Post, Drain, Collect, Close, End, answered, asking, closed_at, fresh, is_of, lagging, next_of_frame, told, CoreState, connection_at, at_posts, at_session, is_opened, up, ran, changed_at, does, frame_action, frame_version, Queues, does_from, copy_queues, notice_queues, HeldPacket, spoken}
use Rattle.mum_core.proofs.{Delivered.delivered, Changed.changed-by, Changed.length-changed, RunLaws.told_core, RunLaws.taken_core, RunLaws.posting_core}
use Rattle.mum_record.specs.declared.step.Step.TheVariants as steps
use Rattle.mum_core.specs.steps.Edit as edit_step
use Rattle.mum_core.specs.steps.Frame as frame_step
use Rattle.mum_core.specs.steps.Offer as offer_step
use Rattle.mum_core.specs.steps.Tell as tell_step
use Rattle.mum_core.specs.steps.Post as post_step

-- the connection at a place
abbrev pub conn : CoreState → ℕ → Connection
conn core i = slice_index_or core.connections i (fresh 0)

pub at_place : (core : CoreState) (c i : ℕ) → c ≡ i + 1 → connection_at core c ≡ conn core i
at_place core c i is =
    let first : nat_lt 0 c ≡ true = lt-ltb 0 c (omega (arith, is)) in
    let place : c - 1 ≡ i = omega (arith, is) in
    rw (first, place) refl

pub placed : (core : CoreState) (c : ℕ) → nat_lt 0 c ≡ true → connection_at core c ≡ conn core (c - 1)
placed core c first = ap (λ (b : Bool). cond b (conn core (c - 1)) (fresh 0)) first

-- ---- what a step changes of the connections

-- the number of a connection, and what becomes of it
abbrev pub Change : Type 0
Change = ℕ × (Connection → Connection)

abbrev pub change_by : ℕ → Option ℕ → Action → Option Change
change_by c version (Ask command) = Some (c, asking command.what)
change_by c version Keep = Some (c, λ connection. record connection { version = version })
change_by c version others = None

-- the change that a verdict makes of who asked
abbrev pub change_to : CoreState → ℕ → Verdict → Change
change_to core c verdict = (c, λ connection. answered (next_of_frame connection) (edit_step.reply_to core c verdict) connection)

abbrev pub change_of : CoreState → Step → Option Change
change_of core (Frame c bytes) = change_by c (frame_version core c bytes) (frame_action core c bytes)
change_of core (steps.Edit c) = option_map (change_to core c) (edit_step.decision core c)
change_of core (Tell c revision) = Some (c, told)
change_of core (Close c cause) = Some (c, closed_at (up core.line))
change_of core others = None

abbrev with_change : List Connection → Option Change → List Connection
with_change xs None = xs
with_change xs (Some (c, change)) = cond (nat_lt 0 c) (changed_at (c - 1) change xs) xs

-- one is opened after those that are there, or one at most changes, or that of a session lags
abbrev Becomes : List Connection → Option Change → List Connection → Type 0
Becomes old change new =
    ((w : ℕ) × (new ≡ old ++ fresh w ∷ [])) ⊎ ((new ≡ with_change old change)
    ⊎ ((session : SessionId) × (new ≡ map (λ (x : Connection). cond (is_of session x) (lagging x) x) old)))

hears_connections : (core : CoreState) (w : ℕ) (held : Option HeldPacket) → (frame_step.hears core w held).connections ≡ core.connections
hears_connections core w (Some held) = refl
hears_connections core w None = refl

frame_connections : (core : CoreState) (c : ℕ) (version : Option ℕ) (a : Action) → (frame_step.does core c version a).connections ≡ with_change core.connections (change_by c version a)
frame_connections core c version (Voice payload) = hears_connections core (connection_at core c).worker (spoken (connection_at core c).seat (packet payload))
frame_connections core c version others = refl

notes_connections : (core : CoreState) (w : ℕ) (revision : Option ℕ) → (tell_step.notes w revision core).connections ≡ core.connections
notes_connections core w None = refl
notes_connections core w (Some revision) = refl

cond_connections : (b : Bool) (core x y : CoreState) → x.connections ≡ core.connections → y.connections ≡ core.connections → (cond b x y).connections ≡ core.connections
cond_connections true core x y hx hy = hx
cond_connections false core x y hx hy = hy

puts_connections : (core : CoreState) (next : Option Outgoing) → (offer_step.puts core next).connections ≡ core.connections
puts_connections core None = refl
puts_connections core (Some next) = cond_connections (offer_step.has_room core next.slot.0) core _ _ refl refl

edit_connections : (core : CoreState) (c : ℕ) (decided : Option Verdict)
    → (option_map_or (edit_step.decides core c) decided core).connections ≡ with_change core.connections (option_map (change_to core c) decided)
edit_connections core c None = refl
edit_connections core c (Some verdict) = refl

post_become : (core : CoreState) (next : Option Notice) → Becomes core.connections None (post_step.puts core next).connections
post_become core None = inr (inl refl)
post_become core (Some next) = from (post_step.has_room core next.slot.0)
  where
    from : (b : Bool) → Becomes core.connections None (cond b (at_posts next.slot.0 (λ posts. posts ++ next ∷ []) core) (at_session next.to lagging core)).connections
    from true = inr (inl refl)
    from false = inr (inr (next.to, refl))

delivery_connections : (queues : Queues) (core : CoreState) (seat : Option Seat) → ((slot : ℕ) → (queues.without slot core).connections ≡ core.connections)
    → (does_from queues core seat).connections ≡ core.connections
delivery_connections queues core seat rest = delivered (λ new. new.connections ≡ core.connections) queues core seat refl rest rest

become : (core : CoreState) (step : Step) → Becomes core.connections (change_of core step) (does core step).connections
become core (Open c w) = inl (w, refl)
become core (Frame c bytes) = inr (inl (frame_connections core c (frame_version core c bytes) (frame_action core c bytes)))
become core (steps.Edit c) = inr (inl (edit_connections core c (edit_step.decision core c)))
become core Publish = inr (inl refl)
become core (Tell c revision) = inr (inl (notes_connections (told_core core c) (connection_at core c).worker revision))
become core (Look w revision) = inr (inl refl)
become core (Offer w) = inr (inl (puts_connections (taken_core core w) (offer_step.next_copy core w)))
become core (Drain c) = inr (inl (delivery_connections copy_queues core (connection_at core c).seat (λ slot. refl)))
become core Post = post_become (posting_core core) (post_step.next_notice core)
become core (Collect c) = inr (inl (delivery_connections notice_queues core (connection_at core c).seat (λ slot. refl)))
become core (Close c cause) = inr (inl refl)
become core End = inr (inl refl)

-- ---- what holds of each connection and what it becomes

pushed-by : (R : Connection → Connection → Type 0) → ((x : Connection) → R x x) → (xs : List Connection) (w i : ℕ)
    → (length xs ≤ i → R (fresh 0) (fresh w)) → R (slice_index_or xs i (fresh 0)) (slice_index_or (xs ++ fresh w ∷ []) i (fresh 0))
pushed-by R same [] w zero new = new (omega arith)
pushed-by R same [] w (suc i) new = same (fresh 0)
pushed-by R same (x ∷ xs) w zero new = same x
pushed-by R same (x ∷ xs) w (suc i) new = pushed-by R same xs w i (λ past. new (omega (arith, past)))

with_change-by : (R : Connection → Connection → Type 0) → ((x : Connection) → R x x) → (xs : List Connection) (i : ℕ) (change : Option Change)
    → IfSome change (λ one. one.0 ≡ i + 1 → R (slice_index_or xs i (fresh 0)) (one.1 (slice_index_or xs i (fresh 0))))
    → R (slice_index_or xs i (fresh 0)) (slice_index_or (with_change xs change) i (fresh 0))
with_change-by R same xs i None h = same (slice_index_or xs i (fresh 0))
with_change-by R same xs i (Some (c, change)) h = from (nat_lt 0 c) refl
  where
    from : (b : Bool) → nat_lt 0 c ≡ b → R (slice_index_or xs i (fresh 0)) (slice_index_or (cond b (changed_at (c - 1) change xs) xs) i (fresh 0))
    from false e = same (slice_index_or xs i (fresh 0))
    from true e = changed-by R same xs (c - 1) i change (fresh 0) (λ x at here.
        let low : 0 < c = ltb-true 0 c e in
        let is : slice_index_or xs i (fresh 0) ≡ x = rw here (get_or_from_slice_get xs (c - 1) x (fresh 0) at) in
        subst (λ (y : Connection). R y (change y)) is (h (omega (arith, low, here))))

mapped-by : (R : Connection → Connection → Type 0) → ((x : Connection) → R x x) → ((x : Connection) → R x (lagging x)) → (session : SessionId) (xs : List Connection) (i : ℕ)
    → R (slice_index_or xs i (fresh 0)) (slice_index_or (map (λ (x : Connection). cond (is_of session x) (lagging x) x) xs) i (fresh 0))
mapped-by R same lags session [] zero = same (fresh 0)
mapped-by R same lags session [] (suc i) = same (fresh 0)
mapped-by R same lags session (x ∷ xs) zero = from (is_of session x)
  where
    from : (b : Bool) → R x (cond b (lagging x) x)
    from true = lags x
    from false = same x
mapped-by R same lags session (x ∷ xs) (suc i) = mapped-by R same lags session xs i

-- what holds of each connection and itself, of one that lags, of one that is opened, and of the one that the step changes, holds of each
pub each_step : (R : Connection → Connection → Type 0) → ((x : Connection) → R x x) → ((x : Connection) → R x (lagging x)) → (core : CoreState) (step : Step) (i : ℕ)
    → ((w : ℕ) → length core.connections ≤ i → R (fresh 0) (fresh w))
    → IfSome (change_of core step) (λ one. one.0 ≡ i + 1 → R (conn core i) (one.1 (conn core i)))
    → R (conn core i) (conn (does core step) i)
each_step R same lags core step i new h = from (does core step).connections (become core step)
  where
    from : (after : List Connection) → Becomes core.connections (change_of core step) after → R (conn core i) (slice_index_or after i (fresh 0))
    from after (inl opened) =
        subst (λ (xs : List Connection). R (conn core i) (slice_index_or xs i (fresh 0))) (sym opened.1) (pushed-by R same core.connections opened.0 i (new opened.0))
    from after (inr (inl changed)) =
        subst (λ (xs : List Connection). R (conn core i) (slice_index_or xs i (fresh 0))) (sym changed) (with_change-by R same core.connections i (change_of core step) h)
    from after (inr (inr lagged)) =
        subst (λ (xs : List Connection). R (conn core i) (slice_index_or xs i (fresh 0))) (sym lagged.1) (mapped-by R same lags lagged.0 core.connections i)

-- ---- how many there are

length-with_change : (xs : List Connection) (change : Option Change) → length (with_change xs change) ≡ length xs
length-with_change xs None = refl
length-with_change xs (Some (c, change)) = from (nat_lt 0 c)
  where
    from : (b : Bool) → length (cond b (changed_at (c - 1) change xs) xs) ≡ length xs
    from true = length-changed xs (c - 1) change
    from false = refl

pub no_fewer : (core : CoreState) (step : Step) → length core.connections ≤ length (does core step).connections
no_fewer core step = from (does core step).connections (become core step)
  where
    from : (after : List Connection) → Becomes core.connections (change_of core step) after → length core.connections ≤ length after
    from after (inl opened) = let more = length-append core.connections (fresh opened.0 ∷ []) in omega (arith, ap length opened.1, more)
    from after (inr (inr lagged)) =
        let same = length-map core.connections (λ (x : Connection). cond (is_of lagged.0 x) (lagging x) x) in omega (arith, ap length lagged.1, same)
    from after (inr (inl changed)) = let same = length-with_change core.connections (change_of core step) in omega (arith, ap length changed, same)

-- ---- the worker

answered_worker : (command : Option Asked) (reply : Reply) (x : Connection) → (answered command reply x).worker ≡ x.worker
answered_worker None reply x = refl
answered_worker (Some command) reply x = refl

abbrev KeepsWorker : Option Change → ℕ → Connection → Type 0
KeepsWorker change i x = IfSome change (λ one. one.0 ≡ i + 1 → (one.1 x).worker ≡ x.worker)

frame_keeps_worker : (c i : ℕ) (version : Option ℕ) (a : Action) (x : Connection) → KeepsWorker (change_by c version a) i x
frame_keeps_worker c i version (Ask command) x = λ is. refl
frame_keeps_worker c i version Keep x = λ is. refl
frame_keeps_worker c i version others x = tt

edit_keeps_worker : (core : CoreState) (c i : ℕ) (decided : Option Verdict) (x : Connection) → KeepsWorker (option_map (change_to core c) decided) i x
edit_keeps_worker core c i None x = tt
edit_keeps_worker core c i (Some verdict) x = λ is. answered_worker (next_of_frame x) (edit_step.reply_to core c verdict) x

keeps_worker : (core : CoreState) (step : Step) (i : ℕ) (x : Connection) → KeepsWorker (change_of core step) i x
keeps_worker core (Frame c bytes) i x = frame_keeps_worker c i (frame_version core c bytes) (frame_action core c bytes) x
keeps_worker core (steps.Edit c) i x = edit_keeps_worker core c i (edit_step.decision core c) x
keeps_worker core (Tell c revision) i x = λ is. refl
keeps_worker core (Close c cause) i x = λ is. refl
keeps_worker core others i x = tt

-- one that is there is there after the step, at its worker
pub place_stays : (core : CoreState) (step : Step) (i : ℕ) → i < length core.connections
    → (i < length (does core step).connections) × ((conn (does core step) i).worker ≡ (conn core i).worker)
place_stays core step i within =
    let more = no_fewer core step in (
      omega (arith, within, more),
      each_step (λ old new. new.worker ≡ old.worker) (λ x. refl) (λ x. refl) core step i (λ w past. absurd (omega (arith, within, past))) (keeps_worker core step i (conn core i)),
    )

pub worker_stays : (core : CoreState) (run : List Step) (i : ℕ) → i < length core.connections → (conn (ran core run) i).worker ≡ (conn core i).worker
worker_stays core [] i within = refl
worker_stays core (step ∷ run) i within =
    let first = place_stays core step i within in
    worker_stays (does core step) run i first.0 ∙ first.1

pub connections_stay : (core : CoreState) (run : List Step) (c : ℕ) → is_opened core c ≡ true → (connection_at (ran core run) c).worker ≡ (connection_at core c).worker
connections_stay core run c opened =
    let parts = and_parts (nat_lt 0 c) (nat_lt (c - 1) (length core.connections)) opened in
    let within : c - 1 < length core.connections = ltb-true (c - 1) (length core.connections) parts.1 in
    ap (λ (x : Connection). x.worker) (placed (ran core run) c parts.0) ∙ worker_stays core run (c - 1) within ∙ sym (ap (λ (x : Connection). x.worker) (placed core c parts.0))
