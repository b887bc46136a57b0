-- Each connection is at a worker that there is.
use Rattle.mum_laws.proofs.Common.{◌≡◌, ℕ, zero, suc, ◌+◌, ◌-◌, ◌<◌, Bool, true, false, cond, List, [], ◌∷◌, ◌++◌, length, Option, Some, None, refl, sym, ap, subst, ◌∙◌, arith, ◌==◌, nat_lt, not, slice_index_or, option_map_or, and_parts, ltb-true, length-map, length-replicate, packet, Notice, StateValue, Verdict, Action, Ask, Voice, Keep, Version, Step, Open, Frame, Publish, Tell, Look, Offer, Post, Drain, Collect, Close, End, Connection, Outgoing, asking, closed_at, fresh, is_of, lagging, told, CoreState, at_posts, at_session, connection_at, is_opened, start, up, IsRun, ran, changed_at, does, frame_action, frame_version, illegal, HeldPacket, idle, copy_queues, notice_queues, spoken, length-changed, delivered, conn, place_stays, placed, none_stands, posting_core, taken_core, told_core}
use Rattle.mum_laws.proofs.{Finding.is_there, Taking.as_many}
use Rattle.mum_record.specs.declared.step.Step.TheVariants as steps
use Rattle.mum_core.specs.steps.Edit as edit_step
use Rattle.mum_core.specs.steps.Frame as frame_step
use Rattle.mum_core.specs.steps.Offer as offer_step
use Rattle.mum_core.specs.steps.Post as post_step
use Rattle.mum_core.specs.steps.Tell as tell_step

-- ---- no step but an open makes a connection

abbrev AsMany : CoreState → CoreState → Type 0
AsMany old new = length new.connections ≡ length old.connections

cond_many : (b : Bool) (n : ℕ) (xs ys : List Connection) → length xs ≡ n → length ys ≡ n → length (cond b xs ys) ≡ n
cond_many true n xs ys hx hy = hx
cond_many false n xs ys hx hy = hy

changed_many : (c : ℕ) (change : Connection → Connection) (xs : List Connection) → length (cond (nat_lt 0 c) (changed_at (c - 1) change xs) xs) ≡ length xs
changed_many c change xs = cond_many (nat_lt 0 c) (length xs) (changed_at (c - 1) change xs) xs (length-changed xs (c - 1) change) refl

hears_many : (core : CoreState) (w : ℕ) (held : Option HeldPacket) → AsMany core (frame_step.hears core w held)
hears_many core w None = refl
hears_many core w (Some held) = refl

frame_many : (core : CoreState) (c : ℕ) (version : Option ℕ) (a : Action) → AsMany core (frame_step.does core c version a)
frame_many core c version (Ask command) = changed_many c (asking command.what) core.connections
frame_many core c version (Voice payload) = hears_many core (connection_at core c).worker (spoken (connection_at core c).seat (packet payload))
frame_many core c version Keep = changed_many c (λ connection. record connection { version = version }) core.connections
frame_many core c version others = refl

decided_many : (core : CoreState) (c : ℕ) (decided : Option Verdict) → AsMany core (option_map_or (edit_step.decides core c) decided core)
decided_many core c None = refl
decided_many core c (Some decided) = changed_many c _ core.connections

notes_many : (core : CoreState) (w : ℕ) (revision : Option ℕ) → AsMany core (tell_step.notes w revision core)
notes_many core w None = refl
notes_many core w (Some revision) = refl

cond_core : (b : Bool) (core x y : CoreState) → AsMany core x → AsMany core y → AsMany core (cond b x y)
cond_core true core x y hx hy = hx
cond_core false core x y hx hy = hy

puts_many : (core : CoreState) (next : Option Outgoing) → AsMany core (offer_step.puts core next)
puts_many core None = refl
puts_many core (Some next) = cond_core (offer_step.has_room core next.slot.0) core _ _ refl refl

post_many : (core : CoreState) (next : Option Notice) → AsMany core (post_step.puts core next)
post_many core None = refl
post_many core (Some next) =
    cond_core (post_step.has_room core next.slot.0) core (at_posts next.slot.0 (λ posts. posts ++ next ∷ []) core) (at_session next.to lagging core) refl
    (length-map core.connections (λ (x : Connection). cond (is_of next.to x) (lagging x) x))

abbrev is_open : Step → Bool
is_open (Open c w) = true
is_open others = false

same_number : (core : CoreState) (step : Step) → is_open step ≡ false → AsMany core (does core step)
same_number core (Open c w) other = cc
same_number core (Frame c bytes) other = frame_many core c (frame_version core c bytes) (frame_action core c bytes)
same_number core (steps.Edit c) other = decided_many core c (edit_step.decision core c)
same_number core Publish other = refl
same_number core (Tell c revision) other =
    notes_many (told_core core c) (connection_at core c).worker revision ∙ changed_many c told core.connections
same_number core (Look w revision) other = refl
same_number core (Offer w) other = puts_many (taken_core core w) (offer_step.next_copy core w)
same_number core (Drain c) other = delivered (AsMany core) copy_queues core (connection_at core c).seat refl (λ slot. refl) (λ slot. refl)
same_number core Post other = post_many (posting_core core) (post_step.next_notice core)
same_number core (Collect c) other = delivered (AsMany core) notice_queues core (connection_at core c).seat refl (λ slot. refl) (λ slot. refl)
same_number core (Close c cause) other = changed_many c (closed_at (up core.line)) core.connections
same_number core End other = refl

-- ---- each has its worker

abbrev HaveWorkers : ℕ → List Connection → Type 0
HaveWorkers n xs = (i : ℕ) → i < length xs → (slice_index_or xs i (fresh 0)).worker < n

have_pushed : (n w : ℕ) → w < n → (xs : List Connection) → HaveWorkers n xs → HaveWorkers n (xs ++ fresh w ∷ [])
have_pushed n w low [] have zero within = low
have_pushed n w low [] have (suc i) within = absurd (omega (arith, within))
have_pushed n w low (x ∷ xs) have zero within = have 0 (omega arith)
have_pushed n w low (x ∷ xs) have (suc i) within = have_pushed n w low xs (λ k far. have (suc k) (omega (arith, far))) i (omega (arith, within))

opened_has : (core : CoreState) (c w : ℕ) → illegal core (Open c w) ≡ None → HaveWorkers (length core.workers) core.connections
    → HaveWorkers (length core.workers) (core.connections ++ fresh w ∷ [])
opened_has core c w legal have =
    let first = none_stands (not (c == length core.connections + 1)) _ _ legal in
    have_pushed (length core.workers) w (is_there core w _ first.1) core.connections have

kept_has : (core : CoreState) (step : Step) → is_open step ≡ false → HaveWorkers (length core.workers) core.connections → HaveWorkers (length core.workers) (does core step).connections
kept_has core step other have i within =
    let same = same_number core step other in
    let there : i < length core.connections = omega (arith, within, same) in
    let stays = place_stays core step i there in
    subst (λ (w : ℕ). w < length core.workers) (sym stays.1) (have i there)

step_has : (core : CoreState) (step : Step) → illegal core step ≡ None → HaveWorkers (length core.workers) core.connections → HaveWorkers (length core.workers) (does core step).connections
step_has core (Open c w) legal have = opened_has core c w legal have
step_has core (Frame c bytes) legal have = kept_has core (Frame c bytes) refl have
step_has core (steps.Edit c) legal have = kept_has core (steps.Edit c) refl have
step_has core Publish legal have = kept_has core Publish refl have
step_has core (Tell c revision) legal have = kept_has core (Tell c revision) refl have
step_has core (Look w revision) legal have = kept_has core (Look w revision) refl have
step_has core (Offer w) legal have = kept_has core (Offer w) refl have
step_has core (Drain c) legal have = kept_has core (Drain c) refl have
step_has core Post legal have = kept_has core Post refl have
step_has core (Collect c) legal have = kept_has core (Collect c) refl have
step_has core (Close c cause) legal have = kept_has core (Close c cause) refl have
step_has core End legal have = kept_has core End refl have

all_have : (core : CoreState) (run : List Step) → IsRun core run → HaveWorkers (length core.workers) core.connections → HaveWorkers (length core.workers) (ran core run).connections
all_have core [] is have = have
all_have core (step ∷ run) is have =
    let many = as_many core step in
    let later = all_have (does core step) run is.1 (subst (λ (n : ℕ). HaveWorkers n (does core step).connections) (sym many) (step_has core step is.0 have)) in
    subst (λ (n : ℕ). HaveWorkers n (ran core (step ∷ run)).connections) many later

pub workers_are_there : (version : Version) (opening : StateValue) (workers c : ℕ) (run : List Step) → IsRun (start version opening workers) run
    → is_opened (ran (start version opening workers) run) c ≡ true → (connection_at (ran (start version opening workers) run) c).worker < workers
workers_are_there version opening workers c run is opened =
    let core : CoreState = ran (start version opening workers) run in
    let parts = and_parts (nat_lt 0 c) (nat_lt (c - 1) (length core.connections)) opened in
    let within : c - 1 < length core.connections = ltb-true (c - 1) (length core.connections) parts.1 in
    let have = all_have (start version opening workers) run is (λ i none. absurd (omega (arith, none))) (c - 1) within in
    let many = length-replicate workers idle in
    let here : (connection_at core c).worker ≡ (conn core (c - 1)).worker = ap (λ (x : Connection). x.worker) (placed core c parts.0) in
    omega (arith, have, many, here)
