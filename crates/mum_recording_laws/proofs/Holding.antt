-- In orderly runs a packet that is held is of a connection that is open.
use Rattle.mum_recording_laws.proofs.Common.{◌≡◌, ℕ, ◌+◌, ◌-◌, ◌⊎◌, max, not, true, List, length, drop, Option, Some, None, Result, Ok, Err, refl, sym, ap, subst, ◌∙◌, inl, inr, ⊤, IfSome, is_some, nat_lt, slice_index_or, option_map, and_parts, ltb-true, Parts, packet, BadVoice, Step, Close, Collect, Drain, End, Frame, Look, Offer, Open, Post, Publish, Tell, Action, Ask, Keep, Asked, Verdict, Connection, Reply, Seat, answered, next_of_frame, CoreState, connection_at, is_opened, worker_at, changed_at, does, frame_action, frame_version, illegal, HeldPacket, WorkerState, idle, spoken, changed-by, length-changed, Change, at_place, change_by, change_of, change_to, conn, each_step, place_stays, placed, collect_workers, decided_workers, drain_workers, none_stands, not_false, posted_workers, puts_workers, taken_core, told_core, AreSettled, IsOf, Source, IsOrderly}
use Rattle.mum_session.specs.declared.action.Action.TheVariants.{Voice}
use Rattle.mum_recording_laws.proofs.{Options.none_some, Options.none_there, Options.same_some, Placing.seat_stays}
use Rattle.mum_record.specs.declared.step.Step.TheVariants as steps
use Rattle.mum_core.specs.steps.Edit as edit_step
use Rattle.mum_core.specs.steps.Frame as frame_step
use Rattle.mum_core.specs.steps.Offer as offer_step
use Rattle.mum_core.specs.steps.Tell as tell_step

-- ---- no step makes or takes a worker

hears_many : (core : CoreState) (w : ℕ) (held : Option HeldPacket) → length (frame_step.hears core w held).workers ≡ length core.workers
hears_many core w None = refl
hears_many core w (Some held) = length-changed core.workers w (λ worker. record worker { held = Some held })

frame_many : (core : CoreState) (c : ℕ) (version : Option ℕ) (a : Action) → length (frame_step.does core c version a).workers ≡ length core.workers
frame_many core c version (Voice payload) = hears_many core (connection_at core c).worker (spoken (connection_at core c).seat (packet payload))
frame_many core c version others = refl

notes_many : (core : CoreState) (w : ℕ) (revision : Option ℕ) → length (tell_step.notes w revision core).workers ≡ length core.workers
notes_many core w None = refl
notes_many core w (Some revision) = length-changed core.workers w _

same_many : (core new : CoreState) → new.workers ≡ core.workers → length new.workers ≡ length core.workers
same_many core new same = ap (λ (workers : List WorkerState). length workers) same

pub as_many : (core : CoreState) (step : Step) → length (does core step).workers ≡ length core.workers
as_many core (Open c w) = refl
as_many core (Frame c bytes) = frame_many core c (frame_version core c bytes) (frame_action core c bytes)
as_many core (steps.Edit c) = same_many core (does core (steps.Edit c)) (decided_workers core c (edit_step.decision core c))
as_many core Publish = refl
as_many core (Tell c revision) = notes_many (told_core core c) (connection_at core c).worker revision
as_many core (Look w revision) = length-changed core.workers w _
as_many core (Offer w) =
    same_many (taken_core core w) (does core (Offer w)) (puts_workers (taken_core core w) (offer_step.next_copy core w))
    ∙ length-changed core.workers w (λ worker. record worker { copies = drop 1 worker.copies })
as_many core Post = same_many core (does core Post) (posted_workers core)
as_many core (Drain c) = same_many core (does core (Drain c)) (drain_workers core (connection_at core c).seat)
as_many core (Collect c) = same_many core (does core (Collect c)) (collect_workers core (connection_at core c).seat)
as_many core (Close c cause) = refl
as_many core End = refl

-- ---- where a packet that is held comes from

-- a connection of the worker, with the session, that is open
pub record OpenSource (w k : ℕ) (core : CoreState) : Type 0 where
  pub source : Source w k core
  pub open_yet : (conn core source.place).closed ≡ None

-- it was held before, or a frame brought it
abbrev Came : ℕ → ℕ → CoreState → HeldPacket → Type 0
Came w k core held = ((worker_at core w).held ≡ Some held) ⊎ OpenSource w k core

abbrev Keeps : HeldPacket → WorkerState → WorkerState → Type 0
Keeps held old new = new.held ≡ Some held → old.held ≡ Some held

kept : (w : ℕ) (core : CoreState) (workers new : List WorkerState) (held : HeldPacket) → Keeps held (worker_at core w) (slice_index_or workers w idle) → new ≡ workers
    → Keeps held (worker_at core w) (slice_index_or new w idle)
kept w core workers new held keeps same = subst (λ (xs : List WorkerState). Keeps held (worker_at core w) (slice_index_or xs w idle)) (sym same) keeps

opened_source : (core : CoreState) (c : ℕ) (seat : Seat) → is_opened core c ≡ true → (connection_at core c).closed ≡ None → (connection_at core c).seat ≡ Some seat
    → OpenSource (connection_at core c).worker seat.session.0 core
opened_source core c seat opened closed seated =
    let parts = and_parts (nat_lt 0 c) (nat_lt (c - 1) (length core.connections)) opened in
    let at : connection_at core c ≡ conn core (c - 1) = placed core c parts.0 in
    record {
      source = record {
        place = c - 1;
        within = ltb-true (c - 1) (length core.connections) parts.1;
        of = subst (IsOf seat.session.0) (sym (sym (ap (λ (x : Connection). x.seat) at) ∙ seated)) refl;
        at = sym (ap (λ (x : Connection). x.worker) at);
      };
      open_yet = sym (ap (λ (x : Connection). x.closed) at) ∙ closed;
    }

-- a packet that is put into a worker comes of the session that speaks, or was there
put_so : (workers : List WorkerState) (v w : ℕ) (own held : HeldPacket) → (slice_index_or (changed_at v (λ (worker : WorkerState). record worker { held = Some own }) workers) w idle).held ≡ Some held
    → ((slice_index_or workers w idle).held ≡ Some held) ⊎ ((w ≡ v) × (own ≡ held))
put_so workers v w own held =
    changed-by (λ (old new : WorkerState). new.held ≡ Some held → (old.held ≡ Some held) ⊎ ((w ≡ v) × (own ≡ held))) (λ x is. inl is) workers v w
    (λ (worker : WorkerState). record worker { held = Some own }) idle (λ x at same is. inr (same, same_some own held is))

heard_from : (w : ℕ) (core : CoreState) (c : ℕ) (held : HeldPacket) (seat : Option Seat) (read : Result Parts BadVoice) → is_opened core c ≡ true → (connection_at core c).closed ≡ None
    → (connection_at core c).seat ≡ seat → (worker_at (frame_step.hears core (connection_at core c).worker (spoken seat read)) w).held ≡ Some held → Came w held.speaker.0 core held
heard_from w core c held None read opened closed seated is = inl is
heard_from w core c held (Some seat) (Err fault) opened closed seated is = inl is
heard_from w core c held (Some seat) (Ok parts) opened closed seated is = elim (put_so core.workers (connection_at core c).worker w (record { speaker = seat.session; parts = parts }) held is) [
  | inl before ↦ inl before
  | inr came ↦
      inr (subst (λ (v : ℕ). OpenSource v held.speaker.0 core) (sym came.0)
      (subst (λ (one : HeldPacket). OpenSource (connection_at core c).worker one.speaker.0 core) came.1 (opened_source core c seat opened closed seated)))
]

frame_came : (w : ℕ) (core : CoreState) (c : ℕ) (held : HeldPacket) (version : Option ℕ) (a : Action) → is_opened core c ≡ true → (connection_at core c).closed ≡ None
    → (worker_at (frame_step.does core c version a) w).held ≡ Some held → Came w held.speaker.0 core held
frame_came w core c held version (Voice payload) opened closed is = heard_from w core c held (connection_at core c).seat (packet payload) opened closed refl is
frame_came w core c held version others opened closed is = inl is

notes_keep : (w v : ℕ) (core : CoreState) (revision : Option ℕ) (held : HeldPacket) → Keeps held (worker_at core w) (worker_at (tell_step.notes v revision core) w)
notes_keep w v core None held = λ is. is
notes_keep w v core (Some revision) held =
    changed-by (Keeps held) (λ x is. is) core.workers v w (λ worker. record worker { told = max worker.told revision }) idle (λ x at here is. is)

never_none : (held : HeldPacket) → None ≡ Some held → ⊥
never_none held is = cc

-- the step does not close the connection at this place
abbrev IsNotClosed : Step → ℕ → Type 0
IsNotClosed (Close c cause) i = c ≡ i + 1 → ⊥
IsNotClosed others i = ⊤

-- or a step brought it that closes none
abbrev CameBy : ℕ → ℕ → CoreState → HeldPacket → Step → Type 0
CameBy w k core held step = ((worker_at core w).held ≡ Some held) ⊎ (OpenSource w k core × ((i : ℕ) → IsNotClosed step i))

by_frame : (w k : ℕ) (core : CoreState) (held : HeldPacket) (c : ℕ) (bytes : List ℕ) → Came w k core held → CameBy w k core held (Frame c bytes)
by_frame w k core held c bytes (inl before) = inl before
by_frame w k core held c bytes (inr some) = inr (some, λ i. tt)

came : (w : ℕ) (core : CoreState) (step : Step) (held : HeldPacket) → illegal core step ≡ None → (worker_at (does core step) w).held ≡ Some held → CameBy w held.speaker.0 core held step
came w core (Open c v) held h is = inl is
came w core (Frame c bytes) held h is =
    let first = none_stands (not (is_opened core c)) _ _ h in
    let second = none_stands (is_some (connection_at core c).closed) _ _ first.1 in
    by_frame w held.speaker.0 core held c bytes
    (frame_came w core c held (frame_version core c bytes) (frame_action core c bytes) (not_false (is_opened core c) first.0) (none_there (connection_at core c).closed second.0) is)
came w core (steps.Edit c) held h is =
    inl (kept w core core.workers (does core (steps.Edit c)).workers held (λ is. is) (decided_workers core c (edit_step.decision core c)) is)
came w core Publish held h is = inl is
came w core (Tell c revision) held h is = inl (notes_keep w (connection_at core c).worker (told_core core c) revision held is)
came w core (Look v revision) held h is = inl (changed-by (Keeps held) (λ x is. is) core.workers v w _ idle (λ x at here is. absurd (never_none held is)) is)
came w core (Offer v) held h is =
    inl (kept w core (taken_core core v).workers (does core (Offer v)).workers held
    (changed-by (Keeps held) (λ x is. is) core.workers v w (λ worker. record worker { copies = drop 1 worker.copies }) idle (λ x at here is. is))
    (puts_workers (taken_core core v) (offer_step.next_copy core v)) is)
came w core (Drain c) held h is = inl (kept w core core.workers (does core (Drain c)).workers held (λ is. is) (drain_workers core (connection_at core c).seat) is)
came w core Post held h is = inl (kept w core core.workers (does core Post).workers held (λ is. is) (posted_workers core) is)
came w core (Collect c) held h is = inl (kept w core core.workers (does core (Collect c)).workers held (λ is. is) (collect_workers core (connection_at core c).seat) is)
came w core (Close c cause) held h is = inl is
came w core End held h is = inl is

-- ---- a connection that is open stays so, but for its close

abbrev ChangeKeeps : Option Change → ℕ → Connection → Type 0
ChangeKeeps change i x = IfSome change (λ one. one.0 ≡ i + 1 → (one.1 x).closed ≡ x.closed)

frame_keeps : (c i : ℕ) (version : Option ℕ) (a : Action) (x : Connection) → ChangeKeeps (change_by c version a) i x
frame_keeps c i version (Ask command) x = λ at. refl
frame_keeps c i version Keep x = λ at. refl
frame_keeps c i version others x = tt

answered_keeps : (o : Option Asked) (reply : Reply) (x : Connection) → (answered o reply x).closed ≡ x.closed
answered_keeps None reply x = refl
answered_keeps (Some what) reply x = refl

edit_keeps : (core : CoreState) (c i : ℕ) (o : Option Verdict) (x : Connection) → ChangeKeeps (option_map (change_to core c) o) i x
edit_keeps core c i None x = tt
edit_keeps core c i (Some one) x = λ at. answered_keeps (next_of_frame x) (edit_step.reply_to core c one) x

changes_keep : (core : CoreState) (step : Step) (i : ℕ) → IsNotClosed step i → ChangeKeeps (change_of core step) i (conn core i)
changes_keep core (Frame c bytes) i other = frame_keeps c i (frame_version core c bytes) (frame_action core c bytes) (conn core i)
changes_keep core (steps.Edit c) i other = edit_keeps core c i (edit_step.decision core c) (conn core i)
changes_keep core (Tell c revision) i other = λ at. refl
changes_keep core (Close c cause) i other = λ at. absurd (other at)
changes_keep core others i other = tt

closed_kept : (core : CoreState) (step : Step) (i : ℕ) → IsNotClosed step i → (conn (does core step) i).closed ≡ (conn core i).closed
closed_kept core step i other = each_step (λ (old new : Connection). new.closed ≡ old.closed) (λ x. refl) (λ x. refl) core step i (λ w past. refl) (changes_keep core step i other)

not_closed : (core : CoreState) (step : Step) (w i : ℕ) (held : HeldPacket) → IsOrderly core step → (conn core i).worker ≡ w → (worker_at core w).held ≡ Some held → IsNotClosed step i
not_closed core (Close c cause) w i held orderly at holds = λ same.
    let here : (connection_at core c).worker ≡ w = ap (λ (x : Connection). x.worker) (at_place core c i same) ∙ at in
    none_some (worker_at core w).held held (sym (ap (λ (v : ℕ). (worker_at core v).held) here) ∙ orderly) holds
not_closed core others w i held orderly at holds = tt

-- ---- all that is held

abbrev pub HoldsOpen : CoreState → Type 0
HoldsOpen core = (w : ℕ) (held : HeldPacket) → (worker_at core w).held ≡ Some held → OpenSource w held.speaker.0 core

pub holds_step : (core : CoreState) (step : Step) → illegal core step ≡ None → IsOrderly core step → AreSettled core → HoldsOpen core → HoldsOpen (does core step)
holds_step core step allowed orderly settled holds w held is = from (came w core step held allowed is)
  where
    further : (some : OpenSource w held.speaker.0 core) → IsNotClosed step some.source.place → OpenSource w held.speaker.0 (does core step)
    further some other =
        let stays = place_stays core step some.source.place some.source.within in
        record {
          source = record {
            place = some.source.place;
            within = stays.0;
            of = seat_stays core step some.source.place held.speaker.0 settled some.source.of;
            at = stays.1 ∙ some.source.at;
          };
          open_yet = closed_kept core step some.source.place other ∙ some.open_yet;
        }

    from : CameBy w held.speaker.0 core held step → OpenSource w held.speaker.0 (does core step)
    from (inl before) = let some = holds w held before in further some (not_closed core step w some.source.place held orderly some.source.at before)
    from (inr some) = further some.0 (some.1 some.0.source.place)
