-- Each session is of one connection, and the packets of one speaker are all taken by one worker.
use Rattle.mum_core.proofs.Common.{◌≡◌, ℕ, ◌+◌, ◌-◌, ◌<◌, ◌≤◌, Bool, true, false, cond, List, [], ◌∷◌, ◌++◌, length, max, Option, Some, None, Result, Ok, Err, refl, sym, ap, subst, ◌∙◌, arith, inl, inr, ◌⊎◌, IfSome, not, filter, is_none, nat_lt, option_to_list, slice_index_or, ◌==◌, option_map, option_map_or, option_or, and_parts, cases_eq, eqb-true, ltb-true, filter-append, fold-append, AccountId, SessionId, next_number, next_slot, Edit, Join, Verdict, led_to, applied, StateValue, BadVoice, Parts, packet, Action, Ask, Voice, Keep, Asked, Connection, Reply, Seat, Version, Step, Open, Frame, Publish, Tell, Look, Offer, Post, Drain, Collect, Close, End, answered, fresh, next_command, next_of_frame, seat_given, session_of, CoreState, start, connection_at, current, worker_at, is_opened, IsRun, ran, gathered, packet_taken, edits_of, verdict, seat_of, does, frame_action, frame_version, illegal, WorkerState, HeldPacket, idle, spoken}
use Rattle.mum_core.proofs.{Changed.changed-by, Changed.changed_other, Lower.SeatsNext, Lower.last_rises, Lower.verdict_seats, Places.Change, Places.change_by, Places.change_of, Places.change_to, Places.conn, Places.each_step, Places.place_stays, Places.placed, RunLaws.none_stands, RunLaws.not_false, RunLaws.told_core, RunLaws.taken_core, RunLaws.puts_workers, RunLaws.decided_workers, RunLaws.drain_workers, RunLaws.posted_workers, RunLaws.collect_workers, RunLaws.grown, RunLaws.same_opening}
use Rattle.mum_record.specs.declared.step.Step.TheVariants as steps
use Rattle.mum_core.specs.steps.Edit as edit_step
use Rattle.mum_core.specs.steps.Frame as frame_step
use Rattle.mum_core.specs.steps.Offer as offer_step
use Rattle.mum_core.specs.steps.Tell as tell_step

-- the last session number that was given
abbrev pub count : CoreState → ℕ
count core = (current core).roster.last

abbrev pub IsOf : ℕ → Option Seat → Type 0
IsOf k None = ⊥
IsOf k (Some seat) = seat.session.0 ≡ k

-- a connection has a session, or a verdict that gives it
abbrev pub Has : ℕ → Connection → Type 0
Has k x = IsOf k x.seat ⊎ IsOf k (seat_given x.decided)

-- ---- sessions that a step gives

-- the number was given between two counts
abbrev IsNew : ℕ → ℕ → ℕ → Type 0
IsNew old new k = (old < k) × (k ≤ new)

led_rises : (state : StateValue) (edits : List Edit) → state.roster.last ≤ (led_to state edits).roster.last
led_rises state [] = omega arith
led_rises state (edit ∷ edits) =
    let first = last_rises state edit in
    let later = led_rises (applied state edit) edits in
    omega (arith, first, later)

count_rises : (core : CoreState) (step : Step) → count core ≤ count (does core step)
count_rises core step =
    let more = grown core step in
    let same : current (does core step) ≡ led_to (current core) more.0 =
    ap (led_to (does core step).opening) more.1 ∙ ap (λ (state : StateValue). led_to state (core.accepted ++ more.0)) (same_opening core step) ∙ fold-append applied core.opening core.accepted more.0 in
    let rises = led_rises (current core) more.0 in
    let last : count (does core step) ≡ (led_to (current core) more.0).roster.last = ap (λ (state : StateValue). state.roster.last) same in
    omega (arith, rises, last)

-- a login gives the next number
join_last : (state : StateValue) (name : List ℕ) (account : Option AccountId) (tokens : List (List ℕ))
    → (applied state (Join (next_number state.roster) (next_slot state.roster) name account tokens)).roster.last ≡ state.roster.last + 1
join_last state name account tokens = refl

-- a verdict gives a number that was not given before, if it gives one
given_new : (opening : StateValue) (edits : List Edit) (session : Option SessionId) (decided : Verdict) → SeatsNext (led_to opening edits) session decided
    → (k : ℕ) → IsOf k (seat_of decided) → IsNew (led_to opening edits).roster.last (led_to opening (edits ++ edits_of decided)).roster.last k
given_new opening edits session decided (inl none) k has = absurd (subst (IsOf k) none has)
given_new opening edits session decided (inr next) k has =
    let state : StateValue = led_to opening edits in
    let name : List ℕ = next.1.0 in
    let account : Option AccountId = next.1.1 in
    let tokens : List (List ℕ) = next.1.2 in
    let join : Edit = Join (next_number state.roster) (next_slot state.roster) name account tokens in
    let number : state.roster.last + 1 ≡ k = subst (λ (v : Verdict). IsOf k (seat_of v)) next.1.3 has in
    let after : (led_to opening (edits ++ edits_of decided)).roster.last ≡ state.roster.last + 1 =
    ap (λ (v : Verdict). (led_to opening (edits ++ edits_of v)).roster.last) next.1.3
    ∙ ap (λ (s : StateValue). s.roster.last) (fold-append applied opening edits (join ∷ [])) ∙ join_last state name account tokens in
    (omega (arith, number), omega (arith, number, after))

-- what a connection has after a step it had before, or it is new, and given at place g
abbrev Grants : ℕ → ℕ → ℕ → ℕ → Connection → Connection → Type 0
Grants old new g j before after = (k : ℕ) → Has k after → Has k before ⊎ (IsNew old new k × (j ≡ g))

either : (k : ℕ) (given own : Option Seat) → IsOf k (option_or given own) → IsOf k own ⊎ IsOf k given
either k None own has = inl has
either k (Some seat) own has = inr has

told_has : (x : Connection) (k : ℕ) → IsOf k (option_or (seat_given x.decided) x.seat) ⊎ ⊥ → Has k x
told_has x k (inl has) = either k (seat_given x.decided) x.seat has
told_has x k (inr never) = absurd never

neither : {A : Type 0} → ⊥ ⊎ ⊥ → A
neither (inl never) = absurd never
neither (inr never) = absurd never

answered_has : (old new g j : ℕ) (command : Option Asked) (reply : Reply) (x : Connection) → ((k : ℕ) → IsOf k reply.seat → IsNew old new k) → j ≡ g
    → Grants old new g j x (answered command reply x)
answered_has old new g j None reply x given here k has = inl has
answered_has old new g j (Some command) reply x given here k (inl has) = inl (inl has)
answered_has old new g j (Some command) reply x given here k (inr has) = inr (given k has, here)

abbrev ChangesGrant : ℕ → ℕ → ℕ → Option Change → ℕ → Connection → Type 0
ChangesGrant old new g change j x = IfSome change (λ one. one.0 ≡ j + 1 → Grants old new g j x (one.1 x))

frame_grants : (old new c j : ℕ) (version : Option ℕ) (a : Action) (x : Connection) → ChangesGrant old new 0 (change_by c version a) j x
frame_grants old new c j version (Ask command) x = λ at k has. inl has
frame_grants old new c j version Keep x = λ at k has. inl has
frame_grants old new c j version others x = tt

edit_grants : (core : CoreState) (c j : ℕ) (next : Option Asked) (x : Connection)
    → let decided = option_map (verdict (current core) (session_of (connection_at core c))) next in
    ChangesGrant (count core) (count (option_map_or (edit_step.decides core c) decided core)) (c - 1) (option_map (change_to core c) decided) j x
edit_grants core c j None x = tt
edit_grants core c j (Some command) x = λ at.
    let session : Option SessionId = session_of (connection_at core c) in
    let decided : Verdict = verdict (current core) session command in
    answered_has (count core) (count (edit_step.decides core c decided)) (c - 1) j (next_of_frame x) (edit_step.reply_to core c decided) x
    (given_new core.opening core.accepted session decided (verdict_seats (current core) session command)) (omega (arith, at))

-- the place at which a step may give a session
abbrev grants_at : Step → ℕ
grants_at (steps.Edit c) = c - 1
grants_at others = 0

grants_by : (core : CoreState) (step : Step) (j : ℕ) (x : Connection) → ChangesGrant (count core) (count (does core step)) (grants_at step) (change_of core step) j x
grants_by core (Frame c bytes) j x = frame_grants (count core) (count (does core (Frame c bytes))) c j (frame_version core c bytes) (frame_action core c bytes) x
grants_by core (steps.Edit c) j x = edit_grants core c j (next_command (connection_at core c)) x
grants_by core (Tell c revision) j x = λ at k has. inl (told_has x k has)
grants_by core (Close c cause) j x = λ at k has. inl has
grants_by core others j x = tt

grants : (core : CoreState) (step : Step) (j : ℕ) → Grants (count core) (count (does core step)) (grants_at step) j (conn core j) (conn (does core step) j)
grants core step j =
    each_step (Grants (count core) (count (does core step)) (grants_at step) j) (λ x k has. inl has) (λ x k has. inl has) core step j (λ w past k has. neither has) (grants_by core step j (conn core j))

-- ---- each session is of one connection

pub record Sound (core : CoreState) : Type 0 where
  pub given : (j k : ℕ) → Has k (conn core j) → k ≤ count core
  pub alone : (i j k : ℕ) → Has k (conn core i) → Has k (conn core j) → j ≡ i

record Owns (core : CoreState) (i k : ℕ) : Type 0 where
  pub given : k ≤ count core
  pub alone : (j : ℕ) → Has k (conn core j) → j ≡ i

given_by : (old new : CoreState) (i j k : ℕ) → Sound old → count old ≤ count new → Has k (conn old j) ⊎ (IsNew (count old) (count new) k × (j ≡ i)) → k ≤ count new
given_by old new i j k sound grown (inl has) = let low = sound.given j k has in omega arith
given_by old new i j k sound grown (inr fit) = fit.0.1

alone_by : (old new : CoreState) (g i j k : ℕ) → Sound old → Has k (conn old i) ⊎ (IsNew (count old) (count new) k × (i ≡ g)) → Has k (conn old j) ⊎ (IsNew (count old) (count new) k × (j ≡ g)) → j ≡ i
alone_by old new g i j k sound (inl hi) (inl hj) = sound.alone i j k hi hj
alone_by old new g i j k sound (inl hi) (inr fj) = let low = sound.given i k hi in let high = fj.0.0 in absurd (omega arith)
alone_by old new g i j k sound (inr fi) (inl hj) = let low = sound.given j k hj in let high = fi.0.0 in absurd (omega arith)
alone_by old new g i j k sound (inr fi) (inr fj) = fj.1 ∙ sym fi.1

sound_step : (core : CoreState) (step : Step) → Sound core → Sound (does core step)
sound_step core step sound =
    let rises = count_rises core step in
    let g : ℕ = grants_at step in
    record {
      given = λ j k has. given_by core (does core step) g j k sound rises (grants core step j k has);
      alone = λ i j k hi hj. alone_by core (does core step) g i j k sound (grants core step i k hi) (grants core step j k hj);
    }

owned_by : (old new : CoreState) (g i j k : ℕ) → Owns old i k → Has k (conn old j) ⊎ (IsNew (count old) (count new) k × (j ≡ g)) → j ≡ i
owned_by old new g i j k owns (inl has) = owns.alone j has
owned_by old new g i j k owns (inr fit) = let low = owns.given in let high = fit.0.0 in absurd (omega arith)

owns_step : (core : CoreState) (step : Step) (i k : ℕ) → Owns core i k → Owns (does core step) i k
owns_step core step i k owns =
    let low = owns.given in
    let rises = count_rises core step in
    record { given = omega (arith, low, rises); alone = λ j has. owned_by core (does core step) (grants_at step) i j k owns (grants core step j k has) }

pub sound_start : (version : Version) (opening : StateValue) (workers : ℕ) → Sound (start version opening workers)
sound_start version opening workers = record { given = λ j k has. neither has; alone = λ i j k hi hj. neither hi }

-- ---- whose packet a step takes

abbrev pub of_speaker : ℕ → List HeldPacket → List HeldPacket
of_speaker k packets = filter (λ held. held.speaker.0 == k) packets

-- the connection at this place has session k, and this worker
pub record Source (w k : ℕ) (core : CoreState) : Type 0 where
  pub place : ℕ
  pub within : place < length core.connections
  pub of : IsOf k (conn core place).seat
  pub at : (conn core place).worker ≡ w

abbrev Gains : WorkerState → WorkerState → List HeldPacket
Gains old new = cond (is_none old.held) (option_to_list new.held) []

gains_none : (k : ℕ) (old new : Option HeldPacket) → (new ≡ old) ⊎ (new ≡ None) → of_speaker k (cond (is_none old) (option_to_list new) []) ≡ []
gains_none k None new (inl same) = rw same refl
gains_none k None new (inr none) = rw none refl
gains_none k (Some held) new h = refl

abbrev Without : ℕ → WorkerState → WorkerState → Type 0
Without k old new = of_speaker k (Gains old new) ≡ []

without : (k : ℕ) (x : WorkerState) → Without k x x
without k x = gains_none k x.held x.held (inl refl)

other_speaker : (k : ℕ) (b : Bool) (held : HeldPacket) → (held.speaker.0 == k) ≡ false → of_speaker k (cond b (held ∷ []) []) ≡ []
other_speaker k true held e = rw e refl
other_speaker k false held e = refl

hears_from : (w k : ℕ) (core : CoreState) (v : ℕ) (seat : Option Seat) (read : Result Parts BadVoice)
    → (Without k (worker_at core w) (worker_at (frame_step.hears core v (spoken seat read)) w)) ⊎ (IsOf k seat × (w ≡ v))
hears_from w k core v None read = inl (without k (worker_at core w))
hears_from w k core v (Some seat) (Err fault) = inl (without k (worker_at core w))
hears_from w k core v (Some seat) (Ok parts) = from (seat.session.0 == k) refl
  where
    from : (b : Bool) → (seat.session.0 == k) ≡ b → (Without k (worker_at core w) (worker_at (frame_step.hears core v (spoken (Some seat) (Ok parts))) w)) ⊎ ((seat.session.0 ≡ k) × (w ≡ v))
    from false e =
        inl (changed-by (Without k) (without k) core.workers v w (λ worker. record worker { held = Some (record { speaker = seat.session; parts = parts }) }) idle
        (λ x at here. other_speaker k (is_none x.held) (record { speaker = seat.session; parts = parts }) e))
    from true e = elim (cases_eq w v) [
      | inl same ↦ inr (eqb-true seat.session.0 k e, same)
      | inr other ↦
          let there = changed_other core.workers v w (λ worker. record worker { held = Some (record { speaker = seat.session; parts = parts }) }) idle other in
          inl (rw there (without k (worker_at core w)))
    ]

frame_from : (w k : ℕ) (core : CoreState) (c : ℕ) (version : Option ℕ) (a : Action)
    → (Without k (worker_at core w) (worker_at (frame_step.does core c version a) w)) ⊎ (IsOf k (connection_at core c).seat × (w ≡ (connection_at core c).worker))
frame_from w k core c version (Voice payload) = hears_from w k core (connection_at core c).worker (connection_at core c).seat (packet payload)
frame_from w k core c version others = inl (without k (worker_at core w))

frame_source : (w k : ℕ) (core : CoreState) (c : ℕ) (bytes : List ℕ) → illegal core (Frame c bytes) ≡ None
    → (of_speaker k (packet_taken w core (Frame c bytes)) ≡ []) ⊎ Source w k core
frame_source w k core c bytes h = elim (frame_from w k core c (frame_version core c bytes) (frame_action core c bytes)) [
  | inl none ↦ inl none
  | inr mine ↦
      let first = none_stands (not (is_opened core c)) _ _ h in
      let opened = and_parts (nat_lt 0 c) (nat_lt (c - 1) (length core.connections)) (not_false (is_opened core c) first.0) in
      let there = placed core c opened.0 in
      inr (record { place = c - 1; within = ltb-true (c - 1) (length core.connections) opened.1; of = rw there at mine.0; at = sym (rw there at mine.1) })
]

from_workers : (w k : ℕ) (core : CoreState) (workers : List WorkerState) → Without k (worker_at core w) (slice_index_or workers w idle)
    → (new : List WorkerState) → new ≡ workers → Without k (worker_at core w) (slice_index_or new w idle)
from_workers w k core workers h new same = rw same h

notes_without : (w k : ℕ) (core : CoreState) (v : ℕ) (revision : Option ℕ) → Without k (worker_at core w) (worker_at (tell_step.notes v revision core) w)
notes_without w k core v None = without k (worker_at core w)
notes_without w k core v (Some revision) =
    changed-by (Without k) (without k) core.workers v w (λ worker. record worker { told = max worker.told revision }) idle (λ x at here. without k x)

pub source : (w k : ℕ) (core : CoreState) (step : Step) → illegal core step ≡ None → (of_speaker k (packet_taken w core step) ≡ []) ⊎ Source w k core
source w k core (Open c v) h = inl (without k (worker_at core w))
source w k core (Frame c bytes) h = frame_source w k core c bytes h
source w k core (steps.Edit c) h =
    inl (from_workers w k core core.workers (without k (worker_at core w)) (does core (steps.Edit c)).workers (decided_workers core c (edit_step.decision core c)))
source w k core Publish h = inl (without k (worker_at core w))
source w k core (Tell c revision) h = inl (notes_without w k (told_core core c) (connection_at core c).worker revision)
source w k core (Look v revision) h =
    inl (changed-by (Without k) (without k) core.workers v w _ idle (λ x at here. gains_none k x.held None (inr refl)))
source w k core (Offer v) h =
    inl (from_workers w k core (taken_core core v).workers
    (changed-by (Without k) (without k) core.workers v w _ idle (λ x at here. without k x))
    (does core (Offer v)).workers (puts_workers (taken_core core v) (offer_step.next_copy core v)))
source w k core (Drain c) h = inl (from_workers w k core core.workers (without k (worker_at core w)) (does core (Drain c)).workers (drain_workers core (connection_at core c).seat))
source w k core Post h = inl (from_workers w k core core.workers (without k (worker_at core w)) (does core Post).workers (posted_workers core))
source w k core (Collect c) h = inl (from_workers w k core core.workers (without k (worker_at core w)) (does core (Collect c)).workers (collect_workers core (connection_at core c).seat))
source w k core (Close c cause) h = inl (without k (worker_at core w))
source w k core End h = inl (without k (worker_at core w))

-- ---- all steps

pub joined_none : (k : ℕ) (xs ys : List HeldPacket) → of_speaker k xs ≡ [] → of_speaker k ys ≡ [] → of_speaker k (xs ++ ys) ≡ []
joined_none k xs ys hx hy = filter-append (λ (held : HeldPacket). held.speaker.0 == k) xs ys ∙ (ap (λ (zs : List HeldPacket). zs ++ of_speaker k ys) hx ∙ hy)

later_none : (core : CoreState) (run : List Step) (i k v w : ℕ) → IsRun core run → Owns core i k → i < length core.connections → (conn core i).worker ≡ v → (v ≡ w → ⊥)
    → of_speaker k (gathered (packet_taken w) core run) ≡ []
later_none core [] i k v w is owns within at other = refl
later_none core (step ∷ run) i k v w is owns within at other =
    let stays = place_stays core step i within in
    joined_none k (packet_taken w core step) (gathered (packet_taken w) (does core step) run) (now (source w k core step is.0))
    (later_none (does core step) run i k v w is.1 (owns_step core step i k owns) stays.0 (stays.1 ∙ at) other)
  where
    now : (of_speaker k (packet_taken w core step) ≡ []) ⊎ Source w k core → of_speaker k (packet_taken w core step) ≡ []
    now (inl none) = none
    now (inr s) =
        let place : s.place ≡ i = owns.alone s.place (inl s.of) in
        let mine : (conn core i).worker ≡ w = rw place at s.at in
        absurd (other (sym at ∙ mine))

owned : (w k : ℕ) (core : CoreState) → Sound core → (s : Source w k core) → Owns core s.place k
owned w k core sound s = record { given = sound.given s.place k (inl s.of); alone = λ j has. sound.alone s.place j k (inl s.of) has }

one_of_two : (core : CoreState) (run : List Step) (v w k : ℕ) → IsRun core run → Sound core → (v ≡ w → ⊥)
    → (of_speaker k (gathered (packet_taken v) core run) ≡ []) ⊎ (of_speaker k (gathered (packet_taken w) core run) ≡ [])
one_of_two core [] v w k is sound other = inl refl
one_of_two core (step ∷ run) v w k is sound other = from (source v k core step is.0) (source w k core step is.0) (one_of_two (does core step) run v w k is.1 (sound_step core step sound) other)
  where
    from : (of_speaker k (packet_taken v core step) ≡ []) ⊎ Source v k core → (of_speaker k (packet_taken w core step) ≡ []) ⊎ Source w k core
        → (of_speaker k (gathered (packet_taken v) (does core step) run) ≡ []) ⊎ (of_speaker k (gathered (packet_taken w) (does core step) run) ≡ [])
        → (of_speaker k (gathered (packet_taken v) core (step ∷ run)) ≡ []) ⊎ (of_speaker k (gathered (packet_taken w) core (step ∷ run)) ≡ [])
    from (inr s) hw later = inr (later_none core (step ∷ run) s.place k v w is (owned v k core sound s) s.within s.at other)
    from (inl nv) (inr s) later = inl (later_none core (step ∷ run) s.place k w v is (owned w k core sound s) s.within s.at (λ same. other (sym same)))
    from (inl nv) (inl nw) (inl none) = inl (joined_none k (packet_taken v core step) (gathered (packet_taken v) (does core step) run) nv none)
    from (inl nv) (inl nw) (inr none) = inr (joined_none k (packet_taken w core step) (gathered (packet_taken w) (does core step) run) nw none)

pub one_worker_a_speaker : (version : Version) (opening : StateValue) (workers v w speaker : ℕ) (run : List Step) → IsRun (start version opening workers) run → (v ≡ w → ⊥)
    → (filter (λ held. held.speaker.0 == speaker) (gathered (packet_taken v) (start version opening workers) run) ≡ [])
    ⊎ (filter (λ held. held.speaker.0 == speaker) (gathered (packet_taken w) (start version opening workers) run) ≡ [])
one_worker_a_speaker version opening workers v w speaker run is other = one_of_two (start version opening workers) run v w speaker is (sound_start version opening workers) other

-- ---- the connection of a session

pub sound_all : (core : CoreState) (run : List Step) → Sound core → Sound (ran core run)
sound_all core [] sound = sound
sound_all core (step ∷ run) sound = sound_all (does core step) run (sound_step core step sound)

owns_all : (core : CoreState) (run : List Step) (i k : ℕ) → Owns core i k → Owns (ran core run) i k
owns_all core [] i k owns = owns
owns_all core (step ∷ run) i k owns = owns_all (does core step) run i k (owns_step core step i k owns)

pub given_of : (o : Option Seat) (seat : Seat) (k : ℕ) → o ≡ Some seat → seat.session.0 ≡ k → IsOf k o
given_of o seat k e same = rw e same

seated : (core : CoreState) (c k : ℕ) → IsOf k (connection_at core c).seat → (0 < c) × Has k (conn core (c - 1))
seated core c k has = from (nat_lt 0 c) refl has
  where
    from : (b : Bool) → nat_lt 0 c ≡ b → IsOf k (cond b (conn core (c - 1)) (fresh 0)).seat → (0 < c) × Has k (conn core (c - 1))
    from true e has = (ltb-true 0 c e, inl has)
    from false e has = absurd has

pub one_connection_a_session : (version : Version) (opening : StateValue) (workers c d : ℕ) (run more : List Step) (seat other : Seat) → IsRun (start version opening workers) run → IsRun (ran (start version opening workers) run) more
    → (connection_at (ran (start version opening workers) run) c).seat ≡ Some seat → (connection_at (ran (ran (start version opening workers) run) more) d).seat ≡ Some other → seat.session.0 ≡ other.session.0 → c ≡ d
one_connection_a_session version opening workers c d run more seat other is later first second same =
    let core : CoreState = ran (start version opening workers) run in
    let sound = sound_all (start version opening workers) run (sound_start version opening workers) in
    let here = seated core c seat.session.0 (given_of (connection_at core c).seat seat seat.session.0 first refl) in
    let there = seated (ran core more) d seat.session.0 (given_of (connection_at (ran core more) d).seat other seat.session.0 second (sym same)) in
    let owns : Owns core (c - 1) seat.session.0 =
    record { given = sound.given (c - 1) seat.session.0 here.1; alone = λ j has. sound.alone (c - 1) j seat.session.0 here.1 has } in
    let place : d - 1 ≡ c - 1 = (owns_all core more (c - 1) seat.session.0 owns).alone (d - 1) there.1 in
    let low = here.0 in
    let high = there.0 in
    omega arith
