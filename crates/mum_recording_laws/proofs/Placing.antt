-- The packets that a worker of a run routes are of connections of its own.
use Rattle.mum_recording_laws.proofs.Common.{◌≡◌, ℕ, ◌-◌, ◌==◌, ◌||◌, ◌⊎◌, not, max, Bool, true, false, cond, List, [], ◌∷◌, length, drop, filter, Option, Some, None, refl, sym, ap, subst, ◌∙◌, inl, inr, replicate, zero, suc, is_none, is_some, nat_lt, option_to_list, slice_index_or, AllByRecursion, AllZip, option_map, option_or, cases_eq, eq-eqb, false≢true, SessionId, packet, opening, version_with, Journal, WorkerEntry, Closed, VoiceEntry, Step, Close, Collect, Drain, End, Frame, Look, Offer, Open, Post, Publish, Tell, Action, Connection, Seat, fresh, seat_given, session_of, CoreState, connection_at, is_opened, worker_at, IsRun, gathered, packet_taken, ran, does, frame_action, frame_version, illegal, HeldPacket, WorkerState, idle, in_hand, spoken, changed-by, changed_other, conn, place_stays, placed, collect_workers, decided_workers, drain_workers, none_stands, posted_workers, puts_workers, taken_core, told_core, AreSettled, seat_all, settled_start, settled_step, Has, IsOf, Sound, Source, of_speaker, sound_all, sound_start, source, is_voice, past_of, Past, session_in, each_both, first_core, ArePlaced, IsPlaced, AreOfRun, IsRouted, Routed, routed, routed_at}
use Rattle.mum_session.specs.declared.action.Action.TheVariants.{Voice}
use Rattle.mum_recording_laws.proofs.{Options.none_some, Following.Follows}
use Rattle.mum_record.specs.declared.step.Step.TheVariants as steps
use Rattle.mum_core.specs.steps.Edit as edit_step
use Rattle.mum_core.specs.steps.Frame as frame_step
use Rattle.mum_core.specs.steps.Offer as offer_step
use Rattle.mum_core.specs.steps.Tell as tell_step

-- ---- what a step leaves of a packet that is held

-- it is the same, or there was none or is none
abbrev Keeps : WorkerState → WorkerState → Type 0
Keeps old new = (new.held ≡ old.held) ⊎ ((old.held ≡ None) ⊎ (new.held ≡ None))

same_worker : (x : WorkerState) → Keeps x x
same_worker x = inl refl

from_workers : (w : ℕ) (core : CoreState) (workers new : List WorkerState) → Keeps (worker_at core w) (slice_index_or workers w idle) → new ≡ workers → Keeps (worker_at core w) (slice_index_or new w idle)
from_workers w core workers new keeps same = subst (λ (xs : List WorkerState). Keeps (worker_at core w) (slice_index_or xs w idle)) (sym same) keeps

no_held : (worker : WorkerState) → nat_lt 0 (in_hand worker) ≡ false → worker.held ≡ None
no_held worker free = from worker.held refl
  where
    from : (o : Option HeldPacket) → worker.held ≡ o → worker.held ≡ None
    from None is = is
    from (Some held) is = absurd (false≢true (sym free ∙ ap (λ (o : Option HeldPacket). nat_lt 0 (cond (is_some o) 1 (length worker.copies))) is))

hears_keeps : (w v : ℕ) (core : CoreState) (o : Option HeldPacket) → (worker_at core v).held ≡ None → Keeps (worker_at core w) (worker_at (frame_step.hears core v o) w)
hears_keeps w v core None free = same_worker (worker_at core w)
hears_keeps w v core (Some held) free = elim (cases_eq w v) [
  | inl same ↦ inr (inl (ap (λ (k : ℕ). (worker_at core k).held) same ∙ free))
  | inr apart ↦ inl (ap (λ (worker : WorkerState). worker.held) (changed_other core.workers v w (λ worker. record worker { held = Some held }) idle apart))
]

frame_keeps : (w : ℕ) (core : CoreState) (c : ℕ) (version : Option ℕ) (a : Action) → (worker_at core (connection_at core c).worker).held ≡ None
    → Keeps (worker_at core w) (worker_at (frame_step.does core c version a) w)
frame_keeps w core c version (Voice payload) free = hears_keeps w (connection_at core c).worker core (spoken (connection_at core c).seat (packet payload)) free
frame_keeps w core c version others free = same_worker (worker_at core w)

notes_keep : (w v : ℕ) (core : CoreState) (revision : Option ℕ) → Keeps (worker_at core w) (worker_at (tell_step.notes v revision core) w)
notes_keep w v core None = same_worker (worker_at core w)
notes_keep w v core (Some revision) = changed-by Keeps same_worker core.workers v w (λ worker. record worker { told = max worker.told revision }) idle (λ x at here. inl refl)

keeps_held : (w : ℕ) (core : CoreState) (step : Step) → illegal core step ≡ None → Keeps (worker_at core w) (worker_at (does core step) w)
keeps_held w core (Open c v) h = same_worker (worker_at core w)
keeps_held w core (Frame c bytes) h =
    let first = none_stands (not (is_opened core c)) _ _ h in
    let second = none_stands (is_some (connection_at core c).closed) _ _ first.1 in
    let third = none_stands (is_some (connection_at core c).waiting || is_some (connection_at core c).decided) _ _ second.1 in
    let fourth = none_stands (nat_lt 0 (in_hand (worker_at core (connection_at core c).worker))) _ _ third.1 in
    frame_keeps w core c (frame_version core c bytes) (frame_action core c bytes) (no_held (worker_at core (connection_at core c).worker) fourth.0)
keeps_held w core (steps.Edit c) h =
    from_workers w core core.workers (does core (steps.Edit c)).workers (same_worker (worker_at core w)) (decided_workers core c (edit_step.decision core c))
keeps_held w core Publish h = same_worker (worker_at core w)
keeps_held w core (Tell c revision) h = notes_keep w (connection_at core c).worker (told_core core c) revision
keeps_held w core (Look v revision) h = changed-by Keeps same_worker core.workers v w _ idle (λ x at here. inr (inr refl))
keeps_held w core (Offer v) h =
    from_workers w core (taken_core core v).workers (does core (Offer v)).workers
    (changed-by Keeps same_worker core.workers v w (λ worker. record worker { copies = drop 1 worker.copies }) idle (λ x at here. inl refl))
    (puts_workers (taken_core core v) (offer_step.next_copy core v))
keeps_held w core (Drain c) h = from_workers w core core.workers (does core (Drain c)).workers (same_worker (worker_at core w)) (drain_workers core (connection_at core c).seat)
keeps_held w core Post h = from_workers w core core.workers (does core Post).workers (same_worker (worker_at core w)) (posted_workers core)
keeps_held w core (Collect c) h = from_workers w core core.workers (does core (Collect c)).workers (same_worker (worker_at core w)) (collect_workers core (connection_at core c).seat)
keeps_held w core (Close c cause) h = same_worker (worker_at core w)
keeps_held w core End h = same_worker (worker_at core w)

-- ---- whose packet it is

abbrev HasSource : CoreState → Type 0
HasSource core = (w : ℕ) (held : HeldPacket) → (worker_at core w).held ≡ Some held → Source w held.speaker.0 core

own_speaker : (held : HeldPacket) → of_speaker held.speaker.0 (held ∷ []) ≡ [] → ⊥
own_speaker held none = never (held.speaker.0 == held.speaker.0) (eq-eqb held.speaker.0 held.speaker.0 refl) none
  where
    never : (b : Bool) → b ≡ true → cond b (held ∷ []) [] ≡ [] → ⊥
    never false is none = false≢true is
    never true is none = cc

pub seat_stays : (core : CoreState) (step : Step) (i k : ℕ) → AreSettled core → IsOf k (conn core i).seat → IsOf k (conn (does core step) i).seat
seat_stays core step i k settled is = from (conn core i).seat refl is
  where
    from : (o : Option Seat) → (conn core i).seat ≡ o → IsOf k o → IsOf k (conn (does core step) i).seat
    from None at is = absurd is
    from (Some seat) at is = subst (IsOf k) (sym ((seat_all core (step ∷ []) i (settled i)).1 seat at)) is

pub source_on : (w k : ℕ) (core : CoreState) (step : Step) → AreSettled core → Source w k core → Source w k (does core step)
source_on w k core step settled has =
    let stays = place_stays core step has.place has.within in
    record { place = has.place; within = stays.0; of = seat_stays core step has.place k settled has.of; at = stays.1 ∙ has.at }

source_all : (w k : ℕ) (core : CoreState) (run : List Step) → AreSettled core → Source w k core → Source w k (ran core run)
source_all w k core [] settled has = has
source_all w k core (step ∷ run) settled has = source_all w k (does core step) run (settled_step core step settled) (source_on w k core step settled has)

has_source : (core : CoreState) (step : Step) → illegal core step ≡ None → AreSettled core → HasSource core → HasSource (does core step)
has_source core step allowed settled has w held is = source_on w held.speaker.0 core step settled (from (keeps_held w core step allowed))
  where
    taken : (worker_at core w).held ≡ None → packet_taken w core step ≡ held ∷ []
    taken none = ap (λ (o : Option HeldPacket). cond (is_none o) (option_to_list (worker_at (does core step) w).held) []) none ∙ ap (λ (o : Option HeldPacket). option_to_list o) is

    from : Keeps (worker_at core w) (worker_at (does core step) w) → Source w held.speaker.0 core
    from (inl same) = has w held (sym same ∙ is)
    from (inr (inr none)) = absurd (none_some (worker_at (does core step) w).held held none is)
    from (inr (inl none)) = elim (source w held.speaker.0 core step allowed) [
      | inl nobody ↦ absurd (own_speaker held (sym (ap (of_speaker held.speaker.0) (taken none)) ∙ nobody))
      | inr some ↦ some
    ]

-- ---- all that a worker routes

all_sourced : (w : ℕ) (core : CoreState) (run : List Step) → IsRun core run → AreSettled core → HasSource core → AllByRecursion (λ (one : Routed). Source w one.speaker.0 (ran core run)) (gathered (routed w) core run)
all_sourced w core [] allowed settled has = tt
all_sourced w core (Look v revision ∷ run) allowed settled has =
    each_both (λ (one : Routed). Source w one.speaker.0 (ran core (Look v revision ∷ run))) (routed w core (Look v revision)) (gathered (routed w) (does core (Look v revision)) run)
    (here (v == w) (worker_at core w).held refl)
    (all_sourced w (does core (Look v revision)) run allowed.1 (settled_step core (Look v revision) settled) (has_source core (Look v revision) allowed.0 settled has))
  where
    here : (b : Bool) (o : Option HeldPacket) → (worker_at core w).held ≡ o
        → AllByRecursion (λ (one : Routed). Source w one.speaker.0 (ran core (Look v revision ∷ run))) (cond b (option_to_list (option_map (routed_at core revision) o)) [])
    here false o is = tt
    here true None is = tt
    here true (Some held) is = (source_all w held.speaker.0 core (Look v revision ∷ run) settled (has w held is), tt)
all_sourced w core (step ∷ run) allowed settled has =
    all_sourced w (does core step) run allowed.1 (settled_step core step settled) (has_source core step allowed.0 settled has)

-- ---- the connections of a journal

pub has_by : (x : Connection) (session : SessionId) → session_of x ≡ Some session → Has session.0 x
has_by x session is = from (seat_given x.decided) x.seat is
  where
    of : (seat : Seat) → option_map (λ (seat : Seat). seat.session) (Some seat) ≡ Some session → seat.session.0 ≡ session.0
    of seat some = let same : seat.session ≡ session = cc in ap (λ (one : SessionId). one.0) same

    from : (given own : Option Seat) → option_map (λ (seat : Seat). seat.session) (option_or given own) ≡ Some session → IsOf session.0 own ⊎ IsOf session.0 given
    from (Some seat) own some = inr (of seat some)
    from None (Some seat) some = inl (of seat some)
    from None None some = absurd (cc)

module _ (last : CoreState) (past : Past) (follows : Follows last past) (sound : Sound last) (w : ℕ) where
  worker_of_it : (c : ℕ) (one : Routed) → session_in past c ≡ Some one.speaker → Source w one.speaker.0 last → (connection_at last c).worker ≡ w
  worker_of_it c one says has = from (nat_lt 0 c) refl
    where
      own : session_of (connection_at last c) ≡ Some one.speaker
      own = sym (follows.sessions c) ∙ says

      from : (b : Bool) → nat_lt 0 c ≡ b → (connection_at last c).worker ≡ w
      from false is =
          absurd (none_some (session_of (fresh 0)) one.speaker refl
          (sym (ap (λ (b : Bool). session_of (cond b (slice_index_or last.connections (c - 1) (fresh 0)) (fresh 0))) is) ∙ own))
      from true is =
          let at : connection_at last c ≡ conn last (c - 1) = placed last c is in
          let here : Has one.speaker.0 (conn last (c - 1)) = has_by (conn last (c - 1)) one.speaker (sym (ap (λ (x : Connection). session_of x) at) ∙ own) in
          let same : c - 1 ≡ has.place = sound.alone has.place (c - 1) one.speaker.0 (inl has.of) here in
          ap (λ (x : Connection). x.worker) at ∙ ap (λ (i : ℕ). (conn last i).worker) same ∙ has.at

  entries_placed : (entries : List WorkerEntry) (items : List Routed) → AllZip (IsRouted past) (filter is_voice entries) items
      → AllByRecursion (λ (one : Routed). Source w one.speaker.0 last) items → AllByRecursion (IsPlaced (λ c. (connection_at last c).worker) w) entries
  entries_placed [] items zip all = tt
  entries_placed (Closed c cause ∷ entries) items zip all = (tt, entries_placed entries items zip all)
  entries_placed (VoiceEntry c revision bytes copies ∷ entries) [] zip all = absurd zip
  entries_placed (VoiceEntry c revision bytes copies ∷ entries) (item ∷ items) zip all = (worker_of_it c item zip.0.0 all.0, entries_placed entries items zip.1 all.1)

pub idle_at : (n w : ℕ) → slice_index_or (replicate n idle) w idle ≡ idle
idle_at zero w = refl
idle_at (suc n) zero = refl
idle_at (suc n) (suc w) = idle_at n w

nothing_held : (journal : Journal) → HasSource (first_core journal)
nothing_held journal w held is = absurd (none_some (worker_at (first_core journal) w).held held (ap (λ (worker : WorkerState). worker.held) (idle_at journal.workers w)) is)

pub placed_of_run : (journal : Journal) (run : List Step) → IsRun (first_core journal) run → AreOfRun journal (first_core journal) run → Follows (ran (first_core journal) run) (past_of journal)
    → ArePlaced journal
placed_of_run journal run allowed recorded follows =
    let first : CoreState = first_core journal in
    let last : CoreState = ran first run in
    let sound : Sound last = sound_all first run (sound_start (version_with journal.limits) (opening journal.limits journal.config) journal.workers) in (
      λ c. (connection_at last c).worker,
      λ w entries there.
          entries_placed last (past_of journal) follows sound w entries (gathered (routed w) first run) (recorded.packets w entries there)
          (all_sourced w first run allowed (settled_start (version_with journal.limits) (opening journal.limits journal.config) journal.workers) (nothing_held journal)),
    )
