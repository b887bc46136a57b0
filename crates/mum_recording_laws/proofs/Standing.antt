-- A journal of an orderly run is in order.
use Rattle.mum_recording_laws.proofs.Common.{◌≡◌, ℕ, zero, suc, ◌+◌, ◌-◌, ◌≤◌, ◌<◌, ◌==◌, not, Bool, true, false, cond, List, [], ◌∷◌, ◌++◌, length, take, drop, filter, Option, Some, None, refl, sym, ap, subst, ◌∙◌, arith, inl, inr, IsTrue, is_none, is_some, nat_le, nat_lt, option_to_list, slice_get, slice_index_or, AllByRecursion, AllZip, list_any, option_map, option_or, and_parts, cases_eq, eqb-true, false_from_ne_true, false≢true, leb-false, leb-true, ltb-true, or_left, or_right, opening, version_with, may_carry, ControlEntry, Journal, WorkerEntry, Closed, Voice, Step, Look, verdict, Asked, Edit, Connection, HasLeft, Reply, Seat, answered, fresh, leads, leave_waiting, next_command, next_of_frame, session_of, CoreState, connection_at, current, worker_at, IsRun, gathered, ran, does, illegal, HeldPacket, WorkerState, at_place, conn, placed, IsWithin, looks_are_bounded, none_stands, not_false, within, AreSettled, seat_all, settled_start, settled_step, Has, IsOf, Sound, sound_all, sound_start, is_voice, past_before, past_of, past_at, session_in, each_both, OrderlyRunsAreInOrder, first_core, AreAsked, IsInTime, IsTimely, leaves, AreOrderly, IsOrderly, IsDecided, IsRouted, Routed, decided, routed, routed_at}
use Rattle.mum_core.specs.declared.connection.Leave.{Leave}
use Rattle.mum_recording_laws.proofs.{Following.Follows, Following.IsQuiet, Following.MayDecide, Following.begins, Following.does_is, Following.follow, Following.follows_entry, Following.follows_quiet, Following.may_decide, Following.told_of, Holding.HoldsOpen, Holding.OpenSource, Holding.holds_step, Knowing.AreKnown, Leaving.AreDeparting, Leaving.Departs, Leaving.departs_step, Leaving.fresh_departs, Noting.AreCarried, Noting.asked_of_run, Noting.carried_of, Noting.known_first, Noting.known_here, Noting.known_next, Noting.quiet_known, Options.none_some, Options.same_some, Pasts.LoggedAt, Pasts.drop_next, Pasts.drop_none, Pasts.logged_more, Pasts.next_past, Pasts.rises, Pasts.take_next, Placing.has_by, Placing.idle_at, Placing.placed_of_run, Routing.each_of, Sitting.AreCalm, Sitting.calm_step, Sitting.changed_here, Timing.Timed, Timing.due_after, Timing.due_answered, Timing.timed_seat, Timing.timed_step}
use Rattle.mum_record.specs.declared.step.Step.TheVariants as steps
use Rattle.mum_core.specs.steps.Edit as edit_step

-- ---- lists

any_before : (p : ControlEntry → Bool) (entries : List ControlEntry) (i j : ℕ) (entry : ControlEntry) → slice_get entries i ≡ Some entry → i < j → p entry ≡ true → list_any p (take j entries) ≡ true
any_before p [] i j entry is low passes = absurd (cc)
any_before p (first ∷ entries) i zero entry is low passes = absurd (omega (arith, low))
any_before p (first ∷ entries) zero (suc j) entry is low passes = let same : first ≡ entry = cc in or_left (p first) (list_any p (take j entries)) (ap p same ∙ passes)
any_before p (first ∷ entries) (suc i) (suc j) entry is low passes = or_right (p first) (list_any p (take j entries)) (any_before p entries i j entry is (omega (arith, low)) passes)

none_behind : (entries : List ControlEntry) (i j : ℕ) (entry : ControlEntry) → drop j entries ≡ [] → j ≤ i → slice_get entries i ≡ Some entry → ⊥
none_behind [] i j entry none low is = cc
none_behind (first ∷ entries) i zero entry none low is = cc
none_behind (first ∷ entries) zero (suc j) entry none low is = omega (arith, low)
none_behind (first ∷ entries) (suc i) (suc j) entry none low is = none_behind entries i j entry none (omega (arith, low)) is

empty_zip : (xs : List ControlEntry) → AllZip IsDecided xs [] → xs ≡ []
empty_zip [] zip = refl
empty_zip (x ∷ xs) zip = absurd zip

carried_drop : (entries : List ControlEntry) (j : ℕ) (entry : ControlEntry) → AreCarried entries → slice_get entries j ≡ Some entry → IsTrue (may_carry entry.version entry.frame)
carried_drop [] j entry all is = absurd (cc)
carried_drop (first ∷ entries) zero entry all is = let same : first ≡ entry = cc in subst (λ (one : ControlEntry). IsTrue (may_carry one.version one.frame)) same all.0
carried_drop (first ∷ entries) (suc j) entry all is = carried_drop entries j entry all.1 is

seat_in : (o : Option Seat) (k : ℕ) → IsOf k o → (seat : Seat) × (o ≡ Some seat)
seat_in None k is = absurd is
seat_in (Some seat) k is = (seat, refl)

module _ (journal : Journal) (asked : AreAsked journal) (carried : AreCarried journal.controls) where
  -- what a core has after n entries
  record Standing (j : ℕ) (core : CoreState) : Type 0 where
    follows : Follows core (past_at journal j)
    calm : AreCalm core
    known : AreKnown (take j journal.controls) core
    departs : AreDeparting core
    settled : AreSettled core
    inside : IsWithin core
    holds : HoldsOpen core
    timed : Timed journal asked core

  quiet_stands : (j : ℕ) (core : CoreState) (step : Step) → IsQuiet step → ((i : ℕ) → (AreKnown (take j journal.controls) core → AreKnown (take j journal.controls) (does core step))) → illegal core step ≡ None
      → IsOrderly core step → Standing j core → Standing j (does core step)
  quiet_stands j core step quiet know allowed orderly stands = record {
    follows = follows_quiet core step (past_at journal j) quiet stands.follows;
    calm = calm_step core step allowed stands.calm;
    known = know 0 stands.known;
    departs = departs_step core step orderly stands.departs;
    settled = settled_step core step stands.settled;
    inside = within core step stands.inside;
    holds = holds_step core step allowed orderly stands.settled stands.holds;
    timed = timed_step journal asked core step quiet allowed orderly stands.timed;
  }

  -- ---- a step that decides

  module _ (j : ℕ) (core : CoreState) (c : ℕ) (run : List Step) (stands : Standing j core) (allowed : IsRun core (steps.Edit c ∷ run)) (orderly : IsOrderly core (steps.Edit c))
      (what : Asked) (entry : ControlEntry) (next : next_command (connection_at core c) ≡ Some what) (here : slice_get journal.controls j ≡ Some entry) (says : IsDecided entry (told_of core c what)) where
    abbrev after : CoreState
    after = does core (steps.Edit c)

    abbrev reply : Reply
    reply = edit_step.reply_to core c (verdict (current core) (session_of (connection_at core c)) what)

    may : MayDecide core c
    may = may_decide core c allowed.0

    follows_after : Follows after (past_at journal (suc j))
    follows_after =
        subst (Follows after) (sym (next_past (past_before journal) journal.controls j entry here))
        (follows_entry core (past_at journal j) c what stands.follows stands.calm may.opened next entry says)

    own : connection_at after c ≡ answered (next_of_frame (connection_at core c)) reply (connection_at core c)
    own =
        ap (λ (new : CoreState). connection_at new c) (does_is core (past_at journal j) c what stands.follows stands.calm may.opened next)
        ∙ changed_here core c (λ y. answered (next_of_frame y) reply y) may.opened

    edit_stands : Standing (suc j) after
    edit_stands = record {
      follows = follows_after;
      calm = calm_step core (steps.Edit c) allowed.0 stands.calm;
      known = subst (λ (list : List ControlEntry). AreKnown list after) (sym (take_next journal.controls j entry here))
          (known_next core (past_at journal j) (take j journal.controls) c run stands.follows stands.calm stands.known allowed what entry next says (carried_drop journal.controls j entry carried here));
      departs = departs_step core (steps.Edit c) orderly stands.departs;
      settled = settled_step core (steps.Edit c) stands.settled;
      inside = within core (steps.Edit c) stands.inside;
      holds = holds_step core (steps.Edit c) allowed.0 orderly stands.settled stands.holds;
      timed = record {
        seats = λ i seat is within_workers. timed_seat journal asked core (steps.Edit c) i seat allowed.0 stands.timed tt is within_workers;
        due = λ i given seat is seated. elim (cases_eq c (i + 1)) [
          | inl same ↦
              let at : conn after i ≡ answered (next_of_frame (conn core i)) reply (conn core i) =
              sym (at_place after c i same) ∙ own ∙ ap (λ (y : Connection). answered (next_of_frame y) reply y) (at_place core c i same) in
              due_answered journal asked core i j (verdict (current core) (session_of (connection_at core c)) what) reply (next_of_frame (conn core i)) after refl stands.timed stands.follows follows_after at refl refl
              given seat is seated
          | inr apart ↦ due_after journal asked core (steps.Edit c) stands.timed i tt apart given seat is seated
        ];
      };
    }

    late : list_any (leaves entry.connection) (take j journal.controls) ≡ false
    late = subst (λ (d : ℕ). list_any (leaves d) (take j journal.controls) ≡ false) (sym says.connection) (false_from_ne_true (list_any (leaves c) (take j journal.controls)) gone)
      where
        x : Connection
        x = connection_at core c

        departs_here : Departs (connection_at core c)
        departs_here =
            subst Departs (sym (placed core c (and_parts (nat_lt 0 c) (nat_lt (c - 1) (length core.connections)) may.opened).0)) (stands.departs (c - 1))

        none_next : (leave : Leave) (waiting : Option Asked) → leave ≡ HasLeft → waiting ≡ None → option_or (cond (leads leave) None waiting) (leave_waiting leave) ≡ None
        none_next leave waiting left none =
            ap (λ (o : Option Asked). option_or (cond (leads leave) None o) (leave_waiting leave)) none
            ∙ ap (λ (one : Leave). option_or (cond (leads one) None None) (leave_waiting one)) left

        gone : list_any (leaves c) (take j journal.controls) ≡ true → ⊥
        gone some =
            let left = (known_here core (take j journal.controls) c may.opened stands.known).left some in
            none_some (next_command (connection_at core c)) what (none_next (connection_at core c).leave (connection_at core c).waiting left (departs_here.last left)) next

  -- ---- a look

  -- of a packet that is routed, the connection that has the session at the end
  record InOrder (last : CoreState) (one : Routed) : Type 0 where
    place : ℕ
    of : IsOf one.speaker.0 (conn last place).seat
    in_time : IsInTime journal (place + 1) one.revision

  look_in_time : (j : ℕ) (core : CoreState) (w revision : ℕ) (run : List Step) (held : HeldPacket) → Standing j core → illegal core (Look w revision) ≡ None → (worker_at core w).held ≡ Some held
      → InOrder (ran core (Look w revision ∷ run)) (routed_at core revision held)
  look_in_time j core w revision run held stands allowed is = record {
    place = i;
    of = subst (IsOf held.speaker.0) (sym ((seat_all core (Look w revision ∷ run) i (stands.settled i)).1 seated.0 seated.1)) (subst (IsOf held.speaker.0) seated.1 some.source.of);
    in_time = record {
      logged_in = logged_more journal asked (i + 1) (worker_at core w).told revision bounds.1
          (subst (λ (v : ℕ). LoggedAt journal asked (i + 1) (worker_at core v).told) some.source.at
          (stands.timed.seats i seated.0 seated.1 (let at = some.source.at in omega (arith, at, workers))));
      there = λ k entry at leave. from k entry at leave (nat_le j k) refl;
    };
  }
    where
      some : OpenSource w held.speaker.0 core
      some = stands.holds w held is

      i : ℕ
      i = some.source.place

      seated : (seat : Seat) × ((conn core some.source.place).seat ≡ Some seat)
      seated = seat_in (conn core some.source.place).seat held.speaker.0 some.source.of

      bounds : ((worker_at core w).seen ≤ revision) × ((worker_at core w).told ≤ revision) × (revision ≤ core.published)
      bounds = looks_are_bounded core w revision allowed

      workers : w < length core.workers
      workers = ltb-true w (length core.workers) (not_false (nat_lt w (length core.workers)) (none_stands (not (nat_lt w (length core.workers))) _ _ allowed).0)

      low : revision ≤ length (past_at journal j).accepted
      low =
          let high = bounds.2 in
          let inside = stands.inside in
          let same = ap (λ (edits : List Edit). length edits) stands.follows.accepted in
          omega (arith, high, inside, same)

      from : (k : ℕ) (entry : ControlEntry) → slice_get journal.controls k ≡ Some entry → leaves (some.source.place + 1) entry ≡ true → (b : Bool) → nat_le j k ≡ b
          → revision ≤ length (past_at journal k).accepted
      from k entry at leave true above = let more = rises journal asked j k (leb-true j k above) in let least = low in omega (arith, more, least)
      from k entry at leave false below =
          let before = leb-false j k below in
          let left = (stands.known some.source.place).left (any_before (leaves (some.source.place + 1)) journal.controls k j entry at (omega (arith, before)) leave) in
          absurd (false≢true (sym (ap (λ (o : Option ℕ). is_some o) some.open_yet) ∙ (stands.departs some.source.place).shut left))

  -- ---- a run

  record Result (j : ℕ) (core : CoreState) (run : List Step) : Type 0 where
    late : (i : ℕ) (entry : ControlEntry) → j ≤ i → slice_get journal.controls i ≡ Some entry → list_any (leaves entry.connection) (take i journal.controls) ≡ false
    timely : (w : ℕ) → AllByRecursion (InOrder (ran core run)) (gathered (routed w) core run)

  abbrev Rest : CoreState → List Step → Type 0
  Rest core run = (j : ℕ) → Standing j core → IsRun core run → AreOrderly core run → AllZip IsDecided (drop j journal.controls) (gathered decided core run) → Result j core run

  edit_result : (core : CoreState) (c : ℕ) (run : List Step) → Rest (does core (steps.Edit c)) run → Rest core (steps.Edit c ∷ run)
  edit_result core c run rest j stands allowed orderly zip = at (next_command (connection_at core c)) refl (slice_get journal.controls j) refl zip
    where
      may : MayDecide core c
      may = may_decide core c allowed.0

      at : (o : Option Asked) → next_command (connection_at core c) ≡ o → (e : Option ControlEntry) → slice_get journal.controls j ≡ e
          → AllZip IsDecided (drop j journal.controls) (option_to_list (option_map (told_of core c) o) ++ gathered decided (does core (steps.Edit c)) run) → Result j core (steps.Edit c ∷ run)
      at None is e here zip = absurd (false≢true (sym may.some ∙ ap (λ (o : Option Asked). is_none o) is))
      at (Some what) is None here zip =
          absurd (subst (λ (xs : List ControlEntry). AllZip IsDecided xs (told_of core c what ∷ gathered decided (does core (steps.Edit c)) run)) (drop_none journal.controls j here) zip)
      at (Some what) is (Some entry) here zip =
          let both = subst (λ (xs : List ControlEntry). AllZip IsDecided xs (told_of core c what ∷ gathered decided (does core (steps.Edit c)) run)) (drop_next journal.controls j entry here) zip in
          let later = rest (suc j) (edit_stands j core c run stands allowed orderly.0 what entry is here both.0) allowed.1 orderly.1 both.1 in
          record {
            late = λ i one low found. elim (cases_eq i j) [
              | inl same ↦
                  let found_j : slice_get journal.controls j ≡ Some one = subst (λ (k : ℕ). slice_get journal.controls k ≡ Some one) same found in
                  let is_entry : entry ≡ one = same_some entry one (sym here ∙ found_j) in
                  subst (λ (k : ℕ). list_any (leaves one.connection) (take k journal.controls) ≡ false) (sym same)
                  (subst (λ (e : ControlEntry). list_any (leaves e.connection) (take j journal.controls) ≡ false) is_entry (late j core c run stands allowed orderly.0 what entry is here both.0))
              | inr apart ↦ later.late i one (omega (arith, low, apart)) found
            ];
            timely = later.timely;
          }

  all_stand : (core : CoreState) (run : List Step) → Rest core run
  all_stand core [] j stands allowed orderly zip = record {
    late = λ i entry low found. absurd (none_behind journal.controls i j entry (empty_zip (drop j journal.controls) zip) low found);
    timely = λ w. tt;
  }
  all_stand core (steps.Edit c ∷ run) j stands allowed orderly zip = edit_result core c run (all_stand (does core (steps.Edit c)) run) j stands allowed orderly zip
  all_stand core (Look v revision ∷ run) j stands allowed orderly zip =
      let later = all_stand (does core (Look v revision)) run j
      (quiet_stands j core (Look v revision) tt (λ i known. quiet_known (take j journal.controls) core (Look v revision) allowed.0 (λ i. tt) known) allowed.0 orderly.0 stands) allowed.1 orderly.1 zip in
      record {
        late = later.late;
        timely = λ w. each_both (InOrder (ran core (Look v revision ∷ run))) (routed w core (Look v revision)) (gathered (routed w) (does core (Look v revision)) run)
            (here w (v == w) refl (worker_at core w).held refl) (later.timely w);
      }
    where
      here : (w : ℕ) (b : Bool) → (v == w) ≡ b → (o : Option HeldPacket) → (worker_at core w).held ≡ o
          → AllByRecursion (InOrder (ran core (Look v revision ∷ run))) (cond b (option_to_list (option_map (routed_at core revision) o)) [])
      here w false apart o is = tt
      here w true same None is = tt
      here w true same (Some held) is =
          let at : v ≡ w = eqb-true v w same in
          (look_in_time j core v revision run held stands allowed.0 (ap (λ (k : ℕ). (worker_at core k).held) at ∙ is), tt)
  all_stand core (step ∷ run) j stands allowed orderly zip =
      let later = all_stand (does core step) run j
      (quiet_stands j core step tt (λ i known. quiet_known (take j journal.controls) core step allowed.0 (λ i. tt) known) allowed.0 orderly.0 stands) allowed.1 orderly.1 zip in
      record { late = later.late; timely = later.timely }

  -- ---- the voice entries

  module _ (last : CoreState) (follows : Follows last (past_of journal)) (sound : Sound last) where
    time_of : (c : ℕ) (one : Routed) → session_in (past_of journal) c ≡ Some one.speaker → InOrder last one → IsInTime journal c one.revision
    time_of c one says order = from (nat_lt 0 c) refl
      where
        own : session_of (connection_at last c) ≡ Some one.speaker
        own = sym (follows.sessions c) ∙ says

        from : (b : Bool) → nat_lt 0 c ≡ b → IsInTime journal c one.revision
        from false is =
            absurd (none_some (session_of (fresh 0)) one.speaker refl
            (sym (ap (λ (b : Bool). session_of (cond b (slice_index_or last.connections (c - 1) (fresh 0)) (fresh 0))) is) ∙ own))
        from true is =
            let at : connection_at last c ≡ conn last (c - 1) = placed last c is in
            let has : Has one.speaker.0 (conn last (c - 1)) = has_by (conn last (c - 1)) one.speaker (sym (ap (λ (x : Connection). session_of x) at) ∙ own) in
            let same : c - 1 ≡ order.place = sound.alone order.place (c - 1) one.speaker.0 (inl order.of) has in
            let first = ltb-true 0 c is in
            let number : order.place + 1 ≡ c = omega (arith, same, first) in
            subst (λ (d : ℕ). IsInTime journal d one.revision) number order.in_time

    entries_timely : (entries : List WorkerEntry) (items : List Routed) → AllZip (IsRouted (past_of journal)) (filter is_voice entries) items → AllByRecursion (InOrder last) items
        → AllByRecursion (IsTimely journal) entries
    entries_timely [] items zip all = tt
    entries_timely (Closed c cause ∷ entries) items zip all = (tt, entries_timely entries items zip all)
    entries_timely (Voice c revision bytes copies ∷ entries) [] zip all = absurd zip
    entries_timely (Voice c revision bytes copies ∷ entries) (item ∷ items) zip all =
        (subst (IsInTime journal c) (sym zip.0.2) (time_of c item zip.0.0 all.0), entries_timely entries items zip.1 all.1)

begins_standing : (journal : Journal) (asked : AreAsked journal) (carried : AreCarried journal.controls) → Standing journal asked carried 0 (first_core journal)
begins_standing journal asked carried = record {
  follows = begins journal;
  calm = λ i waits. absurd (false≢true waits);
  known = known_first journal;
  departs = λ i. fresh_departs 0;
  settled = settled_start (version_with journal.limits) (opening journal.limits journal.config) journal.workers;
  inside = omega arith;
  holds = λ w held is. absurd (none_some (worker_at (first_core journal) w).held held (ap (λ (worker : WorkerState). worker.held) (idle_at journal.workers w)) is);
  timed = record {
    seats = λ i seat is inside. absurd (none_some (conn (first_core journal) i).seat seat refl is);
    due = λ i reply seat is seated. absurd (none_some (conn (first_core journal) i).decided reply refl is);
  };
}

pub orderly_lem : OrderlyRunsAreInOrder
orderly_lem journal run written allowed orderly recorded =
    let first : CoreState = first_core journal in
    let asked = asked_of_run journal run written allowed recorded in
    let carried = carried_of journal.controls written.controls in
    let told = follow first (past_before journal) run journal.controls (begins journal) (λ i waits. absurd (false≢true waits)) allowed recorded.commands in
    let last : CoreState = ran first run in
    let result = all_stand journal asked carried first run 0 (begins_standing journal asked carried) allowed orderly recorded.commands in
    record {
      asked = asked;
      placed = placed_of_run journal run allowed recorded told.1;
      on_time = λ i entry found. result.late i entry (omega arith) found;
      timely = each_of (IsTimely journal) journal.by_worker (λ w entries there.
          entries_timely journal asked carried last told.1 (sound_all first run (sound_start (version_with journal.limits) (opening journal.limits journal.config) journal.workers)) entries (gathered (routed w) first run)
          (recorded.packets w entries there) (result.timely w));
    }
