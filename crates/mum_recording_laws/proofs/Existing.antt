-- A legal journal that is in order is one of a run.
use Rattle.mum_recording_laws.proofs.Common.{◌≡◌, ℕ, zero, suc, ◌+◌, ◌-◌, ◌≤◌, ◌<◌, ◌==◌, max, not, Bool, true, false, cond, List, [], ◌∷◌, ◌++◌, length, take, filter, Some, None, refl, sym, ap, subst, ◌∙◌, arith, append_assoc, append-nil, length-append, inl, inr, nat_lt, slice_get, slice_index_or, AllByRecursion, AllZip, filter_map, flat_map, and_parts, cases_eq, eq-eqb, lt-ltb, ltb-true, length-replicate, recursion_from_All, get_or_from_slice_get, slice_get-get_or, slice_get_within, Each, IsControl, IsJournal, ControlEntry, Journal, WorkerEntry, Closed, Voice, Step, Open, HearersAreTheRoute, Connection, fresh, CoreState, connection_at, is_opened, IsRun, gathered, ran, does, illegal, WorkerState, idle, least_look, entries_of, is_voice, past_before, past_of, after_entries, after_entry, IsLegal, IsRight, revision_of, Past, Rise, each_back, each_front, pairs_of, pairs_rise, LegalJournalsAreOfRuns, first_core, IsInOrder, IsPlaced, IsTimely, AreOrderly, AreOfRun, Decided, IsDecided, IsRouted, Routed, decided, routed}
use Rattle.mum_recording_laws.proofs.{Joining.gathered_joined, Joining.orderly_joined, Joining.run_joined, Following.begins, Following.follows_quiet, Moving.IsFree, Moving.opened_at, Moving.passed, Placing.idle_at, Playing.Good, Playing.IsGood, Playing.plays, Queuing.Due, Resting.Ready, Resting.Sits}

-- ---- the connections open

pushed_own : (xs : List Connection) (w : ℕ) → slice_index_or (xs ++ fresh w ∷ []) (length xs) (fresh 0) ≡ fresh w
pushed_own [] w = refl
pushed_own (x ∷ xs) w = pushed_own xs w

pushed_other : (xs : List Connection) (w i : ℕ) → (i ≡ length xs → ⊥) → slice_index_or (xs ++ fresh w ∷ []) i (fresh 0) ≡ slice_index_or xs i (fresh 0)
pushed_other [] w zero apart = absurd (apart refl)
pushed_other [] w (suc i) apart = refl
pushed_other (x ∷ xs) w zero apart = refl
pushed_other (x ∷ xs) w (suc i) apart = pushed_other xs w i (λ same. apart (omega (arith, same)))

sits_fresh : (c w : ℕ) → Sits [] c (fresh w)
sits_fresh c w = record { waiting = refl; decided = refl; there = λ none. (refl, refl); welcome = λ none. refl; no_version = λ none. refl; seated = λ some. refl }

module _ (place : ℕ → ℕ) (past : Past) where
  module _ (k : ℕ) (core : CoreState) (ready : Ready k place core past []) (inside : place (k + 1) < length core.workers) where
    abbrev w : ℕ
    w = place (k + 1)

    abbrev new : CoreState
    new = does core (Open (k + 1) w)

    open_may : illegal core (Open (k + 1) w) ≡ None
    open_may =
        let many = ready.many in
        passed (not (k + 1 == length core.connections + 1)) _ _ (ap not (eq-eqb (k + 1) (length core.connections + 1) (omega (arith, many))))
        (passed (not (nat_lt w (length core.workers))) _ _ (ap not (lt-ltb w (length core.workers) inside)) refl)

    own : connection_at new (k + 1) ≡ fresh w
    own =
        let at : k + 1 - 1 ≡ length core.connections = let many = ready.many in omega (arith, many) in
        ap (λ (b : Bool). cond b (slice_index_or (core.connections ++ fresh w ∷ []) (k + 1 - 1) (fresh 0)) (fresh 0)) (lt-ltb 0 (k + 1) (omega arith))
        ∙ ap (λ (i : ℕ). slice_index_or (core.connections ++ fresh w ∷ []) i (fresh 0)) at ∙ pushed_own core.connections w

    other : (d : ℕ) → (d ≡ k + 1 → ⊥) → connection_at new d ≡ connection_at core d
    other d apart = from (nat_lt 0 d) refl
      where
        from : (b : Bool) → nat_lt 0 d ≡ b
            → cond b (slice_index_or (core.connections ++ fresh w ∷ []) (d - 1) (fresh 0)) (fresh 0) ≡ cond b (slice_index_or core.connections (d - 1) (fresh 0)) (fresh 0)
        from false is = refl
        from true is = pushed_other core.connections w (d - 1) (λ same. apart (let low = ltb-true 0 d is in let many = ready.many in omega (arith, low, same, many)))

    longer : length new.connections ≡ k + 1
    longer = let many = ready.many in let more = length-append core.connections (fresh w ∷ []) in omega (arith, many, more)

    there_before : (d : ℕ) → (d ≡ k + 1 → ⊥) → is_opened new d ≡ true → is_opened core d ≡ true
    there_before d apart opened =
        let parts = and_parts (nat_lt 0 d) (nat_lt (d - 1) (length new.connections)) opened in
        let first : 0 < d = ltb-true 0 d parts.0 in
        let low : d - 1 < length new.connections = ltb-true (d - 1) (length new.connections) parts.1 in
        let many = longer in
        opened_at core d k ready.many first (elim (cases_eq d (k + 1)) [
          | inl same ↦ absurd (apart same)
          | inr differs ↦ omega (arith, first, low, many, differs)
        ])

    opened_one : Ready (k + 1) place new past []
    opened_one = record {
      follows = follows_quiet core (Open (k + 1) w) past tt ready.follows;
      published = ready.published;
      many = longer;
      at = λ d opened. elim (cases_eq d (k + 1)) [
        | inl same ↦ subst (λ (e : ℕ). (connection_at new e).worker ≡ place e) (sym same) (ap (λ (x : Connection). x.worker) own)
        | inr apart ↦ ap (λ (x : Connection). x.worker) (other d apart) ∙ ready.at d (there_before d apart opened)
      ];
      sits = λ d. elim (cases_eq d (k + 1)) [
        | inl same ↦ subst (λ (e : ℕ). Sits [] e (connection_at new e)) (sym same) (subst (Sits [] (k + 1)) (sym own) (sits_fresh (k + 1) w))
        | inr apart ↦ subst (Sits [] d) (sym (other d apart)) (ready.sits d)
      ];
      free = ready.free;
    }

  record Opens (n : ℕ) (core : CoreState) : Type 0 where
    run : List Step
    allowed : IsRun core run
    ready : Ready n place (ran core run) past []
    workers : (ran core run).workers ≡ core.workers
    orderly : AreOrderly core run
    decides : gathered decided core run ≡ []
    silent : (w : ℕ) → gathered (routed w) core run ≡ []

  all_open : (m k : ℕ) (core : CoreState) → Ready k place core past [] → ((c : ℕ) → place c < length core.workers) → Opens (m + k) core
  all_open zero k core ready inside = record {
    run = [];
    allowed = tt;
    ready = subst (λ (n : ℕ). Ready n place core past []) (omega arith) ready;
    workers = refl;
    orderly = tt;
    decides = refl;
    silent = λ w. refl;
  }
  all_open (suc m) k core ready inside =
      let next : CoreState = new k core ready (inside (k + 1)) in
      let later = all_open m (k + 1) next (opened_one k core ready (inside (k + 1))) inside in
      record {
        run = Open (k + 1) (place (k + 1)) ∷ later.run;
        allowed = (open_may k core ready (inside (k + 1)), later.allowed);
        ready = subst (λ (n : ℕ). Ready n place (ran next later.run) past []) (omega arith) later.ready;
        workers = later.workers;
        orderly = (tt, later.orderly);
        decides = later.decides;
        silent = later.silent;
      }

-- ---- what is known of the journal

highest : List ControlEntry → ℕ
highest [] = 0
highest (entry ∷ entries) = max entry.connection (highest entries)

at_most : (entries : List ControlEntry) (i : ℕ) (entry : ControlEntry) → slice_get entries i ≡ Some entry → entry.connection ≤ highest entries
unfolding highest
at_most [] i entry is = absurd (cc)
at_most (first ∷ entries) zero entry is = let same : first ≡ entry = cc in let at = ap (λ (e : ControlEntry). e.connection) same in omega (arith, at)
at_most (first ∷ entries) (suc i) entry is = let low = at_most entries i entry is in omega (arith, low)

each_at : {X : Type 0} (P : X → Type 0) (xs : List X) (i : ℕ) (x : X) → Each P xs → slice_get xs i ≡ Some x → P x
each_at P [] i x all is = absurd (cc)
each_at P (first ∷ xs) zero x all is = let same : first ≡ x = cc in subst P same all.0
each_at P (first ∷ xs) (suc i) x all is = each_at P xs i x all.1 is

goods : (n : ℕ) (entries : List ControlEntry) (past : Past) (earlier : List ControlEntry)
    → ((i : ℕ) (entry : ControlEntry) → slice_get entries i ≡ Some entry → IsGood n (after_entries past (take i entries)) (earlier ++ take i entries) entry) → Good n past earlier entries
goods n [] past earlier each = tt
goods n (first ∷ entries) past earlier each = (
  subst (λ (list : List ControlEntry). IsGood n past list first) (append-nil earlier) (each zero first refl),
  goods n entries (after_entry past first) (earlier ++ first ∷ []) (λ i entry is.
      subst (λ (list : List ControlEntry). IsGood n (after_entries (after_entry past first) (take i entries)) list entry) (sym (append_assoc earlier (first ∷ []) (take i entries))) (each (suc i) entry is)),
)

each_in : {X : Type 0} (P : X → Type 0) (lists : List (List X)) (k : ℕ) (list : List X) → AllByRecursion P (flat_map (λ list. list) lists) → slice_get lists k ≡ Some list → AllByRecursion P list
each_in P [] k list all is = absurd (cc)
each_in P (first ∷ lists) zero list all is =
    let same : first ≡ list = cc in subst (AllByRecursion P) same (each_front P first (flat_map (λ one. one) lists) all)
each_in P (first ∷ lists) (suc k) list all is = each_in P lists k list (each_back P first (flat_map (λ one. one) lists) all) is

module _ (journal : Journal) (written : IsJournal journal) (legal : IsLegal journal) (ordered : IsInOrder journal) where
  abbrev place : ℕ → ℕ
  place c = cond (nat_lt (ordered.placed.0 c) journal.workers) (ordered.placed.0 c) 0

  abbrev first : CoreState
  first = first_core journal

  abbrev before : Past
  before = past_before journal

  crew : length first.workers ≡ journal.workers
  crew = length-replicate journal.workers idle

  inside : (c : ℕ) → place c < length first.workers
  inside c = from (nat_lt (ordered.placed.0 c) journal.workers) refl
    where
      from : (b : Bool) → nat_lt (ordered.placed.0 c) journal.workers ≡ b → cond b (ordered.placed.0 c) 0 < length first.workers
      from true is = let low = ltb-true (ordered.placed.0 c) journal.workers is in let many = crew in omega (arith, low, many)
      from false is = let some = written.least in let many = crew in omega (arith, some, many)

  placed_at : (c w : ℕ) → ordered.placed.0 c ≡ w → w < journal.workers → place c ≡ w
  placed_at c w is low =
      ap (λ (b : Bool). cond b (ordered.placed.0 c) 0) (lt-ltb (ordered.placed.0 c) journal.workers (omega (arith, is, low))) ∙ is

  ready : Ready 0 place first before []
  ready = record {
    follows = begins journal;
    published = refl;
    many = refl;
    at = λ c opened. absurd (never c opened);
    sits = λ c. fresh_at c (nat_lt 0 c);
    free = λ w. subst (IsFree 0) (sym (idle_at journal.workers w)) (record { held = refl; copies = refl; told = omega arith });
  }
    where
      never : (c : ℕ) → is_opened first c ≡ true → ⊥
      never c opened =
          let parts = and_parts (nat_lt 0 c) (nat_lt (c - 1) 0) opened in
          let low = ltb-true (c - 1) 0 parts.1 in
          omega (arith, low)

      fresh_at : (c : ℕ) (b : Bool) → Sits [] c (cond b (slice_index_or [] (c - 1) (fresh 0)) (fresh 0))
      fresh_at c true = sits_fresh c 0
      fresh_at c false = sits_fresh c 0

  good : Good (highest journal.controls + 0) before [] journal.controls
  good = goods (highest journal.controls + 0) journal.controls before [] (λ i entry is.
      let low = at_most journal.controls i entry is in
      record {
        says = legal.verdicts i entry is;
        asked = ordered.asked i entry is;
        there = ordered.on_time i entry is;
        fits = (each_at IsControl journal.controls i entry written.controls is).0.1;
        within = omega (arith, low);
      })

  -- ---- of a worker

  abbrev lists : ℕ → List WorkerEntry
  lists w = slice_index_or journal.by_worker w []

  list_at : (w : ℕ) → w < journal.workers → slice_get journal.by_worker w ≡ Some (lists w)
  list_at w low = slice_get-get_or journal.by_worker w [] (let many = written.lists in omega (arith, low, many))

  rise : (w : ℕ) → w < journal.workers → Rise 0 (filter_map revision_of (lists w))
  rise w low =
      pairs_rise (filter_map revision_of (lists w)) (pairs_of (λ (earlier later : ℕ). earlier ≤ later) (filter_map revision_of (lists w))
      (legal.rising w [] (let many = written.lists in omega (arith, low, many))))

  due_one : (w : ℕ) → w < journal.workers → (one : WorkerEntry) → IsPlaced ordered.placed.0 w one → IsTimely journal one → IsRight (past_of journal) one → Due place (past_of journal) before [] journal.controls w one
  due_one w low (Closed c cause) at timely right = tt
  due_one w low (Voice c revision bytes copies) at timely right = record {
    at = placed_at c w at low;
    heard = right;
    there = refl;
    in_time = record { logged_in = timely.logged_in; there = timely.there };
  }

  due_all : (w : ℕ) → w < journal.workers → (ones : List WorkerEntry) → AllByRecursion (IsPlaced ordered.placed.0 w) ones → AllByRecursion (IsTimely journal) ones → AllByRecursion (IsRight (past_of journal)) ones
      → AllByRecursion (Due place (past_of journal) before [] journal.controls w) ones
  due_all w low [] at timely right = tt
  due_all w low (one ∷ ones) at timely right = (due_one w low one at.0 timely.0 right.0, due_all w low ones at.1 timely.1 right.1)

  due : (w : ℕ) → w < journal.workers → AllByRecursion (Due place (past_of journal) before [] journal.controls w) (lists w)
  due w low =
      due_all w low (lists w) (ordered.placed.1 w (lists w) (list_at w low))
      (each_in (IsTimely journal) journal.by_worker w (lists w) ordered.timely (list_at w low))
      (each_in (IsRight (past_of journal)) journal.by_worker w (lists w) (recursion_from_All (IsRight (past_of journal)) (entries_of journal) legal.heard) (list_at w low))

  -- ---- the run

  pub of_run : HearersAreTheRoute → (steps : List Step) × IsRun first steps × AreOrderly first steps × AreOfRun journal first steps
  of_run law =
      let opens = all_open place before (highest journal.controls) 0 first ready inside in
      let start : CoreState = ran first opens.run in
      let same : length start.workers ≡ journal.workers = ap (λ (workers : List WorkerState). length workers) opens.workers ∙ crew in
      let plan = plays law (highest journal.controls + 0) place journal.controls start before [] lists opens.ready good
      (λ w low. subst (λ (workers : List WorkerState). Rise (least_look (slice_index_or workers w idle)) (filter_map revision_of (lists w))) (sym opens.workers)
      (subst (λ (worker : WorkerState). Rise (least_look worker) (filter_map revision_of (lists w))) (sym (idle_at journal.workers w)) (rise w (omega (arith, low, same)))))
      (λ w low. due w (omega (arith, low, same))) in (
        opens.run ++ plan.run,
        run_joined first opens.run plan.run opens.allowed plan.allowed,
        orderly_joined first opens.run plan.run opens.orderly plan.orderly,
        record {
          commands = subst (AllZip IsDecided journal.controls)
              (sym (gathered_joined decided first opens.run plan.run ∙ ap (λ (ones : List Decided). ones ++ gathered decided start plan.run) opens.decides)) plan.decides;
          packets = λ w entries there.
              let within : w < length start.workers = let low = slice_get_within journal.by_worker w entries there in let many = written.lists in omega (arith, low, many, same) in
              subst (λ (ones : List WorkerEntry). AllZip (IsRouted (past_of journal)) (filter is_voice ones) (gathered (routed w) first (opens.run ++ plan.run)))
              (get_or_from_slice_get journal.by_worker w entries [] there)
              (subst (AllZip (IsRouted (past_of journal)) (filter is_voice (lists w)))
              (sym (gathered_joined (routed w) first opens.run plan.run ∙ ap (λ (ones : List Routed). ones ++ gathered (routed w) start plan.run) (opens.silent w))) (plan.routes w within));
        },
      )

pub legal_journals_lem : HearersAreTheRoute → LegalJournalsAreOfRuns
legal_journals_lem law journal written legal ordered = of_run journal written legal ordered law
