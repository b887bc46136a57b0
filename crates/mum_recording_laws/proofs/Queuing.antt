-- Of what a worker routed, what is due where n edits are accepted.
use Rattle.mum_recording_laws.proofs.Common.{◌≡◌, ℕ, ◌≤◌, ◌<◌, Bool, true, false, cond, List, [], ◌∷◌, ◌++◌, length, take, filter, Option, Some, None, refl, sym, ap, subst, ◌∙◌, arith, zero, suc, inl, inr, ⊤, IsSome, nat_le, slice_get, AllByRecursion, AllZip, filter_map, list_any, option_map, option_or, cases_eq, leb-true, append-nil, take-append-le, SessionId, ControlEntry, Marked, WorkerEntry, Closed, Voice, Step, HearersAreTheRoute, route, at, led_to, StateValue, Edit, Connection, Reply, Seat, seat_given, CoreState, connection_at, is_opened, state_at, worker_at, IsRun, gathered, ran, HeldPacket, WorkerState, least_look, is_voice, after_entries, IsHeard, revision_of, Past, session_in, Rise, leaves, AreOrderly, IsRouted, Routed, decided, routed, routed_at}
use Rattle.mum_recording_laws.proofs.{Options.same_some, Options.some_there, Joining.gathered_joined, Joining.orderly_joined, Joining.ran_joined, Joining.run_joined, Moving.unopened, Resting.Ready, Voicing.Said, Voicing.said}

-- ---- the front of the packets that are due, and those after it

abbrev pub front : ℕ → List WorkerEntry → List WorkerEntry
front most [] = []
front most (Closed c cause ∷ entries) = front most entries
front most (Voice c revision bytes copies ∷ entries) = cond (nat_le revision most) (Voice c revision bytes copies ∷ front most entries) []

abbrev pub back : ℕ → List WorkerEntry → List WorkerEntry
back most [] = []
back most (Closed c cause ∷ entries) = back most entries
back most (Voice c revision bytes copies ∷ entries) = cond (nat_le revision most) (back most entries) (Voice c revision bytes copies ∷ entries)

pub parted : (most : ℕ) (entries : List WorkerEntry) → filter is_voice entries ≡ filter is_voice (front most entries) ++ filter is_voice (back most entries)
parted most [] = refl
parted most (Closed c cause ∷ entries) = parted most entries
parted most (Voice c revision bytes copies ∷ entries) = from (parted most entries) (nat_le revision most)
  where
    from : filter is_voice entries ≡ filter is_voice (front most entries) ++ filter is_voice (back most entries) → (b : Bool) → Voice c revision bytes copies ∷ filter is_voice entries
        ≡ filter is_voice (cond b (Voice c revision bytes copies ∷ front most entries) []) ++ filter is_voice (cond b (back most entries) (Voice c revision bytes copies ∷ entries))
    from later true = ap (λ (ones : List WorkerEntry). Voice c revision bytes copies ∷ ones) later
    from later false = refl

-- ---- what is known of them

-- a connection has a session where n edits are accepted, and no leave in between
pub record InTime (past : Past) (entries : List ControlEntry) (c revision : ℕ) : Type 0 where
  pub logged_in : (i : ℕ) → revision ≤ length (after_entries past (take i entries)).accepted → IsSome (session_in (after_entries past (take i entries)) c)
  pub there : (i : ℕ) (entry : ControlEntry) → slice_get entries i ≡ Some entry → leaves c entry ≡ true → revision ≤ length (after_entries past (take i entries)).accepted

-- of a packet that a worker routes, with what all entries leave
pub record IsDue (place : ℕ → ℕ) (last past : Past) (earlier entries : List ControlEntry) (w c revision : ℕ) (bytes : List ℕ) (copies : List Marked) : Type 0 where
  pub at : place c ≡ w
  pub heard : IsHeard last c revision bytes copies
  pub there : list_any (leaves c) earlier ≡ false
  pub in_time : InTime past entries c revision

abbrev pub Due : (ℕ → ℕ) → Past → Past → List ControlEntry → List ControlEntry → ℕ → WorkerEntry → Type 0
Due place last past earlier entries w (Voice c revision bytes copies) = IsDue place last past earlier entries w c revision bytes copies
Due place last past earlier entries w (Closed c cause) = ⊤

-- what the entries that are left add to what was before them
pub record Leads (past last : Past) : Type 0 where
  pub more : List Edit
  pub accepted : last.accepted ≡ past.accepted ++ more
  pub opening : last.opening ≡ past.opening
  pub sessions : (c : ℕ) (session : SessionId) → session_in past c ≡ Some session → session_in last c ≡ Some session

-- ---- a worker routes what is due

pub record Routes (n : ℕ) (place : ℕ → ℕ) (core : CoreState) (past : Past) (earlier : List ControlEntry) (last : Past) (w : ℕ) (entries : List WorkerEntry) : Type 0 where
  pub run : List Step
  pub allowed : IsRun core run
  pub ready : Ready n place (ran core run) past earlier
  pub crew : length (ran core run).workers ≡ length core.workers
  pub decides : gathered decided core run ≡ []
  pub own : AllZip (IsRouted last) (filter is_voice (front (length past.accepted) entries)) (gathered (routed w) core run)
  pub silent : (v : ℕ) → (v ≡ w → ⊥) → gathered (routed v) core run ≡ []
  pub others : (v : ℕ) → (v ≡ w → ⊥) → worker_at (ran core run) v ≡ worker_at core v
  pub rise : Rise (least_look (worker_at (ran core run) w)) (filter_map revision_of (back (length past.accepted) entries))
  pub orderly : AreOrderly core run

seat_with : (o : Option Seat) (session : SessionId) → option_map (λ (seat : Seat). seat.session) o ≡ Some session → (seat : Seat) × (o ≡ Some seat) × (seat.session ≡ session)
seat_with None session is = absurd (cc)
seat_with (Some seat) session is = (seat, refl, same_some seat.session session is)

module _ (law : HearersAreTheRoute) (n : ℕ) (place : ℕ → ℕ) (past : Past) (earlier left : List ControlEntry) (last : Past) (w : ℕ) (leads : Leads past last) where
  -- the packet goes where the journal says
  goes : (core : CoreState) (c revision : ℕ) (bytes : List ℕ) (copies : List Marked) (heard : IsHeard last c revision bytes copies) (seat : Seat) → Ready n place core past earlier
      → seat.session ≡ heard.speaker → revision ≤ length past.accepted
      → IsRouted last (Voice c revision bytes copies) (routed_at core revision (record { speaker = seat.session; parts = heard.parts }))
  goes core c revision bytes copies heard seat ready same low =
      let more : take revision last.accepted ≡ take revision past.accepted = ap (take revision) leads.accepted ∙ take-append-le revision past.accepted leads.more low in
      let state : state_at core revision ≡ at last.opening last.accepted revision =
      ap (λ (s : StateValue). at s core.accepted revision) (sym (leads.opening ∙ ready.follows.opening))
      ∙ ap (λ (edits : List Edit). at last.opening edits revision) (sym ready.follows.accepted) ∙ ap (led_to last.opening) (sym more) in (
        heard.logged_in ∙ ap (λ (session : SessionId). Some session) (sym same),
        heard.parsed,
        refl,
        heard.audience ∙ ap (λ (s : StateValue). route s heard.speaker heard.parts.target) (sym state) ∙ ap (λ (session : SessionId). route (state_at core revision) session heard.parts.target) (sym same)
            ∙ sym (law (state_at core revision) seat.session heard.parts.target),
      )

  -- what it takes to route one packet
  record Spoken (core : CoreState) (c revision : ℕ) (bytes : List ℕ) (copies : List Marked) : Type 0 where
    held : HeldPacket
    said : Said n place core past earlier w revision held
    routed : IsRouted last (Voice c revision bytes copies) (routed_at core revision held)

  says : (core : CoreState) (c revision : ℕ) (bytes : List ℕ) (copies : List Marked) → Ready n place core past earlier → w < length core.workers → least_look (worker_at core w) ≤ revision
      → revision ≤ length past.accepted → IsDue place last past earlier left w c revision bytes copies → Spoken core c revision bytes copies
  says core c revision bytes copies ready within low high due =
      let has = some_there (session_in past c) (due.in_time.logged_in 0 high) in
      let own : option_map (λ (seat : Seat). seat.session) (connection_at core c).seat ≡ Some has.0 =
      sym (ap (λ (o : Option Reply). option_map (λ (seat : Seat). seat.session) (option_or (seat_given o) (connection_at core c).seat)) (ready.sits c).decided)
      ∙ sym (ready.follows.sessions c) ∙ has.1 in
      let seat = seat_with (connection_at core c).seat has.0 own in
      let final : has.0 ≡ due.heard.speaker = same_some has.0 due.heard.speaker (sym (leads.sessions c has.0 has.1) ∙ due.heard.logged_in) in
      let accepted : length past.accepted ≡ length core.accepted = ap (λ (edits : List Edit). length edits) ready.follows.accepted in
      let published : core.published ≡ length core.accepted = ready.published in
      record {
        held = record { speaker = seat.0.session; parts = due.heard.parts };
        said = said n place core past earlier w c revision bytes seat.0 due.heard.parts ready within (opened seat.0 seat.1) due.at due.there seat.1 due.heard.parsed low
            (omega (arith, high, accepted, published));
        routed = goes core c revision bytes copies due.heard seat.0 ready (seat.2 ∙ final) high;
      }
    where
      opened : (seat : Seat) → (connection_at core c).seat ≡ Some seat → is_opened core c ≡ true
      opened seat seated = from (is_opened core c) refl
        where
          never : None ≡ Some seat → ⊥
          never is = cc

          from : (b : Bool) → is_opened core c ≡ b → b ≡ true
          from true is = refl
          from false is = absurd (never (sym (ap (λ (x : Connection). x.seat) (unopened core c is)) ∙ seated))

  nothing : (core : CoreState) → Ready n place core past earlier → Routes n place core past earlier last w []
  nothing core ready = record {
    run = [];
    allowed = tt;
    ready = ready;
    crew = refl;
    decides = refl;
    own = tt;
    silent = λ v apart. refl;
    others = λ v apart. refl;
    rise = tt;
    orderly = tt;
  }

  -- in whatever core
  abbrev Later : List WorkerEntry → Type 0
  Later entries =
      (core : CoreState) → Ready n place core past earlier → w < length core.workers → Rise (least_look (worker_at core w)) (filter_map revision_of entries)
      → Routes n place core past earlier last w entries

  pub all_said : (entries : List WorkerEntry) (core : CoreState) → Ready n place core past earlier → w < length core.workers → Rise (least_look (worker_at core w)) (filter_map revision_of entries)
      → AllByRecursion (Due place last past earlier left w) entries → Routes n place core past earlier last w entries
  all_said [] core ready within rise due = nothing core ready
  all_said (Closed c cause ∷ entries) core ready within rise due =
      let later = all_said entries core ready within rise due.1 in
      record {
        run = later.run;
        allowed = later.allowed;
        ready = later.ready;
        crew = later.crew;
        decides = later.decides;
        own = later.own;
        silent = later.silent;
        others = later.others;
        rise = later.rise;
        orderly = later.orderly;
      }
  all_said (Voice c revision bytes copies ∷ entries) core ready within rise due =
      from (λ next ready within rise. all_said entries next ready within rise due.1) (nat_le revision (length past.accepted)) refl
    where
      from : Later entries → (b : Bool) → nat_le revision (length past.accepted) ≡ b → Routes n place core past earlier last w (Voice c revision bytes copies ∷ entries)
      from go false above = record {
        run = [];
        allowed = tt;
        ready = ready;
        crew = refl;
        decides = refl;
        own = subst (λ (b : Bool). AllZip (IsRouted last) (filter is_voice (cond b (Voice c revision bytes copies ∷ front (length past.accepted) entries) [])) []) (sym above) tt;
        silent = λ v apart. refl;
        others = λ v apart. refl;
        orderly = tt;
        rise = subst (λ (b : Bool). Rise (least_look (worker_at core w)) (filter_map revision_of (cond b (back (length past.accepted) entries) (Voice c revision bytes copies ∷ entries)))) (sym above) rise;
      }
      from go true low =
          let spoken = says core c revision bytes copies ready within rise.0 (leb-true revision (length past.accepted) low) due.0 in
          let first = spoken.said in
          let next : CoreState = ran core first.run in
          let crew = first.crew in
          let later = go next first.ready (omega (arith, crew, within)) (subst (λ (k : ℕ). Rise k (filter_map revision_of entries)) (sym first.least) rise.1) in
          let joined : ran core (first.run ++ later.run) ≡ ran next later.run = ran_joined core first.run later.run in
          let routes : gathered (routed w) core (first.run ++ later.run) ≡ routed_at core revision spoken.held ∷ gathered (routed w) next later.run =
          gathered_joined (routed w) core first.run later.run ∙ ap (λ (ones : List Routed). ones ++ gathered (routed w) next later.run) first.own in
          record {
            run = first.run ++ later.run;
            allowed = run_joined core first.run later.run first.allowed later.allowed;
            orderly = orderly_joined core first.run later.run first.orderly later.orderly;
            ready = subst (λ (new : CoreState). Ready n place new past earlier) (sym joined) later.ready;
            crew = ap (λ (new : CoreState). length new.workers) joined ∙ later.crew ∙ first.crew;
            decides = gathered_joined decided core first.run later.run ∙ ap (λ ones. ones ++ gathered decided next later.run) first.decides ∙ later.decides;
            own = subst (λ (b : Bool). AllZip (IsRouted last) (filter is_voice (cond b (Voice c revision bytes copies ∷ front (length past.accepted) entries) [])) (gathered (routed w) core (first.run ++ later.run))) (sym low)
                (subst (AllZip (IsRouted last) (Voice c revision bytes copies ∷ filter is_voice (front (length past.accepted) entries))) (sym routes) (spoken.routed, later.own));
            silent = λ v apart.
                gathered_joined (routed v) core first.run later.run ∙ ap (λ (ones : List Routed). ones ++ gathered (routed v) next later.run) (first.silent v apart) ∙ later.silent v apart;
            others = λ v apart. ap (λ (new : CoreState). worker_at new v) joined ∙ later.others v apart ∙ first.others v apart;
            rise = subst (λ (new : CoreState). Rise (least_look (worker_at new w)) (filter_map revision_of (back (length past.accepted) (Voice c revision bytes copies ∷ entries)))) (sym joined)
                (subst (λ (b : Bool). Rise (least_look (worker_at (ran next later.run) w)) (filter_map revision_of (cond b (back (length past.accepted) entries) (Voice c revision bytes copies ∷ entries)))) (sym low) later.rise);
          }

-- ---- all workers route what is due

-- those below a number have
pub record AllRoute (n : ℕ) (place : ℕ → ℕ) (core : CoreState) (past : Past) (earlier : List ControlEntry) (last : Past) (lists : ℕ → List WorkerEntry) (k : ℕ) : Type 0 where
  pub run : List Step
  pub allowed : IsRun core run
  pub ready : Ready n place (ran core run) past earlier
  pub crew : length (ran core run).workers ≡ length core.workers
  pub decides : gathered decided core run ≡ []
  pub own : (w : ℕ) → w < k → AllZip (IsRouted last) (filter is_voice (front (length past.accepted) (lists w))) (gathered (routed w) core run)
  pub silent : (w : ℕ) → k ≤ w → gathered (routed w) core run ≡ []
  pub others : (w : ℕ) → k ≤ w → worker_at (ran core run) w ≡ worker_at core w
  pub rise : (w : ℕ) → w < k → Rise (least_look (worker_at (ran core run) w)) (filter_map revision_of (back (length past.accepted) (lists w)))
  pub orderly : AreOrderly core run

module _ (law : HearersAreTheRoute) (n : ℕ) (place : ℕ → ℕ) (past : Past) (earlier left : List ControlEntry) (last : Past) (leads : Leads past last) (lists : ℕ → List WorkerEntry)
    (core : CoreState) (ready : Ready n place core past earlier)
    (rise : (w : ℕ) → w < length core.workers → Rise (least_look (worker_at core w)) (filter_map revision_of (lists w)))
    (due : (w : ℕ) → w < length core.workers → AllByRecursion (Due place last past earlier left w) (lists w)) where
  pub all_route : (k : ℕ) → k ≤ length core.workers → AllRoute n place core past earlier last lists k
  all_route zero within = record {
    run = [];
    allowed = tt;
    ready = ready;
    crew = refl;
    decides = refl;
    own = λ w low. absurd (omega (arith, low));
    silent = λ w high. refl;
    others = λ w high. refl;
    rise = λ w low. absurd (omega (arith, low));
    orderly = tt;
  }
  all_route (suc j) within =
      let first = all_route j (omega (arith, within)) in
      let next : CoreState = ran core first.run in
      let crew = first.crew in
      let rises : Rise (least_look (worker_at next j)) (filter_map revision_of (lists j)) =
      subst (λ (worker : WorkerState). Rise (least_look worker) (filter_map revision_of (lists j))) (sym (first.others j (omega arith))) (rise j (omega (arith, within))) in
      let one = all_said law n place past earlier left last j leads (lists j) next first.ready (omega (arith, within, crew)) rises (due j (omega (arith, within))) in
      let joined : ran core (first.run ++ one.run) ≡ ran next one.run = ran_joined core first.run one.run in
      record {
        run = first.run ++ one.run;
        allowed = run_joined core first.run one.run first.allowed one.allowed;
        orderly = orderly_joined core first.run one.run first.orderly one.orderly;
        ready = subst (λ (new : CoreState). Ready n place new past earlier) (sym joined) one.ready;
        crew = ap (λ (new : CoreState). length new.workers) joined ∙ one.crew ∙ first.crew;
        decides = gathered_joined decided core first.run one.run ∙ ap (λ ones. ones ++ gathered decided next one.run) first.decides ∙ one.decides;
        own = λ w low. elim (cases_eq w j) [
          | inl same ↦
              subst (λ (v : ℕ). AllZip (IsRouted last) (filter is_voice (front (length past.accepted) (lists v))) (gathered (routed v) core (first.run ++ one.run))) (sym same)
              (subst (AllZip (IsRouted last) (filter is_voice (front (length past.accepted) (lists j))))
              (sym (gathered_joined (routed j) core first.run one.run ∙ ap (λ (ones : List Routed). ones ++ gathered (routed j) next one.run) (first.silent j (omega arith)))) one.own)
          | inr apart ↦
              subst (AllZip (IsRouted last) (filter is_voice (front (length past.accepted) (lists w))))
              (sym (gathered_joined (routed w) core first.run one.run ∙ ap (λ (ones : List Routed). gathered (routed w) core first.run ++ ones) (one.silent w apart) ∙ append-nil (gathered (routed w) core first.run)))
              (first.own w (below w j low apart))
        ];
        silent = λ w high.
            gathered_joined (routed w) core first.run one.run ∙ ap (λ (ones : List Routed). ones ++ gathered (routed w) next one.run) (first.silent w (omega (arith, high)))
            ∙ one.silent w (above w j high);
        others = λ w high. ap (λ (new : CoreState). worker_at new w) joined ∙ one.others w (above w j high) ∙ first.others w (omega (arith, high));
        rise = λ w low. elim (cases_eq w j) [
          | inl same ↦
              subst (λ (v : ℕ). Rise (least_look (worker_at (ran core (first.run ++ one.run)) v)) (filter_map revision_of (back (length past.accepted) (lists v)))) (sym same)
              (subst (λ (new : CoreState). Rise (least_look (worker_at new j)) (filter_map revision_of (back (length past.accepted) (lists j)))) (sym joined) one.rise)
          | inr apart ↦
              subst (λ (new : CoreState). Rise (least_look (worker_at new w)) (filter_map revision_of (back (length past.accepted) (lists w)))) (sym joined)
              (subst (λ (worker : WorkerState). Rise (least_look worker) (filter_map revision_of (back (length past.accepted) (lists w)))) (sym (one.others w apart)) (first.rise w (below w j low apart)))
        ];
      }
    where
      below : (w j : ℕ) → w < suc j → (w ≡ j → ⊥) → w < j
      below w j low apart = elim (cases_eq w j) [
        | inl same ↦ absurd (apart same)
        | inr other ↦ omega (arith, low, other)
      ]

      above : (w j : ℕ) → suc j ≤ w → w ≡ j → ⊥
      above w j high same = omega (arith, high, same)
