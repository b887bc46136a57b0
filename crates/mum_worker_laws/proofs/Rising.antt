-- The connections that turns take in are of the worker, and their numbers rise.
use Rattle.mum_worker_laws.proofs.Common.{◌≡◌, ◌≢◌, ◌<◌, ◌≤◌, ◌∙◌, ℕ, ◌+◌, Bool, true, false, List, [], ◌∷◌, ◌++◌, All, filter, Option, Some, None, refl, ap, sym, subst, inl, inr, arith, Each, AllPairs, eqb-true, All-append, All-cons, All-filter, All-head, All-nil, AllPairs-cons, AllPairs-filter, TurnsTo, Turn, LinkFacts, PortFacts, new_port, Rung, Answer, Comes, Lagging, NoMore, Opening, WorkerFacts, is_of, intake_of, stays, Hears, TakesIn, TakesOrTurns, HasOpened, RecordFacts, worker_of, WorkerTurned, Intake, IsAbove, IsBelow, IsOfAnother, IsOfWorker, Life, count, if_taken, ports_taken, taken_in}
use Rattle.mum_worker_laws.proofs.{Changing.IsOwn, Counts.count-cons, Counts.one, Going.all_on, Going.all_tail, Going.pairs_head, Going.pairs_join, Going.pairs_nil, Going.pairs_tail, Growing.HasAtMostOne, Growing.firsts, Growing.lasts, Lasting.turns_live}

module _ {L : Type 0} where
  abbrev IsAtMost : ℕ → PortFacts L → Type 0
  IsAtMost last port = port.machine.connection ≤ last

  -- these ports were taken in between, in this order
  pub record Rises (old new : Intake) (taken : List (PortFacts L)) : Type 0 where
    pub number : new.number ≡ old.number
    pub workers : new.workers ≡ old.workers
    pub up : old.last ≤ new.last
    pub above : All (IsAbove old.last) taken
    pub within : All (IsAtMost new.last) taken
    pub pairs : AllPairs IsBelow taken
    pub own : All (IsOfWorker old.number old.workers) taken

  none_taken : (old new : Intake) → new ≡ old → Rises old new []
  none_taken old new same = record {
    number = ap (λ (s : Intake). s.number) same;
    workers = ap (λ (s : Intake). s.workers) same;
    up = let last = ap (λ (s : Intake). s.last) same in omega (arith, last);
    above = All-nil (IsAbove old.last);
    within = All-nil (IsAtMost new.last);
    pairs = pairs_nil IsBelow;
    own = All-nil (IsOfWorker old.number old.workers);
  }

  one_taken : (intake : Intake) (connection : ℕ) (link : L) (ports : List (PortFacts L)) (kept : RecordFacts) (intake_after : Intake) (ports_after : List (PortFacts L)) (kept_after : RecordFacts)
      → TakesIn intake connection link ports kept intake_after ports_after kept_after → Rises intake intake_after (new_port connection intake.number link ∷ [])
  one_taken intake connection link ports kept intake_after ports_after kept_after takes =
      let port : PortFacts L = new_port connection intake.number link in
      let last : intake_after.last ≡ connection = ap (λ (s : Intake). s.last) takes.intake_is in
      let over : intake.last < connection = takes.above in record {
        number = ap (λ (s : Intake). s.number) takes.intake_is;
        workers = ap (λ (s : Intake). s.workers) takes.intake_is;
        up = omega (arith, last, over);
        above = All-cons (IsAbove intake.last) port [] over (All-nil (IsAbove intake.last));
        within = All-cons (IsAtMost intake_after.last) port [] (omega (arith, last)) (All-nil (IsAtMost intake_after.last));
        pairs = AllPairs-cons IsBelow port [] (All-nil (IsBelow port)) (pairs_nil IsBelow);
        own = All-cons (IsOfWorker intake.number intake.workers) port [] takes.its (All-nil (IsOfWorker intake.number intake.workers));
      }

  then_taken : (old mid new : Intake) (some more : List (PortFacts L)) → Rises old mid some → Rises mid new more → Rises old new (some ++ more)
  then_taken old mid new some more first other = record {
    number = other.number ∙ first.number;
    workers = other.workers ∙ first.workers;
    up = let low = first.up in let high = other.up in omega (arith, low, high);
    above = All-append (IsAbove old.last) some more first.above
        (all_on (IsAbove mid.last) (IsAbove old.last) (λ port is. let low = first.up in omega (arith, is, low)) more other.above);
    within = All-append (IsAtMost new.last) some more
        (all_on (IsAtMost mid.last) (IsAtMost new.last) (λ port is. let high = other.up in omega (arith, is, high)) some first.within) other.within;
    pairs = pairs_join IsBelow (IsAtMost mid.last) (IsAbove mid.last) (λ port later low high. omega (arith, low, high))
        some more first.pairs first.within other.pairs other.above;
    own = All-append (IsOfWorker old.number old.workers) some more first.own
        (all_on (IsOfWorker mid.number mid.workers) (IsOfWorker old.number old.workers)
        (λ port is. ap (λ (n : ℕ). worker_of port.machine.connection n) (sym first.workers) ∙ (is ∙ first.number)) more other.own);
  }

  comes : (intake : Intake) (connection : ℕ) (link : L) (ports : List (PortFacts L)) (kept : RecordFacts) (intake_after : Intake) (ports_after : List (PortFacts L)) (kept_after : RecordFacts)
      (takes : TakesOrTurns intake connection link ports kept intake_after ports_after kept_after)
      → Rises intake intake_after (if_taken intake connection link ports kept intake_after ports_after kept_after takes)
  comes intake connection link ports kept intake_after ports_after kept_after (inl takes) = one_taken intake connection link ports kept intake_after ports_after kept_after takes
  comes intake connection link ports kept intake_after ports_after kept_after (inr turns) = none_taken intake intake_after turns.intake_same

  -- ---- at most one of a connection

  none_above : (connection last : ℕ) (ports : List (PortFacts L)) → connection ≤ last → All (IsAbove last) ports → count (is_of connection) ports ≤ 0
  none_above connection last [] up all = omega arith
  none_above connection last (port ∷ ports) up all =
      at (is_of connection port) refl (none_above connection last ports up (all_tail (IsAbove last) port ports all))
    where
      at : (b : Bool) → is_of connection port ≡ b → count (is_of connection) ports ≤ 0 → count (is_of connection) (port ∷ ports) ≤ 0
      at true is rest =
          let same = eqb-true port.machine.connection connection is in
          let over = All-head (IsAbove last) port ports all in
          absurd (omega (arith, same, over, up))
      at false is rest =
          let more = count-cons (is_of connection) port ports ∙ ap (λ (b : Bool). one b + count (is_of connection) ports) is in
          omega (arith, more, rest)

  pub at_most_one : (connection : ℕ) (ports : List (PortFacts L)) → AllPairs IsBelow ports → HasAtMostOne connection ports
  at_most_one connection [] pairs = omega arith
  at_most_one connection (port ∷ ports) pairs =
      at (is_of connection port) refl (at_most_one connection ports (pairs_tail IsBelow port ports pairs))
    where
      at : (b : Bool) → is_of connection port ≡ b → HasAtMostOne connection ports → HasAtMostOne connection (port ∷ ports)
      at true is rest =
          let same = eqb-true port.machine.connection connection is in
          let none = none_above connection port.machine.connection ports (omega (arith, same)) (pairs_head IsBelow port ports pairs) in
          let more = count-cons (is_of connection) port ports ∙ ap (λ (b : Bool). one b + count (is_of connection) ports) is in
          omega (arith, more, none)
      at false is rest =
          let more = count-cons (is_of connection) port ports ∙ ap (λ (b : Bool). one b + count (is_of connection) ports) is in
          omega (arith, more, rest)

  -- ---- the ports of lives have the connections that they had at first

  lasts_all : (Q : ℕ → Type 0) (lives : List (Life L)) → Each IsOwn lives → All (λ (p : PortFacts L). Q p.machine.connection) (firsts lives)
      → All (λ (p : PortFacts L). Q p.machine.connection) (lasts lives)
  lasts_all Q [] own all = All-nil (λ (p : PortFacts L). Q p.machine.connection)
  lasts_all Q (life ∷ lives) own all =
      All-cons (λ (p : PortFacts L). Q p.machine.connection) life.last (lasts lives)
      (subst Q (sym own.0.number) (All-head (λ (p : PortFacts L). Q p.machine.connection) life.first (firsts lives) all))
      (lasts_all Q lives own.1 (all_tail (λ (p : PortFacts L). Q p.machine.connection) life.first (firsts lives) all))

  lasts_pairs : (lives : List (Life L)) → Each IsOwn lives → AllPairs IsBelow (firsts lives) → AllPairs IsBelow (lasts lives)
  lasts_pairs [] own pairs = pairs_nil IsBelow
  lasts_pairs (life ∷ lives) own pairs =
      AllPairs-cons IsBelow life.last (lasts lives)
      (subst (λ (n : ℕ). All (IsAbove n) (lasts lives)) (sym own.0.number)
      (lasts_all (λ (n : ℕ). life.first.machine.connection < n) lives own.1 (pairs_head IsBelow life.first (firsts lives) pairs)))
      (lasts_pairs lives own.1 (pairs_tail IsBelow life.first (firsts lives) pairs))

module _ {L : Type 0} (facts : L → LinkFacts) (opening : Opening) where
  heard : (item : Option (Rung L)) (old new : WorkerFacts L) (hears : Hears facts item old new) → Rises (intake_of old) (intake_of new) (taken_in facts item old new hears)
  heard None old new same = none_taken (intake_of old) (intake_of new) (ap (λ (w : WorkerFacts L). intake_of w) same)
  heard (Some (Answer reply)) old new hears = none_taken (intake_of old) (intake_of new) (ap (λ (w : WorkerFacts L). intake_of w) hears.rest)
  heard (Some (Comes connection link)) old new hears =
      comes (intake_of old) connection link old.ports old.common.kept (intake_of new) new.ports new.common.kept hears.takes
  heard (Some (Lagging session)) old new hears = none_taken (intake_of old) (intake_of new) (ap (λ (w : WorkerFacts L). intake_of w) hears.rest)
  heard (Some NoMore) old new same = none_taken (intake_of old) (intake_of new) (ap (λ (w : WorkerFacts L). intake_of w) same)

  pub taken_rise : (old : WorkerFacts L) (turns : List Turn) (new : WorkerFacts L) (all : TurnsTo (WorkerTurned facts opening) old turns new)
      → Rises (intake_of old) (intake_of new) (ports_taken facts opening old turns new all)
  taken_rise old [] new same = none_taken (intake_of old) (intake_of new) (ap (λ (w : WorkerFacts L). intake_of w) same)
  taken_rise old (turn ∷ turns) new (mid, turned, rest) =
      let taken : List (PortFacts L) = taken_in facts turned.hears.item (record old { bell = turned.hears.bell }) turned.between turned.hears.hears in
      then_taken (intake_of old) (intake_of mid) (intake_of new) taken (ports_taken facts opening mid turns new rest)
      (subst (λ (s : Intake). Rises (intake_of old) s taken) (sym (ap (λ (w : WorkerFacts L). intake_of w) turned.steps.rest))
      (heard turned.hears.item (record old { bell = turned.hears.bell }) turned.between turned.hears.hears))
      (taken_rise mid turns new rest)

  pub taken_apart : (old : WorkerFacts L) (turns : List Turn) (worker second : WorkerFacts L) (others : List Turn) (other : WorkerFacts L)
      (all : TurnsTo (WorkerTurned facts opening) old turns worker) (rest : TurnsTo (WorkerTurned facts opening) second others other)
      → second.workers ≡ old.workers → second.number ≢ old.number
      → All (λ (port : PortFacts L). All (IsOfAnother port.machine.connection) (ports_taken facts opening second others other rest)) (ports_taken facts opening old turns worker all)
  taken_apart old turns worker second others other all rest many another =
      all_on (IsOfWorker old.number old.workers) (λ (port : PortFacts L). All (IsOfAnother port.machine.connection) (ports_taken facts opening second others other rest))
      (λ port its. all_on (IsOfWorker second.number second.workers) (IsOfAnother port.machine.connection)
      (λ one own same. another (sym own ∙ (ap (λ (n : ℕ). worker_of n second.workers) same ∙ (ap (λ (n : ℕ). worker_of port.machine.connection n) many ∙ its))))
      (ports_taken facts opening second others other rest) (taken_rise second others other rest).own)
      (ports_taken facts opening old turns worker all) (taken_rise old turns worker all).own

  -- from an opened worker on, no two ports are of one connection
  pub one_each : (number : ℕ) (pass : _) (journal : Option ℕ) (opened : WorkerFacts L) (before : List Turn) (old : WorkerFacts L) (turns : List Turn) (new : WorkerFacts L) → HasOpened number pass journal opened
      → TurnsTo (WorkerTurned facts opening) opened before old → (all : TurnsTo (WorkerTurned facts opening) old turns new)
      → (connection : ℕ) → HasAtMostOne connection (old.ports ++ ports_taken facts opening old turns new all)
  one_each number pass journal opened before old turns new begun first all connection =
      let lasting = turns_live facts opening opened before old first [] begun.no_port in
      let own = lasting.grows.owned tt in
      let earlier = taken_rise opened before old first in
      let later = taken_rise old turns new all in
      let ports : List (PortFacts L) = filter stays (lasts lasting.now) in
      let low : All (IsAtMost old.last) ports =
      All-filter stays (IsAtMost old.last) (lasts lasting.now)
      (lasts_all (λ (n : ℕ). n ≤ old.last) lasting.now own
      (subst (λ (l : List (PortFacts L)). All (IsAtMost old.last) l) (sym lasting.grows.begun) earlier.within)) in
      let pairs : AllPairs IsBelow ports =
      AllPairs-filter IsBelow stays (lasts lasting.now)
      (lasts_pairs lasting.now own (subst (λ (l : List (PortFacts L)). AllPairs IsBelow l) (sym lasting.grows.begun) earlier.pairs)) in
      at_most_one connection (old.ports ++ ports_taken facts opening old turns new all)
      (subst (λ (l : List (PortFacts L)). AllPairs IsBelow (l ++ ports_taken facts opening old turns new all)) (sym lasting.kept)
      (pairs_join IsBelow (IsAtMost old.last) (IsAbove old.last) (λ port after below above. omega (arith, below, above))
      ports (ports_taken facts opening old turns new all) pairs low later.pairs later.above))
