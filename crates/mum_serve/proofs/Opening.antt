-- The roles before their first turn, one after another.
use Rattle.mum_serve.proofs.Common.{◌≡◌, ◌∙◌, ℕ, ◌+◌, Bool, List, [], ◌∷◌, ◌++◌, append_assoc, append-nil, length, length-append, map, Option, None, Some, sym, ap, subst, arith, All, AllByRecursion, AllZip, ControlFacts, IsOpenedControl, IsNewPass, lower_half, QueueFacts, QueueId, OwnerFacts, IsOpened, IsFresh, appended, Opening, Pass, PublisherFacts, WorkerFacts, Outs, HasOpened, IsUnused, JoinsShared, new_unused, Shared, ClockFacts, clock_of, archive_queue, AreOpenedFrom, ControlBegins, OwnerBegins, WorkerBegins}

-- a control owner that was opened over a published state, to which nothing was appended, and with an empty roll, is new
pub control_begins : (opening : Opening) (publisher : PublisherFacts) (posts : List QueueFacts) (control : ControlFacts)
    → publisher.opening ≡ opening → appended publisher ≡ [] → publisher.roll ≡ [] → IsOpenedControl publisher posts control → ControlBegins opening control
control_begins opening publisher posts control of nothing no_login opened =
    let is = ap (λ (k : ControlFacts). k.publisher) opened.others in
    record {
      posts = posts;
      opened = subst (λ (p : PublisherFacts). IsOpenedControl p posts control) (sym is) opened;
      opening_is = ap (λ (p : PublisherFacts). p.opening) is ∙ of;
      nothing = ap (λ (p : PublisherFacts). appended p) is ∙ nothing;
      no_login = ap (λ (p : PublisherFacts). p.roll) is ∙ no_login;
    }

module _ {D L : Type 0} where
  -- and so is the owner that was opened over it
  pub owner_begins : (opening : Opening) (control : ControlFacts) (door : D) (clock : ClockFacts) (journal : Bool) (connections : ℕ) (bells : List QueueId) (store : Option QueueId) (desk : QueueFacts) (owner : OwnerFacts D L)
      → ControlBegins opening control → IsOpened control door connections journal bells store owner → IsNewPass desk owner.desk.pass
      → clock_of owner ≡ clock → OwnerBegins opening door clock journal connections owner
  owner_begins opening control door clock journal connections bells store desk owner begins opened new asks =
      let is = ap (λ (o : OwnerFacts D L). o.control) opened in
      record {
        bells = bells;
        store = store;
        opened = subst (λ (k : ControlFacts). IsOpened k door connections journal bells store owner) (sym is) opened;
        control = subst (ControlBegins opening) (sym is) begins;
        desk = desk;
        nothing_taken = new;
        clock_is = asks;
      }

  -- it puts into the queue of the store's bell
  pub archive_is : (control : ControlFacts) (door : D) (connections : ℕ) (journal : Bool) (bells : List QueueId) (store : Option QueueId) (owner : OwnerFacts D L) → IsOpened control door connections journal bells store owner → archive_queue owner ≡ store
  archive_is control door connections journal bells None owner opened = ap (λ (o : OwnerFacts D L). archive_queue o) opened
  archive_is control door connections journal bells (Some queue) owner opened = ap (λ (o : OwnerFacts D L). archive_queue o) opened

module _ {L : Type 0} where
  opened_behind : (opening : Opening) (closings : Option ℕ) (first next : ℕ) (old : List (WorkerFacts L)) (worker : WorkerFacts L)
      → next ≡ first + length old → AreOpenedFrom opening closings first old → WorkerBegins opening closings next worker → AreOpenedFrom opening closings first (old ++ worker ∷ [])
  opened_behind opening closings first next [] worker is all begins =
      (subst (λ (n : ℕ). WorkerBegins opening closings n worker) (is ∙ omega arith) begins, tt)
  opened_behind opening closings first next (one ∷ old) worker is all begins =
      (all.0, opened_behind opening closings (first + 1) next old worker (omega (arith, is)) all.1 begins)

  -- one worker more is numbered after the others
  pub opened_more : (opening : Opening) (closings : Option ℕ) (number : ℕ) (old new : List (WorkerFacts L)) (worker : WorkerFacts L)
      → length old ≡ number → new ≡ old ++ worker ∷ [] → WorkerBegins opening closings number worker → AreOpenedFrom opening closings 0 old → AreOpenedFrom opening closings 0 new
  opened_more opening closings number old new worker many pushed begins all =
      subst (AreOpenedFrom opening closings 0) (sym pushed) (opened_behind opening closings 0 number old worker (omega (arith, many)) all begins)

  among_behind : (count : ℕ) (old : List (WorkerFacts L)) (worker : WorkerFacts L) → worker.workers ≡ count → AllByRecursion (λ (w : WorkerFacts L). w.workers ≡ count) old
      → AllByRecursion (λ (w : WorkerFacts L). w.workers ≡ count) (old ++ worker ∷ [])
  among_behind count [] worker is all = (is, tt)
  among_behind count (one ∷ old) worker is all = (all.0, among_behind count old worker is all.1)

  pub among_more : (count : ℕ) (old new : List (WorkerFacts L)) (worker : WorkerFacts L) → new ≡ old ++ worker ∷ [] → worker.workers ≡ count
      → AllByRecursion (λ (w : WorkerFacts L). w.workers ≡ count) old → AllByRecursion (λ (w : WorkerFacts L). w.workers ≡ count) new
  among_more count old new worker pushed is all =
      subst (AllByRecursion (λ (w : WorkerFacts L). w.workers ≡ count)) (sym pushed) (among_behind count old worker is all)

  pub many_more : (number : ℕ) (old new : List (WorkerFacts L)) (worker : WorkerFacts L) → length old ≡ number → new ≡ old ++ worker ∷ [] → length new ≡ number + 1
  many_more number old new worker many pushed =
      let all = ap (λ (ws : List (WorkerFacts L)). length ws) pushed in
      let last = length-append old (worker ∷ []) in
      omega (arith, all, last, many)

module _ {L N : Type 0} where
  -- a worker that was opened with a fresh pass, over what is shared with it, is new
  pub worker_begins : (opening : Opening) (pass : Pass) (closings : Option ℕ) (number : ℕ) (one : Shared L N) (worker : WorkerFacts L)
      → IsFresh opening pass → HasOpened number pass closings worker → JoinsShared one worker → WorkerBegins opening closings number worker
  worker_begins opening pass closings number one worker fresh opened joins =
      record { opened = subst (λ (p : Pass). HasOpened number p closings worker) fresh opened; unused = subst (λ (o : Outs). All IsUnused o) (sym joins.outs) (new_unused (map lower_half one.voice.items)) }

  -- ---- over what is shared

  -- each worker works over what is shared at its place; the rest is for nobody yet
  abbrev pub AreOver : (rest all : List (Shared L N)) → List (WorkerFacts L) → Type 0
  AreOver rest all workers = (done : List (Shared L N)) × (all ≡ done ++ rest) × AllZip JoinsShared done workers

  joined_more : (done : List (Shared L N)) (workers : List (WorkerFacts L)) (one : Shared L N) (worker : WorkerFacts L) → AllZip JoinsShared done workers → JoinsShared one worker
      → AllZip JoinsShared (done ++ one ∷ []) (workers ++ worker ∷ [])
  joined_more [] [] one worker all joins = (joins, tt)
  joined_more [] (other ∷ workers) one worker all joins = absurd all
  joined_more (first ∷ done) [] one worker all joins = absurd all
  joined_more (first ∷ done) (other ∷ workers) one worker all joins = (all.0, joined_more done workers one worker all.1 joins)

  pub over_more : (left rest all : List (Shared L N)) (one : Shared L N) (old new : List (WorkerFacts L)) (worker : WorkerFacts L) → left ≡ one ∷ rest → new ≡ old ++ worker ∷ []
      → JoinsShared one worker → AreOver left all old → AreOver rest all new
  over_more left rest all one old new worker is pushed joins over = (
    over.0 ++ one ∷ [],
    over.1 ∙ ap (λ (xs : List (Shared L N)). over.0 ++ xs) is ∙ sym (append_assoc over.0 (one ∷ []) rest),
    subst (AllZip (JoinsShared {N = N}) (over.0 ++ one ∷ [])) (sym pushed) (joined_more over.0 old one worker over.2 joins),
  )

  -- nothing is left for others
  pub over_all : (rest all : List (Shared L N)) (workers : List (WorkerFacts L)) → length rest ≡ 0 → AreOver rest all workers → AllZip JoinsShared all workers
  over_all [] all workers none over = subst (λ (xs : List (Shared L N)). AllZip JoinsShared xs workers) (sym (over.1 ∙ append-nil over.0)) over.2
  over_all (one ∷ rest) all workers none over = absurd (omega (arith, none))

  -- nobody works yet
  pub over_nobody : (all rest : List (Shared L N)) (workers : List (WorkerFacts L)) → workers ≡ [] → all ≡ rest → AreOver rest all workers
  over_nobody all rest workers nobody same = ([], same, subst (AllZip (JoinsShared {N = N}) []) (sym nobody) tt)
