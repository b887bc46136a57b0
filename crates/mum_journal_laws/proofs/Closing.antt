-- No connection closes twice: neither in one worker nor in two.
use Rattle.mum_journal_laws.proofs.Common.{◌≡◌, ◌≢◌, ◌∙◌, ℕ, suc, ◌+◌, ◌<◌, ◌≤◌, ◌==◌, Bool, true, false, cond, List, [], ◌∷◌, ◌++◌, filter, length, map, Some, refl, ap, sym, subst, arith, All, AllByRecursion, AllPairs, AllZip, filter_map, flat_map, eq-eqb, eqb-true, true≢false, All-cons, All-head, All-nil, All-tail, filter_map-append, AllPairs-cons, closed_by, TurnsLead, TurnsTo, Turn, LinkFacts, PortFacts, Opening, PassFacts, WorkerEntry, Closed, Voice, entries_of, AreOpenedFrom, fresh_pass, WorkerFacts, worker_of, HasOpened, WorkerTurned, is_closing_of, is_open_of, IsAbove, IsBelow, IsOfWorker, count, ports_taken}
use Rattle.mum_worker.specs.Facts.{is_of}

-- ---- how often a number is there

abbrev times : ℕ → List ℕ → ℕ
times number xs = length (filter (λ x. x == number) xs)

longer : {X : Type 0} (b : Bool) (x : X) (xs : List X) → length (cond b (x ∷ xs) xs) ≡ cond b 1 0 + length xs
longer true x xs = omega arith
longer false x xs = omega arith

times_append : (number : ℕ) (xs ys : List ℕ) → times number (xs ++ ys) ≡ times number xs + times number ys
times_append number [] ys = omega arith
times_append number (x ∷ xs) ys =
    let rest = times_append number xs ys in
    let one = longer (x == number) x (filter (λ y. y == number) (xs ++ ys)) in
    let other = longer (x == number) x (filter (λ y. y == number) xs) in
    omega arith

-- the closing entries of a connection are as many as its number is there
times_closed : (connection : ℕ) (entries : List WorkerEntry) → times connection (filter_map closed_by entries) ≡ count (is_closing_of connection) entries
times_closed connection [] = refl
times_closed connection (Voice number revision packet copies ∷ entries) = times_closed connection entries
times_closed connection (Closed number cause ∷ entries) =
    let rest = times_closed connection entries in
    let one = longer (number == connection) number (filter (λ x. x == connection) (filter_map closed_by entries)) in
    let other = longer (number == connection) (Closed number cause) (filter (is_closing_of connection) entries) in
    omega arith

-- ---- numbers that are there once

none_equal : (number : ℕ) (xs : List ℕ) → times number xs ≡ 0 → All (λ x. number ≢ x) xs
none_equal number [] none = All-nil (λ x. number ≢ x)
none_equal number (x ∷ xs) none = by_test (x == number) refl (λ zero. none_equal number xs zero)
  where
    by_test : (b : Bool) → (x == number) ≡ b → (times number xs ≡ 0 → All (λ y. number ≢ y) xs) → All (λ y. number ≢ y) (x ∷ xs)
    by_test true is rest =
        let one = longer (x == number) x (filter (λ y. y == number) xs) in
        let some : cond {A = ℕ} (x == number) 1 0 ≡ 1 = ap (λ (b : Bool). cond b 1 0) is in
        absurd (omega arith)
    by_test false is rest =
        let one = longer (x == number) x (filter (λ y. y == number) xs) in
        All-cons (λ y. number ≢ y) x xs (λ same. true≢false (sym (eq-eqb x number (sym same)) ∙ is)) (rest (omega arith))

none_else : (x : ℕ) (xs : List ℕ) → times x (x ∷ xs) ≤ 1 → times x xs ≡ 0
none_else x xs most =
    let one = longer (x == x) x (filter (λ y. y == x) xs) in
    let some : cond {A = ℕ} (x == x) 1 0 ≡ 1 = ap (λ (b : Bool). cond b 1 0) (eq-eqb x x refl) in
    omega arith

fewer : (number x : ℕ) (xs : List ℕ) → times number (x ∷ xs) ≤ 1 → times number xs ≤ 1
fewer number x xs most =
    let one = longer (x == number) x (filter (λ y. y == number) xs) in
    omega arith

once_each : (xs : List ℕ) → ((number : ℕ) → times number xs ≤ 1) → AllPairs (λ one other. one ≢ other) xs
once_each [] few = λ i j d before within. absurd (omega arith)
once_each (x ∷ xs) few =
    AllPairs-cons (λ one other. one ≢ other) x xs (none_equal x xs (none_else x xs (few x))) (once_each xs (λ number. fewer number x xs (few number)))

-- ---- ports whose numbers rise

module _ {L : Type 0} where
  above_none : (connection last : ℕ) (ports : List (PortFacts L)) → connection ≤ last → All (IsAbove last) ports → count (is_of connection) ports ≡ 0
  above_none connection last [] less all = refl
  above_none connection last (port ∷ ports) less all = by_test (is_of connection port) refl (above_none connection last ports less (All-tail (IsAbove last) port ports all))
    where
      by_test : (b : Bool) → is_of connection port ≡ b → count (is_of connection) ports ≡ 0 → length (cond b (port ∷ filter (is_of connection) ports) (filter (is_of connection) ports)) ≡ 0
      by_test true is rest =
          let same = eqb-true port.machine.connection connection is in
          let over = All-head (IsAbove last) port ports all in
          absurd (omega (arith, same, over, less))
      by_test false is rest = rest

  most_one : (connection : ℕ) (ports : List (PortFacts L)) → AllPairs IsBelow ports → count (is_of connection) ports ≤ 1
  most_one connection [] pairs = omega arith
  most_one connection (port ∷ ports) pairs =
      by_test (is_of connection port) refl (most_one connection ports (λ i j d before within. pairs (suc i) (suc j) d (omega arith) (omega arith)))
    where
      by_test : (b : Bool) → is_of connection port ≡ b → count (is_of connection) ports ≤ 1 → length (cond b (port ∷ filter (is_of connection) ports) (filter (is_of connection) ports)) ≤ 1
      by_test true is rest =
          let same = eqb-true port.machine.connection connection is in
          let none = above_none connection port.machine.connection ports (omega (arith, same)) (λ k d within. pairs 0 (suc k) d (omega arith) (omega arith)) in
          omega (arith, none)
      by_test false is rest = rest

-- ---- what is known of one worker

module _ {L : Type 0} (facts : L → LinkFacts) (opening : Opening) where
  -- it takes in connections as their numbers rise, and of its own number alone, and each has one closing entry at most
  abbrev pub HasRise : Type 0
  HasRise = (old worker : WorkerFacts L) (turns : List Turn) (all : TurnsTo (WorkerTurned facts opening) old turns worker) → AllPairs IsBelow (ports_taken facts opening old turns worker all)

  abbrev pub HasOwn : Type 0
  HasOwn = (old worker : WorkerFacts L) (turns : List Turn) (all : TurnsTo (WorkerTurned facts opening) old turns worker)
      → All (IsOfWorker old.number old.workers) (ports_taken facts opening old turns worker all)

  abbrev pub HasClosing : Type 0
  HasClosing = (number : ℕ) (pass : PassFacts) (room : ℕ) (opened worker : WorkerFacts L) (turns : List Turn) (connection : ℕ) → HasOpened number pass (Some room) opened
      → (all : TurnsTo (WorkerTurned facts opening) opened turns worker)
      → count (is_closing_of connection) worker.common.kept.entries + count (is_open_of connection) worker.ports ≡ count (is_of connection) (ports_taken facts opening opened turns worker all)

-- ---- the workers, one after the other

module _ {L : Type 0} (facts : L → LinkFacts) (opening : Opening) (workers : ℕ) (rise : HasRise facts opening) (its : HasOwn facts opening) (closes : HasClosing facts opening) where
  -- ports of one worker are of no connection of another
  none_of : (connection number : ℕ) (ports : List (PortFacts L)) → All (IsOfWorker number workers) ports → (worker_of connection workers == number) ≡ false → count (is_of connection) ports ≡ 0
  none_of connection number [] own apart = refl
  none_of connection number (port ∷ ports) own apart =
      by_test (is_of connection port) refl (none_of connection number ports (All-tail (IsOfWorker number workers) port ports own) apart)
    where
      by_test : (b : Bool) → is_of connection port ≡ b → count (is_of connection) ports ≡ 0 → length (cond b (port ∷ filter (is_of connection) ports) (filter (is_of connection) ports)) ≡ 0
      by_test true is rest =
          absurd (true≢false
          (sym (eq-eqb (worker_of connection workers) number
          (ap (λ (n : ℕ). worker_of n workers) (sym (eqb-true port.machine.connection connection is)) ∙ All-head (IsOfWorker number workers) port ports own))
          ∙ apart))
      by_test false is rest = rest

  -- a worker closes a connection once at most, and none of another worker
  record ClosesFew (connection number : ℕ) (entries : List WorkerEntry) : Type 0 where
    few : times connection (filter_map closed_by entries) ≤ 1
    own : (worker_of connection workers == number) ≡ false → times connection (filter_map closed_by entries) ≡ 0

  worker_closes : (connection number room : ℕ) (old new : WorkerFacts L) (turns : List Turn) → old.workers ≡ workers → (opened : AreOpenedFrom opening (Some room) number (old ∷ []))
      → (all : TurnsTo (WorkerTurned facts opening) old turns new) → ClosesFew connection number (entries_of new)
  worker_closes connection number room old new turns many opened all =
      let taken : List (PortFacts L) = ports_taken facts opening old turns new all in
      let same = times_closed connection (entries_of new) in
      let closing = closes number (fresh_pass opening) room old new turns connection opened.0.opened all in
      let most = most_one connection taken (rise old new turns all) in
      let own_all : All (IsOfWorker number workers) taken =
      subst (λ (n : ℕ). All (IsOfWorker n workers) taken) opened.0.opened.number_is (subst (λ (n : ℕ). All (IsOfWorker old.number n) taken) many (its old new turns all)) in record {
        few = omega (arith, same, closing, most);
        own = λ apart. let none = none_of connection number taken own_all apart in omega (arith, same, closing, none);
      }

  -- all of them together
  record CloseFew (connection number : ℕ) (lists : List (List WorkerEntry)) : Type 0 where
    few : times connection (filter_map closed_by (flat_map (λ es. es) lists)) ≤ 1
    own : worker_of connection workers < number → times connection (filter_map closed_by (flat_map (λ es. es) lists)) ≡ 0

  one_more : (connection number : ℕ) (entries : List WorkerEntry) (lists : List (List WorkerEntry)) → ClosesFew connection number entries → CloseFew connection (number + 1) lists → CloseFew connection number (entries ∷ lists)
  one_more connection number entries lists one others = by_test (worker_of connection workers == number) refl
    where
      first : ℕ
      first = times connection (filter_map closed_by entries)

      rest : ℕ
      rest = times connection (filter_map closed_by (flat_map (λ es. es) lists))

      whole : times connection (filter_map closed_by (flat_map (λ es. es) (entries ∷ lists))) ≡ first + rest
      whole =
          ap (λ (xs : List ℕ). times connection xs) (filter_map-append closed_by entries (flat_map (λ es. es) lists))
          ∙ times_append connection (filter_map closed_by entries) (filter_map closed_by (flat_map (λ es. es) lists))

      by_test : (b : Bool) → (worker_of connection workers == number) ≡ b → CloseFew connection number (entries ∷ lists)
      by_test true is =
          let same = eqb-true (worker_of connection workers) number is in
          let none = others.own (omega (arith, same)) in
          let most = one.few in record {
            few = omega (arith, whole, none, most);
            own = λ less. absurd (omega (arith, less, same));
          }
      by_test false is =
          let none = one.own is in
          let most = others.few in record {
            few = omega (arith, whole, none, most);
            own = λ less. let nobody = others.own (omega (arith, less)) in omega (arith, whole, none, nobody);
          }

  all_close : (connection number room : ℕ) (olds news : List (WorkerFacts L)) → AllByRecursion (λ worker. worker.workers ≡ workers) olds → AreOpenedFrom opening (Some room) number olds
      → AllZip (TurnsLead (WorkerTurned facts opening)) olds news → CloseFew connection number (map entries_of news)
  all_close connection number room [] [] many begins led = record { few = omega arith; own = λ less. refl }
  all_close connection number room [] (new ∷ news) many begins led = absurd led
  all_close connection number room (old ∷ olds) [] many begins led = absurd led
  all_close connection number room (old ∷ olds) (new ∷ news) many begins led =
      one_more connection number (entries_of new) (map entries_of news)
      (worker_closes connection number room old new led.0.0 many.0 (begins.0, tt) led.0.1)
      (all_close connection (number + 1) room olds news many.1 begins.1 led.1)

  pub close_once : (room : ℕ) (olds news : List (WorkerFacts L)) → AllByRecursion (λ worker. worker.workers ≡ workers) olds → AreOpenedFrom opening (Some room) 0 olds
      → AllZip (TurnsLead (WorkerTurned facts opening)) olds news → AllPairs (λ one other. one ≢ other) (filter_map closed_by (flat_map (λ es. es) (map entries_of news)))
  close_once room olds news many begins led =
      once_each (filter_map closed_by (flat_map (λ es. es) (map entries_of news))) (λ connection. (all_close connection 0 room olds news many begins led).few)
