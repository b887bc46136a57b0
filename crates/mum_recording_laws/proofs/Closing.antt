-- No connection closes twice in a run.
use Rattle.mum_recording_laws.proofs.Common.{◌≡◌, ◌≢◌, ℕ, zero, suc, ◌+◌, ◌<◌, ◌==◌, not, Bool, true, false, cond, List, [], ◌∷◌, ◌++◌, None, Some, refl, sym, ap, subst, ◌∙◌, arith, is_some, slice_get, AllByRecursion, filter_map, flat_map, eqb-true, false≢true, filter_map-append, Cause, WorkerEntry, Step, Close, closed_at, CoreState, connection_at, is_opened, up, IsRun, gathered, ran, does, illegal, connections_stay, none_stands, not_false, closed_stays, closed_by, Pairs, each_both, each_weaker, closed}
use Rattle.mum_recording_laws.proofs.Sitting.{changed_here}

-- ---- of one worker

record MayClose (core : CoreState) (c : ℕ) : Type 0 where
  opened : is_opened core c ≡ true
  open_yet : is_some (connection_at core c).closed ≡ false

may_close : (core : CoreState) (c : ℕ) (cause : Cause) → illegal core (Close c cause) ≡ None → MayClose core c
may_close core c cause allowed =
    let first = none_stands (not (is_opened core c)) _ _ allowed in
    let second = none_stands (is_some (connection_at core c).closed) _ _ first.1 in
    record { opened = not_false (is_opened core c) first.0; open_yet = second.0 }

still_open : (core : CoreState) (c d line : ℕ) → (connection_at core c).closed ≡ Some line → is_some (connection_at core d).closed ≡ false → c ≢ d
still_open core c d line is open_yet same =
    false≢true (sym open_yet ∙ ap (λ (n : ℕ). is_some (connection_at core n).closed) (sym same) ∙ ap (λ o. is_some o) is)

never_again : (c line w : ℕ) (core : CoreState) (run : List Step) → (connection_at core c).closed ≡ Some line → IsRun core run → AllByRecursion (λ d. c ≢ d) (gathered (closed w) core run)
never_again c line w core [] is allowed = tt
never_again c line w core (Close d cause ∷ run) is allowed =
    each_both (λ e. c ≢ e) (closed w core (Close d cause)) (gathered (closed w) (does core (Close d cause)) run) (here ((connection_at core d).worker == w))
    (never_again c line w (does core (Close d cause)) run (closed_stays core c line (Close d cause ∷ []) (allowed.0, tt) is) allowed.1)
  where
    here : (b : Bool) → AllByRecursion (λ e. c ≢ e) (cond b (d ∷ []) [])
    here false = tt
    here true = (still_open core c d line is (may_close core d cause allowed.0).open_yet, tt)
never_again c line w core (step ∷ run) is allowed = never_again c line w (does core step) run (closed_stays core c line (step ∷ []) (allowed.0, tt) is) allowed.1

pub once : (w : ℕ) (core : CoreState) (run : List Step) → IsRun core run → Pairs (λ (a b : ℕ). a ≢ b) (gathered (closed w) core run)
once w core [] allowed = tt
once w core (Close d cause ∷ run) allowed = here ((connection_at core d).worker == w) (once w (does core (Close d cause)) run allowed.1)
  where
    rest : List ℕ
    rest = gathered (closed w) (does core (Close d cause)) run

    now : (connection_at (does core (Close d cause)) d).closed ≡ Some (up core.line)
    now = ap (λ x. x.closed) (changed_here core d (closed_at (up core.line)) (may_close core d cause allowed.0).opened)

    here : (b : Bool) → Pairs (λ (a b : ℕ). a ≢ b) rest → Pairs (λ (a b : ℕ). a ≢ b) (cond b (d ∷ []) [] ++ rest)
    here false pairs = pairs
    here true pairs = (never_again d (up core.line) w (does core (Close d cause)) run now allowed.1, pairs)
once w core (step ∷ run) allowed = once w (does core step) run allowed.1

-- each is at that worker
pub all_there : (w : ℕ) (core : CoreState) (run : List Step) → IsRun core run → AllByRecursion (λ d. (connection_at (ran core run) d).worker ≡ w) (gathered (closed w) core run)
all_there w core [] allowed = tt
all_there w core (Close d cause ∷ run) allowed =
    each_both (λ e. (connection_at (ran core (Close d cause ∷ run)) e).worker ≡ w) (closed w core (Close d cause)) (gathered (closed w) (does core (Close d cause)) run)
    (here ((connection_at core d).worker == w) refl) (all_there w (does core (Close d cause)) run allowed.1)
  where
    here : (b : Bool) → ((connection_at core d).worker == w) ≡ b → AllByRecursion (λ e. (connection_at (ran core (Close d cause ∷ run)) e).worker ≡ w) (cond b (d ∷ []) [])
    here false is = tt
    here true is = (connections_stay core (Close d cause ∷ run) d (may_close core d cause allowed.0).opened ∙ eqb-true (connection_at core d).worker w is, tt)
all_there w core (step ∷ run) allowed = all_there w (does core step) run allowed.1

-- ---- of all workers

abbrev closings : List WorkerEntry → List ℕ
closings entries = filter_map closed_by entries

abbrev together : List (List WorkerEntry) → List WorkerEntry
together lists = flat_map (λ entries. entries) lists

pairs_both : (xs ys : List ℕ) → Pairs (λ (a b : ℕ). a ≢ b) xs → Pairs (λ (a b : ℕ). a ≢ b) ys → AllByRecursion (λ x. AllByRecursion (λ y. x ≢ y) ys) xs → Pairs (λ (a b : ℕ). a ≢ b) (xs ++ ys)
pairs_both [] ys one other across = other
pairs_both (x ∷ xs) ys one other across = (each_both (λ y. x ≢ y) xs ys one.0 across.0, pairs_both xs ys one.1 other across.1)

module _ (worker : ℕ → ℕ) where
  -- the connections of the lists from a number on are at the workers from that number on
  abbrev pub Placed : ℕ → List (List WorkerEntry) → Type 0
  Placed k lists =
      (j : ℕ) (entries : List WorkerEntry) → slice_get lists j ≡ Some entries
      → Pairs (λ (a b : ℕ). a ≢ b) (closings entries) × AllByRecursion (λ d. worker d ≡ k + j) (closings entries)

  next_placed : (k : ℕ) (entries : List WorkerEntry) (lists : List (List WorkerEntry)) → Placed k (entries ∷ lists) → Placed (k + 1) lists
  next_placed k entries lists placed j one is =
      let both = placed (suc j) one is in
      (both.0, each_weaker (λ d. worker d ≡ k + suc j) (λ d. worker d ≡ k + 1 + j) (λ d at. omega (arith, at)) (closings one) both.1)

  above : (least k : ℕ) (lists : List (List WorkerEntry)) → least < k → Placed k lists → AllByRecursion (λ d. least < worker d) (closings (together lists))
  above least k [] less placed = tt
  above least k (entries ∷ lists) less placed =
      subst (AllByRecursion (λ d. least < worker d)) (sym (filter_map-append closed_by entries (together lists)))
      (each_both (λ d. least < worker d) (closings entries) (closings (together lists))
      (each_weaker (λ d. worker d ≡ k + zero) (λ d. least < worker d) (λ d at. omega (arith, at, less)) (closings entries) (placed zero entries refl).1)
      (above least (k + 1) lists (omega (arith, less)) (next_placed k entries lists placed)))

  pub all_apart : (k : ℕ) (lists : List (List WorkerEntry)) → Placed k lists → Pairs (λ (a b : ℕ). a ≢ b) (closings (together lists))
  all_apart k [] placed = tt
  all_apart k (entries ∷ lists) placed =
      let here = placed zero entries refl in
      let later : AllByRecursion (λ d. k < worker d) (closings (together lists)) = above k (k + 1) lists (omega arith) (next_placed k entries lists placed) in
      subst (Pairs (λ (a b : ℕ). a ≢ b)) (sym (filter_map-append closed_by entries (together lists)))
      (pairs_both (closings entries) (closings (together lists)) here.0 (all_apart (k + 1) lists (next_placed k entries lists placed))
      (each_weaker (λ x. worker x ≡ k + zero) (λ x. AllByRecursion (λ y. x ≢ y) (closings (together lists)))
      (λ x at. each_weaker (λ y. k < worker y) (λ y. x ≢ y) (λ y more. apart x y at more) (closings (together lists)) later) (closings entries) here.1))
    where
      apart : (x y : ℕ) → worker x ≡ k + zero → k < worker y → x ≢ y
      apart x y at more same = omega (arith, at, more, ap worker same)
