-- The roles after their last turn.
use Rattle.mum_serve.proofs.Common.{◌≡◌, ◌∙◌, ℕ, ◌+◌, ◌<◌, ◌≤◌, Bool, true, List, [], ◌∷◌, ◌++◌, append_assoc, append-nil, length, map, get_or, drop, IsTrue, Option, Some, None, sym, ap, subst, arith, All, AllByRecursion, drop_all, drop_more, length-map, All-head, All-tail, AllZip-long, TurnsLead, IsPrefix, LinkFacts, DoorFacts, StoreFacts, OwnerFacts, owner_has_ended, Opening, PassFacts, PublisherFacts, Each, IsWritableEntry, WorkerEntry, ViewerFacts, viewer_has_ended, WorkerFacts, is_done, WorkerTurned, ClockFacts, entries_of, AreWithin, IsWithin, has_ended, later_of, roles_of, with_workers, HaveTurned, with_worker, Roles, WorkerTotals}
use Rattle.mum_serve.specs.declared.roles.Roles.TheVariants as roles

-- ---- what the workers saw, compared with what was published, one worker after another

-- the pass that a worker lent is its own
pub is_within : (publisher : PublisherFacts) (pass lent : PassFacts) → lent ≡ pass → IsPrefix lent.seen publisher.published → IsPrefix lent.known publisher.published
    → IsPrefix lent.roll publisher.roll → IsWithin publisher pass
is_within publisher pass lent same seen known roll = subst (IsWithin publisher) same (record { seen = seen; known = known; roll = roll })

-- ---- what they wrote down

each_behind : (before : List (List WorkerEntry)) (one : List WorkerEntry) → Each IsWritableEntry one → Each (Each IsWritableEntry) before → Each (Each IsWritableEntry) (before ++ one ∷ [])
each_behind [] one writable all = (writable, tt)
each_behind (first ∷ before) one writable all = (all.0, each_behind before one writable all.1)

-- what one worker more wrote down has lines too
pub each_more : (before after : List (List WorkerEntry)) (one : List WorkerEntry) → after ≡ before ++ one ∷ [] → Each IsWritableEntry one → Each (Each IsWritableEntry) before → Each (Each IsWritableEntry) after
each_more before after one pushed writable all = subst (Each (Each IsWritableEntry)) (sym pushed) (each_behind before one writable all)

module _ {L : Type 0} where
  -- these are left of all, and the others were compared
  abbrev pub Compared : PublisherFacts → List (WorkerFacts L) → List (WorkerFacts L) → Type 0
  Compared publisher left all = AreWithin publisher left → AreWithin publisher all

  pub compared_one : (publisher : PublisherFacts) (all : List (WorkerFacts L)) (i : ℕ) (worker : WorkerFacts L) → i < length all → worker ≡ get_or all i worker
      → IsWithin publisher worker.common.router.pass → Compared publisher (drop i all) all → Compared publisher (drop (i + 1) all) all
  compared_one publisher all i worker inside is within before =
      let left : drop i all ≡ worker ∷ drop (i + 1) all = drop_more all i worker inside ∙ ap (λ (w : WorkerFacts L). w ∷ drop (i + 1) all) (sym is) in
      let now : Compared publisher (worker ∷ drop (i + 1) all) all = subst (λ (xs : List (WorkerFacts L)). Compared publisher xs all) left before in
      λ rest. now (within, rest)

  pub all_compared : (publisher : PublisherFacts) (all : List (WorkerFacts L)) (i : ℕ) → length all ≤ i → Compared publisher (drop i all) all → AreWithin publisher all
  all_compared publisher all i over before =
      let now : Compared publisher [] all = subst (λ (left : List (WorkerFacts L)). Compared publisher left all) (drop_all i all over) before in
      now tt

  -- ---- their ends, one after another

  -- a worker was ended, and what it came to was added
  pub took_worker : (left rest : List (WorkerFacts L)) (worker : WorkerFacts L) (totals after goal : WorkerTotals) → left ≡ worker ∷ rest → after ≡ with_worker worker totals
      → with_workers left totals ≡ goal → with_workers rest after ≡ goal
  took_worker left rest worker totals after goal is added so =
      ap (with_workers rest) added ∙ sym (ap (λ (ws : List (WorkerFacts L)). with_workers ws totals) is) ∙ so

  -- and what it wrote down was pushed
  pub took_entries : (left rest : List (WorkerFacts L)) (worker : WorkerFacts L) (one : List WorkerEntry) (before after goal : List (List WorkerEntry)) → left ≡ worker ∷ rest → one ≡ entries_of worker
      → after ≡ before ++ one ∷ [] → before ++ map entries_of left ≡ goal → after ++ map entries_of rest ≡ goal
  took_entries left rest worker one before after goal is wrote pushed so =
      ap (λ (xs : List (List WorkerEntry)). xs ++ map entries_of rest) (pushed ∙ ap (λ (o : List WorkerEntry). before ++ o ∷ []) wrote)
      ∙ append_assoc before (entries_of worker ∷ []) (map entries_of rest)
      ∙ ap (λ (ws : List (WorkerFacts L)). before ++ map entries_of ws) (sym is)
      ∙ so

  pub entries_taken : (left : List (WorkerFacts L)) (wrote goal : List (List WorkerEntry)) → length left ≡ 0 → wrote ++ map entries_of left ≡ goal → wrote ≡ goal
  entries_taken [] wrote goal none so = sym (append-nil wrote) ∙ so
  entries_taken (worker ∷ left) wrote goal none so = absurd (omega (arith, none))

  pub all_taken : (left : List (WorkerFacts L)) (totals goal : WorkerTotals) → length left ≡ 0 → with_workers left totals ≡ goal → totals ≡ goal
  all_taken [] totals goal none so = so
  all_taken (worker ∷ left) totals goal none so = absurd (omega (arith, none))

-- ---- all have ended

module _ {D P L : Type 0} where
  -- the viewer has ended, where there is one, and so has the store
  pub record LaterEnded (viewer : Option (ViewerFacts D L)) (store : Option (StoreFacts P)) : Type 0 where
    pub viewer_ended : (one : ViewerFacts D L) → viewer ≡ Some one → viewer_has_ended one ≡ true
    pub store_ended : (one : StoreFacts P) → store ≡ Some one → one.ended ≡ true

module _ {D K P G N R L : Type 0} where
  abbrev Ended : Roles D K P G N R L → Type 0
  Ended role = IsTrue (has_ended role)

  later_done : (viewer : Option (ViewerFacts D L)) (store : Option (StoreFacts P)) → All Ended (later_of viewer store) → LaterEnded viewer store
  later_done None None ended = record { viewer_ended = λ one is. absurd (cc is); store_ended = λ one is. absurd (cc is) }
  later_done None (Some store) ended = record {
    viewer_ended = λ one is. absurd (cc is);
    store_ended = λ one is.
        let same : store ≡ one = cc is in
        subst (λ (s : StoreFacts P). s.ended ≡ true) {y = one} same (All-head Ended (roles.Store store) [] ended);
  }
  later_done (Some viewer) None ended = record {
    viewer_ended = λ one is.
        let same : viewer ≡ one = cc is in
        subst (λ (v : ViewerFacts D L). viewer_has_ended v ≡ true) {y = one} same (All-head Ended (roles.Viewer viewer) [] ended);
    store_ended = λ one is. absurd (cc is);
  }
  later_done (Some viewer) (Some store) ended = record {
    viewer_ended = λ one is.
        let same : viewer ≡ one = cc is in
        subst (λ (v : ViewerFacts D L). viewer_has_ended v ≡ true) {y = one} same (All-head Ended (roles.Viewer viewer) (roles.Store store ∷ []) ended);
    store_ended = λ one is.
        let same : store ≡ one = cc is in
        subst (λ (s : StoreFacts P). s.ended ≡ true) {y = one} same (All-head Ended (roles.Store store) [] (All-tail Ended (roles.Viewer viewer) (roles.Store store ∷ []) ended));
  }

  all_done : (crew : List (WorkerFacts L)) (viewer : Option (ViewerFacts D L)) (store : Option (StoreFacts P)) → All Ended (map roles.Worker crew ++ later_of viewer store)
      → AllByRecursion (λ worker. is_done worker ≡ true) crew × LaterEnded viewer store
  all_done [] viewer store ended = (tt, later_done viewer store ended)
  all_done (worker ∷ crew) viewer store ended =
      let rest = all_done crew viewer store (All-tail Ended (roles.Worker worker) (map roles.Worker crew ++ later_of viewer store) ended) in
      ((All-head Ended (roles.Worker worker) (map roles.Worker crew ++ later_of viewer store) ended, rest.0), rest.1)

  module _ (owner : OwnerFacts D L) (crew : List (WorkerFacts L)) (viewer : Option (ViewerFacts D L)) (store : Option (StoreFacts P)) (back : List (Roles D K P G N R L)) where
    pub owner_done : back ≡ roles_of owner crew viewer store → All (λ role. IsTrue (has_ended role)) back → owner_has_ended owner ≡ true
    owner_done are ended =
        All-head Ended (roles.Owner owner) (map roles.Worker crew ++ later_of viewer store)
        (subst (λ (xs : List (Roles D K P G N R L)). All (λ role. IsTrue (has_ended role)) xs) are ended)

    pub others_done : back ≡ roles_of owner crew viewer store → All (λ role. IsTrue (has_ended role)) back
        → AllByRecursion (λ worker. is_done worker ≡ true) crew × LaterEnded viewer store
    others_done are ended =
        all_done crew viewer store (All-tail Ended (roles.Owner owner) (map roles.Worker crew ++ later_of viewer store)
        (subst (λ (xs : List (Roles D K P G N R L)). All (λ role. IsTrue (has_ended role)) xs) are ended))

-- there is a list of each worker
pub as_many_lists : {D L : Type 0} (facts : L → LinkFacts) (door_facts : D → DoorFacts) (opening : Opening) (door : D) (clock : ClockFacts) (journal : Bool) (connections workers : ℕ) (owner : OwnerFacts D L) (crew : List (WorkerFacts L))
    (lists : List (List WorkerEntry)) → lists ≡ map entries_of crew → HaveTurned facts door_facts opening door clock journal connections workers owner crew → length lists ≡ workers
as_many_lists facts door_facts opening door clock journal connections workers owner crew lists is turned =
    ap (λ (ls : List (List WorkerEntry)). length ls) is ∙ length-map crew entries_of
    ∙ AllZip-long (TurnsLead (WorkerTurned facts opening)) turned.first_crew crew turned.crew_turned
    ∙ turned.begun.crew_begins.many
