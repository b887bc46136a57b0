-- The turns of all roles, apart: those of the owner, of each worker, of the viewer and of the store.
use Rattle.mum_serve.proofs.Common.{◌≡◌, ◌∙◌, ℕ, Bool, List, [], ◌∷◌, length, Option, Some, None, refl, sym, ap, subst, arith, AllZip, AllZip-long, TurnsLead, TurnsTo, CrewEnd, Ran, Refused, NoMemory, Turn, LinkFacts, DoorFacts, KeeperFacts, StoreFacts, StoreTurned, OwnerFacts, OwnerTurned, Opening, ViewerFacts, ViewerTurned, WorkerFacts, WorkerTurned, ClockFacts, AreRoles, RoleTurned, later_of, others_of, roles_of, stores_of, HaveBegun, StoresTurned, ViewersTurned, Roles}
use Rattle.mum_serve.proofs.Together.{store_in, store_is, viewer_in, viewer_is, workers_are, workers_in}
use Rattle.mum_serve.specs.declared.roles.Roles.TheVariants as roles

module _ {D K P G N R L : Type 0} where
  abbrev owner_or : OwnerFacts D L → Roles D K P G N R L → OwnerFacts D L
  owner_or other (roles.Owner owner) = owner
  owner_or other role = other

  abbrev worker_or : WorkerFacts L → Roles D K P G N R L → WorkerFacts L
  worker_or other (roles.Worker worker) = worker
  worker_or other role = other

  abbrev viewer_or : ViewerFacts D L → Roles D K P G N R L → ViewerFacts D L
  viewer_or other (roles.Viewer viewer) = viewer
  viewer_or other role = other

  abbrev store_or : StoreFacts P → Roles D K P G N R L → StoreFacts P
  store_or other (roles.Store store) = store
  store_or other role = other

  -- which of the four a role is
  abbrev kind : Roles D K P G N R L → ℕ
  kind (roles.Owner owner) = 0
  kind (roles.Worker worker) = 1
  kind (roles.Viewer viewer) = 2
  kind (roles.Store store) = 3

module _ {D P L : Type 0} (K G N R : Type 0) (facts : L → LinkFacts) (door_facts : D → DoorFacts) (keeper_facts : P → KeeperFacts) (opening : Opening) where
  abbrev Leads : Roles D K P G N R L → Roles D K P G N R L → Type 0
  Leads old new = TurnsLead (RoleTurned facts door_facts keeper_facts opening) old new

  -- ---- a role stays what it is

  kind_kept : (old new : Roles D K P G N R L) (turn : Turn) → RoleTurned facts door_facts keeper_facts opening old turn new → kind new ≡ kind old
  kind_kept (roles.Owner old) (roles.Owner new) turn did = refl
  kind_kept (roles.Owner old) (roles.Worker new) turn did = absurd did
  kind_kept (roles.Owner old) (roles.Viewer new) turn did = absurd did
  kind_kept (roles.Owner old) (roles.Store new) turn did = absurd did
  kind_kept (roles.Worker old) (roles.Owner new) turn did = absurd did
  kind_kept (roles.Worker old) (roles.Worker new) turn did = refl
  kind_kept (roles.Worker old) (roles.Viewer new) turn did = absurd did
  kind_kept (roles.Worker old) (roles.Store new) turn did = absurd did
  kind_kept (roles.Viewer old) (roles.Owner new) turn did = absurd did
  kind_kept (roles.Viewer old) (roles.Worker new) turn did = absurd did
  kind_kept (roles.Viewer old) (roles.Viewer new) turn did = refl
  kind_kept (roles.Viewer old) (roles.Store new) turn did = absurd did
  kind_kept (roles.Store old) (roles.Owner new) turn did = absurd did
  kind_kept (roles.Store old) (roles.Worker new) turn did = absurd did
  kind_kept (roles.Store old) (roles.Viewer new) turn did = absurd did
  kind_kept (roles.Store old) (roles.Store new) turn did = refl

  kind_stays : (old new : Roles D K P G N R L) (turns : List Turn) → TurnsTo (RoleTurned facts door_facts keeper_facts opening) old turns new → kind new ≡ kind old
  kind_stays old new [] all = ap (λ (role : Roles D K P G N R L). kind role) all
  kind_stays old new (turn ∷ turns) (mid, did, rest) = kind_stays mid new turns rest ∙ kind_kept old mid turn did

  same_kind : (old new : Roles D K P G N R L) → Leads old new → kind new ≡ kind old
  same_kind old new (turns, all) = kind_stays old new turns all

  owner_turns : (old new : OwnerFacts D L) (turns : List Turn) → TurnsTo (RoleTurned {D = D} {K = K} {P = P} {G = G} {N = N} {R = R} {L = L} facts door_facts keeper_facts opening) (roles.Owner old) turns (roles.Owner new)
      → TurnsTo (OwnerTurned door_facts facts) old turns new
  owner_turns old new [] all = ap (λ (role : Roles D K P G N R L). owner_or old role) all
  owner_turns old new (turn ∷ turns) (roles.Owner mid, did, rest) = (mid, did, owner_turns mid new turns rest)
  owner_turns old new (turn ∷ turns) (roles.Worker mid, did, rest) = absurd did
  owner_turns old new (turn ∷ turns) (roles.Viewer mid, did, rest) = absurd did
  owner_turns old new (turn ∷ turns) (roles.Store mid, did, rest) = absurd did

  worker_turns : (old new : WorkerFacts L) (turns : List Turn) → TurnsTo (RoleTurned {D = D} {K = K} {P = P} {G = G} {N = N} {R = R} {L = L} facts door_facts keeper_facts opening) (roles.Worker old) turns (roles.Worker new)
      → TurnsTo (WorkerTurned facts opening) old turns new
  worker_turns old new [] all = ap (λ (role : Roles D K P G N R L). worker_or old role) all
  worker_turns old new (turn ∷ turns) (roles.Owner mid, did, rest) = absurd did
  worker_turns old new (turn ∷ turns) (roles.Worker mid, did, rest) = (mid, did, worker_turns mid new turns rest)
  worker_turns old new (turn ∷ turns) (roles.Viewer mid, did, rest) = absurd did
  worker_turns old new (turn ∷ turns) (roles.Store mid, did, rest) = absurd did

  viewer_turns : (old new : ViewerFacts D L) (turns : List Turn) → TurnsTo (RoleTurned {D = D} {K = K} {P = P} {G = G} {N = N} {R = R} {L = L} facts door_facts keeper_facts opening) (roles.Viewer old) turns (roles.Viewer new)
      → TurnsTo (ViewerTurned door_facts facts) old turns new
  viewer_turns old new [] all = ap (λ (role : Roles D K P G N R L). viewer_or old role) all
  viewer_turns old new (turn ∷ turns) (roles.Owner mid, did, rest) = absurd did
  viewer_turns old new (turn ∷ turns) (roles.Worker mid, did, rest) = absurd did
  viewer_turns old new (turn ∷ turns) (roles.Viewer mid, did, rest) = (mid, did, viewer_turns mid new turns rest)
  viewer_turns old new (turn ∷ turns) (roles.Store mid, did, rest) = absurd did

  store_turns : (old new : StoreFacts P) (turns : List Turn) → TurnsTo (RoleTurned {D = D} {K = K} {P = P} {G = G} {N = N} {R = R} {L = L} facts door_facts keeper_facts opening) (roles.Store old) turns (roles.Store new)
      → TurnsTo (StoreTurned keeper_facts) old turns new
  store_turns old new [] all = ap (λ (role : Roles D K P G N R L). store_or old role) all
  store_turns old new (turn ∷ turns) (roles.Owner mid, did, rest) = absurd did
  store_turns old new (turn ∷ turns) (roles.Worker mid, did, rest) = absurd did
  store_turns old new (turn ∷ turns) (roles.Viewer mid, did, rest) = absurd did
  store_turns old new (turn ∷ turns) (roles.Store mid, did, rest) = (mid, did, store_turns mid new turns rest)

  -- ---- an owner, workers, a viewer and a store come back as such

  abbrev AreStores : List (Roles D K P G N R L) → Type 0
  AreStores back = (store : Option (StoreFacts P)) × (back ≡ stores_of store)

  stores_stay : (store : Option (StoreFacts P)) (back : List (Roles D K P G N R L)) → AllZip Leads (stores_of store) back → AreStores back
  stores_stay None [] all = (None, refl)
  stores_stay None (role ∷ back) all = absurd all
  stores_stay (Some store) [] all = absurd all
  stores_stay (Some store) (roles.Owner new ∷ back) all = let no = same_kind (roles.Store store) (roles.Owner new) all.0 in absurd (omega (arith, no))
  stores_stay (Some store) (roles.Worker new ∷ back) all = let no = same_kind (roles.Store store) (roles.Worker new) all.0 in absurd (omega (arith, no))
  stores_stay (Some store) (roles.Viewer new ∷ back) all = let no = same_kind (roles.Store store) (roles.Viewer new) all.0 in absurd (omega (arith, no))
  stores_stay (Some store) (roles.Store new ∷ []) all = (Some new, refl)
  stores_stay (Some store) (roles.Store new ∷ role ∷ back) all = absurd all.1

  abbrev AreLater : List (Roles D K P G N R L) → Type 0
  AreLater back = (viewer : Option (ViewerFacts D L)) × (store : Option (StoreFacts P)) × (back ≡ later_of viewer store)

  later_stay : (viewer : Option (ViewerFacts D L)) (store : Option (StoreFacts P)) (back : List (Roles D K P G N R L)) → AllZip Leads (later_of viewer store) back → AreLater back
  later_stay None store back all = let rest = stores_stay store back all in (None, rest.0, rest.1)
  later_stay (Some viewer) store [] all = absurd all
  later_stay (Some viewer) store (roles.Owner new ∷ back) all = let no = same_kind (roles.Viewer viewer) (roles.Owner new) all.0 in absurd (omega (arith, no))
  later_stay (Some viewer) store (roles.Worker new ∷ back) all = let no = same_kind (roles.Viewer viewer) (roles.Worker new) all.0 in absurd (omega (arith, no))
  later_stay (Some viewer) store (roles.Viewer new ∷ back) all =
      let rest = stores_stay store back all.1 in
      (Some new, rest.0, ap (λ (xs : List (Roles D K P G N R L)). roles.Viewer new ∷ xs) rest.1)
  later_stay (Some viewer) store (roles.Store new ∷ back) all = let no = same_kind (roles.Viewer viewer) (roles.Store new) all.0 in absurd (omega (arith, no))

  abbrev IsBehind : List (Roles D K P G N R L) → Type 0
  IsBehind back = (crew : List (WorkerFacts L)) × (viewer : Option (ViewerFacts D L)) × (store : Option (StoreFacts P)) × (back ≡ others_of crew viewer store)

  behind_stay : (crew : List (WorkerFacts L)) (viewer : Option (ViewerFacts D L)) (store : Option (StoreFacts P)) (back : List (Roles D K P G N R L)) → AllZip Leads (others_of crew viewer store) back → IsBehind back
  behind_stay [] viewer store back all = let rest = later_stay viewer store back all in ([], rest.0, rest.1, rest.2)
  behind_stay (worker ∷ crew) viewer store [] all = absurd all
  behind_stay (worker ∷ crew) viewer store (roles.Owner new ∷ back) all = let no = same_kind (roles.Worker worker) (roles.Owner new) all.0 in absurd (omega (arith, no))
  behind_stay (worker ∷ crew) viewer store (roles.Worker new ∷ back) all =
      let rest = behind_stay crew viewer store back all.1 in
      (new ∷ rest.0, rest.1, rest.2, ap (λ (xs : List (Roles D K P G N R L)). roles.Worker new ∷ xs) rest.3)
  behind_stay (worker ∷ crew) viewer store (roles.Viewer new ∷ back) all = let no = same_kind (roles.Worker worker) (roles.Viewer new) all.0 in absurd (omega (arith, no))
  behind_stay (worker ∷ crew) viewer store (roles.Store new ∷ back) all = let no = same_kind (roles.Worker worker) (roles.Store new) all.0 in absurd (omega (arith, no))

  roles_stay : (owner : OwnerFacts D L) (crew : List (WorkerFacts L)) (viewer : Option (ViewerFacts D L)) (store : Option (StoreFacts P)) (back : List (Roles D K P G N R L)) → AllZip Leads (roles_of owner crew viewer store) back → AreRoles back
  roles_stay owner crew viewer store [] all = absurd all
  roles_stay owner crew viewer store (roles.Owner new ∷ back) all =
      let rest = behind_stay crew viewer store back all.1 in
      record { owner = new; crew = rest.0; viewer = rest.1; store = rest.2; are = ap (λ (xs : List (Roles D K P G N R L)). roles.Owner new ∷ xs) rest.3 }
  roles_stay owner crew viewer store (roles.Worker new ∷ back) all = let no = same_kind (roles.Owner owner) (roles.Worker new) all.0 in absurd (omega (arith, no))
  roles_stay owner crew viewer store (roles.Viewer new ∷ back) all = let no = same_kind (roles.Owner owner) (roles.Viewer new) all.0 in absurd (omega (arith, no))
  roles_stay owner crew viewer store (roles.Store new ∷ back) all = let no = same_kind (roles.Owner owner) (roles.Store new) all.0 in absurd (omega (arith, no))

  -- ---- their turns

  stores_turn : (old new : Option (StoreFacts P)) → AllZip Leads (stores_of old) (stores_of new) → StoresTurned keeper_facts old new
  stores_turn None None all = tt
  stores_turn None (Some new) all = absurd all
  stores_turn (Some old) None all = absurd all
  stores_turn (Some old) (Some new) all = (all.0.0, store_turns old new all.0.0 all.0.1)

  abbrev LaterTurned : Option (ViewerFacts D L) → Option (StoreFacts P) → Option (ViewerFacts D L) → Option (StoreFacts P) → Type 0
  LaterTurned old stored new storing = ViewersTurned facts door_facts old new × StoresTurned keeper_facts stored storing

  later_turn : (old : Option (ViewerFacts D L)) (stored : Option (StoreFacts P)) (new : Option (ViewerFacts D L)) (storing : Option (StoreFacts P)) → AllZip Leads (later_of old stored) (later_of new storing) → LaterTurned old stored new storing
  later_turn None stored None storing all = (tt, stores_turn stored storing all)
  later_turn None None (Some new) storing all = absurd all
  later_turn None (Some stored) (Some new) storing all = let no = same_kind (roles.Store stored) (roles.Viewer new) all.0 in absurd (omega (arith, no))
  later_turn (Some old) stored None None all = absurd all
  later_turn (Some old) stored None (Some storing) all = let no = same_kind (roles.Viewer old) (roles.Store storing) all.0 in absurd (omega (arith, no))
  later_turn (Some old) stored (Some new) storing all = ((all.0.0, viewer_turns old new all.0.0 all.0.1), stores_turn stored storing all.1)

  abbrev HaveMoved : List (WorkerFacts L) → Option (ViewerFacts D L) → Option (StoreFacts P) → List (WorkerFacts L) → Option (ViewerFacts D L) → Option (StoreFacts P) → Type 0
  HaveMoved olds old stored news new storing = AllZip (TurnsLead (WorkerTurned facts opening)) olds news × LaterTurned old stored new storing

  -- no worker comes of what is later
  no_worker : (old : Option (ViewerFacts D L)) (stored : Option (StoreFacts P)) (worker : WorkerFacts L) (rest : List (Roles D K P G N R L)) → AllZip Leads (later_of old stored) (roles.Worker worker ∷ rest) → ⊥
  no_worker None None worker rest all = all
  no_worker None (Some stored) worker rest all = let no = same_kind (roles.Store stored) (roles.Worker worker) all.0 in omega (arith, no)
  no_worker (Some old) stored worker rest all = let no = same_kind (roles.Viewer old) (roles.Worker worker) all.0 in omega (arith, no)

  -- and nothing later of a worker
  none_later : (worker : WorkerFacts L) (rest : List (Roles D K P G N R L)) (new : Option (ViewerFacts D L)) (storing : Option (StoreFacts P)) → AllZip Leads (roles.Worker worker ∷ rest) (later_of new storing) → ⊥
  none_later worker rest None None all = all
  none_later worker rest None (Some storing) all = let no = same_kind (roles.Worker worker) (roles.Store storing) all.0 in omega (arith, no)
  none_later worker rest (Some new) storing all = let no = same_kind (roles.Worker worker) (roles.Viewer new) all.0 in omega (arith, no)

  behind_turn : (olds : List (WorkerFacts L)) (old : Option (ViewerFacts D L)) (stored : Option (StoreFacts P)) (news : List (WorkerFacts L)) (new : Option (ViewerFacts D L)) (storing : Option (StoreFacts P)) → AllZip Leads (others_of olds old stored) (others_of news new storing)
      → HaveMoved olds old stored news new storing
  behind_turn [] old stored [] new storing all = (tt, later_turn old stored new storing all)
  behind_turn [] old stored (worker ∷ news) new storing all = absurd (no_worker old stored worker (others_of news new storing) all)
  behind_turn (worker ∷ olds) old stored [] new storing all = absurd (none_later worker (others_of olds old stored) new storing all)
  behind_turn (worker ∷ olds) old stored (next ∷ news) new storing all =
      let rest = behind_turn olds old stored news new storing all.1 in
      (((all.0.0, worker_turns worker next all.0.0 all.0.1), rest.0), rest.1)

  none_turned : (old new : Option (ViewerFacts D L)) → ViewersTurned facts door_facts old new → new ≡ None → old ≡ None
  none_turned None new turned none = refl
  none_turned (Some old) None turned none = absurd turned
  none_turned (Some old) (Some new) turned none = absurd (cc none)

  no_store_turned : (old new : Option (StoreFacts P)) → StoresTurned keeper_facts old new → new ≡ None → old ≡ None
  no_store_turned None new turned none = refl
  no_store_turned (Some old) None turned none = absurd turned
  no_store_turned (Some old) (Some new) turned none = absurd (cc none)

  abbrev first_or : OwnerFacts D L → List (Roles D K P G N R L) → OwnerFacts D L
  first_or other [] = other
  first_or other (role ∷ rest) = owner_or other role

  module _ (first owner : OwnerFacts D L) (begun crew : List (WorkerFacts L)) (opened viewer : Option (ViewerFacts D L)) (stored store : Option (StoreFacts P)) (given back : List (Roles D K P G N R L)) where
    all_turned : given ≡ roles_of first begun opened stored → back ≡ roles_of owner crew viewer store → AllZip Leads given back → AllZip Leads (roles_of first begun opened stored) (roles_of owner crew viewer store)
    all_turned were are turned =
        subst (λ (xs : List (Roles D K P G N R L)). AllZip Leads xs (roles_of owner crew viewer store)) were (subst (AllZip Leads given) are turned)

    others_turned : given ≡ roles_of first begun opened stored → back ≡ roles_of owner crew viewer store → AllZip Leads given back → HaveMoved begun opened stored crew viewer store
    others_turned were are turned = behind_turn begun opened stored crew viewer store (all_turned were are turned).1

    -- turns of its own led the owner to what it is
    pub owner_led : given ≡ roles_of first begun opened stored → back ≡ roles_of owner crew viewer store → AllZip Leads given back → TurnsLead (OwnerTurned door_facts facts) first owner
    owner_led were are turned =
        let all = all_turned were are turned in
        (all.0.0, owner_turns first owner all.0.0 all.0.1)

    -- and each of the workers
    pub crew_led : given ≡ roles_of first begun opened stored → back ≡ roles_of owner crew viewer store → AllZip Leads given back → AllZip (TurnsLead (WorkerTurned facts opening)) begun crew
    crew_led were are turned = (others_turned were are turned).0

    -- and the viewer
    pub viewer_turned : given ≡ roles_of first begun opened stored → back ≡ roles_of owner crew viewer store → AllZip Leads given back → ViewersTurned facts door_facts opened viewer
    viewer_turned were are turned = (others_turned were are turned).1.0

    -- and the store
    pub store_turned : given ≡ roles_of first begun opened stored → back ≡ roles_of owner crew viewer store → AllZip Leads given back → StoresTurned keeper_facts stored store
    store_turned were are turned = (others_turned were are turned).1.1

    -- ---- where no turn was made

    pub crew_back : given ≡ roles_of first begun opened stored → back ≡ roles_of owner crew viewer store → back ≡ given → crew ≡ begun
    crew_back were are same =
        sym (workers_are K G N R crew viewer store) ∙ ap (λ (xs : List (Roles D K P G N R L)). workers_in xs) (sym are ∙ same ∙ were) ∙ workers_are K G N R begun opened stored

    -- the viewer is the one that was opened
    pub viewer_back : given ≡ roles_of first begun opened stored → back ≡ roles_of owner crew viewer store → back ≡ given → viewer ≡ opened
    viewer_back were are same =
        sym (viewer_is K G N R crew viewer store) ∙ ap (λ (xs : List (Roles D K P G N R L)). viewer_in None xs) (sym are ∙ same ∙ were) ∙ viewer_is K G N R begun opened stored

    -- and so is the store
    pub store_back : given ≡ roles_of first begun opened stored → back ≡ roles_of owner crew viewer store → back ≡ given → store ≡ stored
    store_back were are same =
        sym (store_is K G N R crew viewer store) ∙ ap (λ (xs : List (Roles D K P G N R L)). store_in None xs) (sym are ∙ same ∙ were) ∙ store_is K G N R begun opened stored

    -- ---- as many come back

    -- as many workers
    pub as_many_workers : (end : CrewEnd)
        → given ≡ roles_of first begun opened stored → back ≡ roles_of owner crew viewer store → (end ≡ Ran → AllZip Leads given back) → (end ≡ Refused → back ≡ given) → (end ≡ NoMemory → back ≡ given) → length crew ≡ length begun
    as_many_workers Ran were are turned refused starved = AllZip-long (TurnsLead (WorkerTurned facts opening)) begun crew (others_turned were are (turned refl)).0
    as_many_workers Refused were are turned refused starved = ap (λ (ws : List (WorkerFacts L)). length ws) (crew_back were are (refused refl))
    as_many_workers NoMemory were are turned refused starved = ap (λ (ws : List (WorkerFacts L)). length ws) (crew_back were are (starved refl))

    -- a viewer comes back where there was one
    pub none_back : (end : CrewEnd)
        → given ≡ roles_of first begun opened stored → back ≡ roles_of owner crew viewer store → (end ≡ Ran → AllZip Leads given back) → (end ≡ Refused → back ≡ given) → (end ≡ NoMemory → back ≡ given) → viewer ≡ None → opened ≡ None
    none_back Ran were are turned refused starved none = none_turned opened viewer (viewer_turned were are (turned refl)) none
    none_back Refused were are turned refused starved none = sym (viewer_back were are (refused refl)) ∙ none
    none_back NoMemory were are turned refused starved none = sym (viewer_back were are (starved refl)) ∙ none

    -- and so does a store
    pub no_store_back : (end : CrewEnd)
        → given ≡ roles_of first begun opened stored → back ≡ roles_of owner crew viewer store → (end ≡ Ran → AllZip Leads given back) → (end ≡ Refused → back ≡ given) → (end ≡ NoMemory → back ≡ given) → store ≡ None → stored ≡ None
    no_store_back Ran were are turned refused starved none = no_store_turned stored store (store_turned were are (turned refl)) none
    no_store_back Refused were are turned refused starved none = sym (store_back were are (refused refl)) ∙ none
    no_store_back NoMemory were are turned refused starved none = sym (store_back were are (starved refl)) ∙ none

    -- the owner is the one that was opened
    pub owner_back : given ≡ roles_of first begun opened stored → back ≡ roles_of owner crew viewer store → back ≡ given → owner ≡ first
    owner_back were are same = ap (λ (xs : List (Roles D K P G N R L)). first_or owner xs) (sym are ∙ same ∙ were)

    -- over this door
    pub door_back : (door : D) (clock : ClockFacts) (journal : Bool) (connections workers : ℕ) (left : D)
        → given ≡ roles_of first begun opened stored → back ≡ roles_of owner crew viewer store → HaveBegun opening door clock journal connections workers first begun → back ≡ given → left ≡ owner.doorway.door → left ≡ door
    door_back door clock journal connections workers left were are new same is =
        is
        ∙ ap (λ (o : OwnerFacts D L). o.doorway.door) (owner_back were are same)
        ∙ ap (λ (o : OwnerFacts D L). o.doorway.door) new.owner_begins.opened

  -- ---- what a crew gives back

  pub roles_back : (end : CrewEnd) (owner : OwnerFacts D L) (crew : List (WorkerFacts L)) (viewer : Option (ViewerFacts D L)) (store : Option (StoreFacts P)) (given back : List (Roles D K P G N R L)) → given ≡ roles_of owner crew viewer store
      → (end ≡ Ran → AllZip Leads given back) → (end ≡ Refused → back ≡ given) → (end ≡ NoMemory → back ≡ given) → AreRoles back
  roles_back Ran owner crew viewer store given back are turned refused starved = roles_stay owner crew viewer store back (subst (λ (xs : List (Roles D K P G N R L)). AllZip Leads xs back) are (turned refl))
  roles_back Refused owner crew viewer store given back are turned refused starved = record { owner = owner; crew = crew; viewer = viewer; store = store; are = refused refl ∙ are }
  roles_back NoMemory owner crew viewer store given back are turned refused starved = record { owner = owner; crew = crew; viewer = viewer; store = store; are = starved refl ∙ are }
