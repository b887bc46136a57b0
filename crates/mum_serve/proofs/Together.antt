-- The roles of a server as one list, and apart.
use Rattle.mum_serve.proofs.Common.{◌≡◌, ◌∙◌, ◌<◌, ◌≤◌, ◌+◌, List, [], ◌∷◌, ◌++◌, append_assoc, append-nil, length, length-append, map, drop, slice_index_or, Option, Some, None, refl, sym, ap, arith, StoreFacts, OwnerFacts, WorkerFacts, ViewerFacts, AreOthers, AreRoles, later_of, others_of, roles_of, stores_of, Roles}
use Rattle.mum_serve.specs.declared.roles.Roles.TheVariants as roles

pub none_of : {X : Type 0} (one : Option X) → ((x : X) → one ≡ Some x → ⊥) → one ≡ None
none_of None never = refl
none_of (Some x) never = absurd (never x refl)

-- ---- what a list of roles holds

module _ {D K P G N R L : Type 0} where
  abbrev pub owners_in : List (Roles D K P G N R L) → List (OwnerFacts D L)
  owners_in [] = []
  owners_in (roles.Owner owner ∷ rest) = owner ∷ owners_in rest
  owners_in (roles.Worker worker ∷ rest) = owners_in rest
  owners_in (roles.Viewer viewer ∷ rest) = owners_in rest
  owners_in (roles.Store store ∷ rest) = owners_in rest

  abbrev pub workers_in : List (Roles D K P G N R L) → List (WorkerFacts L)
  workers_in [] = []
  workers_in (roles.Owner owner ∷ rest) = workers_in rest
  workers_in (roles.Worker worker ∷ rest) = worker ∷ workers_in rest
  workers_in (roles.Viewer viewer ∷ rest) = workers_in rest
  workers_in (roles.Store store ∷ rest) = workers_in rest

  -- the last viewer of the list, or this one where it has none
  abbrev pub viewer_in : Option (ViewerFacts D L) → List (Roles D K P G N R L) → Option (ViewerFacts D L)
  viewer_in other [] = other
  viewer_in other (roles.Owner owner ∷ rest) = viewer_in other rest
  viewer_in other (roles.Worker worker ∷ rest) = viewer_in other rest
  viewer_in other (roles.Viewer viewer ∷ rest) = viewer_in (Some viewer) rest
  viewer_in other (roles.Store store ∷ rest) = viewer_in other rest

  -- so it is with the store
  abbrev pub store_in : Option (StoreFacts P) → List (Roles D K P G N R L) → Option (StoreFacts P)
  store_in other [] = other
  store_in other (roles.Owner owner ∷ rest) = store_in other rest
  store_in other (roles.Worker worker ∷ rest) = store_in other rest
  store_in other (roles.Viewer viewer ∷ rest) = store_in other rest
  store_in other (roles.Store store ∷ rest) = store_in (Some store) rest

module _ {D P L : Type 0} (K G N R : Type 0) where
  abbrev Others : List (WorkerFacts L) → Option (ViewerFacts D L) → Option (StoreFacts P) → List (Roles D K P G N R L)
  Others crew viewer store = others_of crew viewer store

  pub workers_are : (crew : List (WorkerFacts L)) (viewer : Option (ViewerFacts D L)) (store : Option (StoreFacts P)) → workers_in (Others crew viewer store) ≡ crew
  workers_are [] None None = refl
  workers_are [] None (Some store) = refl
  workers_are [] (Some viewer) None = refl
  workers_are [] (Some viewer) (Some store) = refl
  workers_are (worker ∷ crew) viewer store = ap (λ (ws : List (WorkerFacts L)). worker ∷ ws) (workers_are crew viewer store)

  pub viewer_is : (crew : List (WorkerFacts L)) (viewer : Option (ViewerFacts D L)) (store : Option (StoreFacts P)) → viewer_in None (Others crew viewer store) ≡ viewer
  viewer_is [] None None = refl
  viewer_is [] None (Some store) = refl
  viewer_is [] (Some viewer) None = refl
  viewer_is [] (Some viewer) (Some store) = refl
  viewer_is (worker ∷ crew) viewer store = viewer_is crew viewer store

  pub store_is : (crew : List (WorkerFacts L)) (viewer : Option (ViewerFacts D L)) (store : Option (StoreFacts P)) → store_in None (Others crew viewer store) ≡ store
  store_is [] None None = refl
  store_is [] None (Some store) = refl
  store_is [] (Some viewer) None = refl
  store_is [] (Some viewer) (Some store) = refl
  store_is (worker ∷ crew) viewer store = store_is crew viewer store

  no_owner : (crew : List (WorkerFacts L)) (viewer : Option (ViewerFacts D L)) (store : Option (StoreFacts P)) → owners_in (Others crew viewer store) ≡ []
  no_owner [] None None = refl
  no_owner [] None (Some store) = refl
  no_owner [] (Some viewer) None = refl
  no_owner [] (Some viewer) (Some store) = refl
  no_owner (worker ∷ crew) viewer store = no_owner crew viewer store

  few_later : (viewer : Option (ViewerFacts D L)) (store : Option (StoreFacts P)) → length (later_of {K = K} {G = G} {N = N} {R = R} viewer store) ≤ 2
  few_later None None = omega arith
  few_later None (Some store) = omega arith
  few_later (Some viewer) None = omega arith
  few_later (Some viewer) (Some store) = omega arith

  pub few_behind : (crew : List (WorkerFacts L)) (viewer : Option (ViewerFacts D L)) (store : Option (StoreFacts P)) → length (Others crew viewer store) ≤ length crew + 2
  few_behind [] viewer store = few_later viewer store
  few_behind (worker ∷ crew) viewer store = let few = few_behind crew viewer store in omega (arith, few)

module _ {D K P G N R L : Type 0} where
  abbrev pub workers_of : List (WorkerFacts L) → List (Roles D K P G N R L)
  workers_of crew = map roles.Worker crew

  -- those that are put after the others are workers too
  workers_more : (done : List (Roles D K P G N R L)) (worker : WorkerFacts L) (rest : List (WorkerFacts L)) → done ++ workers_of (worker ∷ rest) ≡ (done ++ roles.Worker worker ∷ []) ++ workers_of rest
  workers_more done worker rest = sym (append_assoc done (roles.Worker worker ∷ []) (workers_of rest))

  -- one worker more was put after the others, and these are left
  pub put_one : (goal before after : List (Roles D K P G N R L)) (left rest : List (WorkerFacts L)) (worker : WorkerFacts L) → left ≡ worker ∷ rest → after ≡ before ++ roles.Worker worker ∷ []
      → before ++ workers_of left ≡ goal → after ++ workers_of rest ≡ goal
  put_one goal before after left rest worker is pushed so =
      ap (λ xs. xs ++ workers_of rest) pushed ∙ sym (workers_more before worker rest) ∙ ap (λ ws. before ++ workers_of ws) (sym is) ∙ so

  pub put_all : (goal before : List (Roles D K P G N R L)) (left : List (WorkerFacts L)) → length left ≡ 0 → before ++ workers_of left ≡ goal → before ≡ goal
  put_all goal before [] none so = sym (append-nil before) ∙ so
  put_all goal before (worker ∷ left) none so = absurd (omega (arith, none))

  store_behind : (viewer : Option (ViewerFacts D L)) (store : Option (StoreFacts P)) → later_of {K = K} {G = G} {N = N} {R = R} viewer None ++ stores_of store ≡ later_of viewer store
  store_behind None store = refl
  store_behind (Some viewer) store = refl

  -- after a viewer there is room for a store
  pub room_behind : (before viewed : List (Roles D K P G N R L)) (viewer : Option (ViewerFacts D L)) → viewed ≡ before ++ later_of viewer None → length viewed ≤ length before + 1
  room_behind before viewed None pushed = let long = ap (λ (xs : List (Roles D K P G N R L)). length xs) pushed in let sum = length-append before [] in omega (arith, long, sum)
  room_behind before viewed (Some viewer) pushed =
      let long = ap (λ (xs : List (Roles D K P G N R L)). length xs) pushed in
      let sum = length-append before (roles.Viewer viewer ∷ []) in
      omega (arith, long, sum)

  -- a viewer is put after the owner and the workers, and a store after it
  pub put_later : (before viewed after : List (Roles D K P G N R L)) (owner : OwnerFacts D L) (crew : List (WorkerFacts L)) (viewer : Option (ViewerFacts D L)) (store : Option (StoreFacts P)) → before ≡ roles.Owner owner ∷ workers_of crew
      → viewed ≡ before ++ later_of viewer None → after ≡ viewed ++ stores_of store → after ≡ roles_of owner crew viewer store
  put_later before viewed after owner crew viewer store is pushed last =
      last
      ∙ ap (λ (xs : List (Roles D K P G N R L)). xs ++ stores_of store) pushed
      ∙ append_assoc before (later_of viewer None) (stores_of store)
      ∙ ap (λ (xs : List (Roles D K P G N R L)). before ++ xs) (store_behind viewer store)
      ∙ ap (λ (xs : List (Roles D K P G N R L)). xs ++ later_of viewer store) is

  -- ---- apart

  -- there is a first one, and it is the owner
  pub some_role : (all : List (Roles D K P G N R L)) → AreRoles all → 0 < length all
  some_role all roles_are = let many = ap (λ (xs : List (Roles D K P G N R L)). length xs) roles_are.are in omega (arith, many)

  pub first_is : (all : List (Roles D K P G N R L)) (role : Roles D K P G N R L) (these : AreRoles all) → role ≡ slice_index_or all 0 role → role ≡ roles.Owner these.owner
  first_is all role these value = value ∙ ap (λ (xs : List (Roles D K P G N R L)). slice_index_or xs 0 role) these.are

  first_before : (all : List (Roles D K P G N R L)) (role : Roles D K P G N R L) → AreRoles all → role ≡ slice_index_or all 0 role → all ≡ role ∷ drop 1 all
  first_before all role these value =
      these.are
      ∙ ap (λ (r : Roles D K P G N R L). r ∷ others_of these.crew these.viewer these.store) (sym (first_is all role these value))
      ∙ ap (λ (xs : List (Roles D K P G N R L)). role ∷ xs) (sym (ap (λ (xs : List (Roles D K P G N R L)). drop 1 xs) these.are))

  -- what was taken, with what is left, is what all of them hold; and no owner is left
  pub record Taken (workers : List (WorkerFacts L)) (viewer : Option (ViewerFacts D L)) (store : Option (StoreFacts P)) (left all : List (Roles D K P G N R L)) : Type 0 where
    pub workers_so : workers ++ workers_in left ≡ workers_in all
    pub viewer_so : viewer_in viewer left ≡ viewer_in None all
    pub store_so : store_in store left ≡ store_in None all
    pub no_owners : owners_in left ≡ []

  -- nothing was taken yet
  pub none_taken : (all rest : List (Roles D K P G N R L)) (before : List (WorkerFacts L)) (viewer : Option (ViewerFacts D L)) (store : Option (StoreFacts P)) → AreOthers all → rest ≡ all → before ≡ [] → viewer ≡ None → store ≡ None
      → Taken before viewer store rest all
  none_taken all rest before viewer store these is nobody none no_store = record {
    workers_so = ap (λ (ws : List (WorkerFacts L)). ws ++ workers_in rest) nobody ∙ ap (λ (xs : List (Roles D K P G N R L)). workers_in xs) is;
    viewer_so = ap (λ (v : Option (ViewerFacts D L)). viewer_in v rest) none ∙ ap (λ (xs : List (Roles D K P G N R L)). viewer_in None xs) is;
    store_so = ap (λ (s : Option (StoreFacts P)). store_in s rest) no_store ∙ ap (λ (xs : List (Roles D K P G N R L)). store_in None xs) is;
    no_owners = ap (λ (xs : List (Roles D K P G N R L)). owners_in xs) (is ∙ these.are) ∙ no_owner K G N R these.crew these.viewer these.store;
  }

  begins_with : (left rest : List (Roles D K P G N R L)) (role is : Roles D K P G N R L) → left ≡ role ∷ rest → role ≡ is → left ≡ is ∷ rest
  begins_with left rest role is left_is role_is = left_is ∙ ap (λ (r : Roles D K P G N R L). r ∷ rest) role_is

  pub took_one : (all left rest : List (Roles D K P G N R L)) (before after : List (WorkerFacts L)) (viewer : Option (ViewerFacts D L)) (store : Option (StoreFacts P)) (role : Roles D K P G N R L) (worker : WorkerFacts L) → left ≡ role ∷ rest
      → role ≡ roles.Worker worker → after ≡ before ++ worker ∷ [] → Taken before viewer store left all → Taken after viewer store rest all
  took_one all left rest before after viewer store role worker is is_worker pushed taken =
      let first = sym (begins_with left rest role (roles.Worker worker) is is_worker) in
      record {
        workers_so =
            ap (λ (ws : List (WorkerFacts L)). ws ++ workers_in rest) pushed
            ∙ append_assoc before (worker ∷ []) (workers_in rest)
            ∙ ap (λ (xs : List (Roles D K P G N R L)). before ++ workers_in xs) first
            ∙ taken.workers_so;
        viewer_so = ap (λ (xs : List (Roles D K P G N R L)). viewer_in viewer xs) first ∙ taken.viewer_so;
        store_so = ap (λ (xs : List (Roles D K P G N R L)). store_in store xs) first ∙ taken.store_so;
        no_owners = ap (λ (xs : List (Roles D K P G N R L)). owners_in xs) first ∙ taken.no_owners;
      }

  pub took_viewer : (all left rest : List (Roles D K P G N R L)) (before : List (WorkerFacts L)) (old new : Option (ViewerFacts D L)) (store : Option (StoreFacts P)) (role : Roles D K P G N R L) (viewer : ViewerFacts D L) → left ≡ role ∷ rest
      → role ≡ roles.Viewer viewer → new ≡ Some viewer → Taken before old store left all → Taken before new store rest all
  took_viewer all left rest before old new store role viewer is is_viewer kept taken =
      let first = sym (begins_with left rest role (roles.Viewer viewer) is is_viewer) in
      record {
        workers_so = ap (λ (xs : List (Roles D K P G N R L)). before ++ workers_in xs) first ∙ taken.workers_so;
        viewer_so = ap (λ (v : Option (ViewerFacts D L)). viewer_in v rest) kept ∙ ap (λ (xs : List (Roles D K P G N R L)). viewer_in old xs) first ∙ taken.viewer_so;
        store_so = ap (λ (xs : List (Roles D K P G N R L)). store_in store xs) first ∙ taken.store_so;
        no_owners = ap (λ (xs : List (Roles D K P G N R L)). owners_in xs) first ∙ taken.no_owners;
      }

  pub took_store : (all left rest : List (Roles D K P G N R L)) (before : List (WorkerFacts L)) (viewer : Option (ViewerFacts D L)) (old new : Option (StoreFacts P)) (role : Roles D K P G N R L) (store : StoreFacts P) → left ≡ role ∷ rest
      → role ≡ roles.Store store → new ≡ Some store → Taken before viewer old left all → Taken before viewer new rest all
  took_store all left rest before viewer old new role store is is_store kept taken =
      let first = sym (begins_with left rest role (roles.Store store) is is_store) in
      record {
        workers_so = ap (λ (xs : List (Roles D K P G N R L)). before ++ workers_in xs) first ∙ taken.workers_so;
        viewer_so = ap (λ (xs : List (Roles D K P G N R L)). viewer_in viewer xs) first ∙ taken.viewer_so;
        store_so = ap (λ (s : Option (StoreFacts P)). store_in s rest) kept ∙ ap (λ (xs : List (Roles D K P G N R L)). store_in old xs) first ∙ taken.store_so;
        no_owners = ap (λ (xs : List (Roles D K P G N R L)). owners_in xs) first ∙ taken.no_owners;
      }

  pub no_owner_left : (all left rest : List (Roles D K P G N R L)) (before : List (WorkerFacts L)) (viewer : Option (ViewerFacts D L)) (store : Option (StoreFacts P)) (role : Roles D K P G N R L) (owner : OwnerFacts D L) → left ≡ role ∷ rest
      → role ≡ roles.Owner owner → Taken before viewer store left all → ⊥
  no_owner_left all left rest before viewer store role owner is is_owner taken =
      let no : owner ∷ owners_in rest ≡ [] = ap (λ (xs : List (Roles D K P G N R L)). owners_in xs) (sym (begins_with left rest role (roles.Owner owner) is is_owner)) ∙ taken.no_owners in
      let none = ap (λ (os : List (OwnerFacts D L)). length os) no in
      omega (arith, none)

  -- all others were taken
  pub all_taken : (all left : List (Roles D K P G N R L)) (workers : List (WorkerFacts L)) (viewer : Option (ViewerFacts D L)) (store : Option (StoreFacts P)) → AreOthers all → length left ≡ 0 → Taken workers viewer store left all
      → all ≡ others_of workers viewer store
  all_taken all [] workers viewer store these none taken =
      let crew : these.crew ≡ workers =
      sym (workers_are K G N R these.crew these.viewer these.store) ∙ ap (λ (xs : List (Roles D K P G N R L)). workers_in xs) (sym these.are) ∙ sym taken.workers_so ∙ append-nil workers in
      let seen : these.viewer ≡ viewer = sym (viewer_is K G N R these.crew these.viewer these.store) ∙ ap (λ (xs : List (Roles D K P G N R L)). viewer_in None xs) (sym these.are) ∙ sym taken.viewer_so in
      let kept : these.store ≡ store = sym (store_is K G N R these.crew these.viewer these.store) ∙ ap (λ (xs : List (Roles D K P G N R L)). store_in None xs) (sym these.are) ∙ sym taken.store_so in
      these.are
      ∙ ap (λ (ws : List (WorkerFacts L)). others_of ws these.viewer these.store) crew
      ∙ ap (λ (v : Option (ViewerFacts D L)). others_of workers v these.store) seen
      ∙ ap (λ (s : Option (StoreFacts P)). others_of workers viewer s) kept
  all_taken all (next ∷ left) workers viewer store these none taken = absurd (omega (arith, none))

  -- after the owner the others are
  pub others_left : (all rest : List (Roles D K P G N R L)) → AreRoles all → rest ≡ drop 1 all → AreOthers rest
  others_left all rest these is = record {
    crew = these.crew;
    viewer = these.viewer;
    store = these.store;
    are = is ∙ ap (λ (xs : List (Roles D K P G N R L)). drop 1 xs) these.are;
  }

  pub all_apart : (all rest : List (Roles D K P G N R L)) (role : Roles D K P G N R L) (owner : OwnerFacts D L) (workers : List (WorkerFacts L)) (viewer : Option (ViewerFacts D L)) (store : Option (StoreFacts P)) → AreRoles all
      → role ≡ slice_index_or all 0 role → role ≡ roles.Owner owner → rest ≡ drop 1 all → rest ≡ others_of workers viewer store → all ≡ roles_of owner workers viewer store
  all_apart all rest role owner workers viewer store these value is left are =
      first_before all role these value
      ∙ ap (λ (r : Roles D K P G N R L). r ∷ drop 1 all) is
      ∙ ap (λ (xs : List (Roles D K P G N R L)). roles.Owner owner ∷ xs) (sym left ∙ are)
