-- What became of the keeper of a run that ended for its sake.
use Rattle.mum_server.proofs.Common.{◌≡◌, ◌∙◌, ℕ, Bool, true, false, List, Option, None, Some, ap, sym, subst, inl, inr, CrewCounts, Rose, DoorFacts, LinkFacts, KeeperFacts, opening_of, StoreFacts, KeeperOpening, KeptRows, Lent, Service, FailsToLoad, Loads, LoadsBadRows, EndsAt, EndsWith, HasServed, ServesNobody, CameToStore, Input, ServerEnd, StateValue, GaveBadRows, KeeperFailed}
use Rattle.mum_serve.specs.declared.program.ServerEnd.TheVariants as ends
use Rattle.mum_serve.specs.declared.server.Served.TheVariants as served

module _ {P : Type 0} (keeper_facts : P → KeeperFacts) where
  -- a keeper that gave its rows counted nothing
  counted_none : (path : Option (List ℕ)) (keeper loaded : P) (rows : Option KeptRows) → Loads keeper_facts path keeper loaded rows → (keeper_facts loaded).faults ≡ (keeper_facts keeper).faults
  counted_none None keeper loaded None loads = ap (λ (p : P). (keeper_facts p).faults) loads
  counted_none None keeper loaded (Some rows) loads = absurd loads
  counted_none (Some path) keeper loaded None loads = absurd loads
  counted_none (Some path) keeper loaded (Some rows) loads = loads.0.counted

  -- the store failed, so its keeper counted that
  counted_some : (opening : KeeperOpening) (state : StateValue) (unused : Option P) (store : Option (StoreFacts P)) (failed starved : Bool) (left : P)
      → CameToStore keeper_facts opening state unused store failed starved left → failed ≡ true → Rose opening.faults (keeper_facts left).faults
  counted_some opening state unused None failed starved left came fails = absurd (let both : true ≡ false = sym fails ∙ came.0 in cc both)
  counted_some opening state unused (Some store) failed starved left came fails = came.since.fails fails

  failed_to_load : (path : Option (List ℕ)) (keeper left : P) → FailsToLoad keeper_facts path keeper left → Rose (keeper_facts keeper).faults (keeper_facts left).faults
  failed_to_load None keeper left fails = absurd fails
  failed_to_load (Some path) keeper left fails = fails.0

  bad_rows : (path : Option (List ℕ)) (keeper left : P) → LoadsBadRows keeper_facts path keeper left → GaveBadRows keeper_facts (Some left)
  bad_rows None keeper left loads = absurd loads
  bad_rows (Some path) keeper left loads = (loads.0, loads.1.are, loads.2)

module _ {D K P L : Type 0} (facts : L → LinkFacts) (door_facts : D → DoorFacts) (last calls : K → ℕ) (keeper_facts : P → KeeperFacts) (asked : Service) where
  -- a run that was served, and whose keeper failed
  served_failed : (input : Input) (objects left : Lent D K P) (old new : Option (List ℕ)) (crew crew_after : CrewCounts)
      → HasServed facts door_facts last calls keeper_facts asked input ends.KeeperFault objects left old new crew crew_after → KeeperFailed keeper_facts objects.keeper left.keeper
  served_failed input objects left old new crew crew_after has =
      let over = has.serves in
      let began = over.serves in
      let run = began.serves.run in
      let failed : has.summary.keeper_failed ≡ true = has.writes.2 in
      let rose = counted_some keeper_facts (opening_of (keeper_facts began.serves.opened.keeper)) _ (Some began.serves.opened.keeper) run.store has.summary.keeper_failed run.starved over.left.keeper run.store_came failed in
      let counted = ap (λ (p : P). (keeper_facts p).faults) began.serves.keeper ∙ counted_none keeper_facts asked.keep over.objects.keeper began.loaded began.rows began.loads in
      let both : Rose (keeper_facts over.objects.keeper).faults (keeper_facts over.left.keeper).faults = subst (λ (n : ℕ). Rose n (keeper_facts over.left.keeper).faults) counted rose in
      subst (λ (l : Lent D K P). KeeperFailed keeper_facts l.keeper left.keeper) (sym over.was)
      (subst (λ (l : Lent D K P). KeeperFailed keeper_facts (Some over.objects.keeper) l.keeper) (sym over.is) both)

  -- nobody was served, since the keeper failed
  nobody_failed : (input : Input) (objects left : Lent D K P) (old new : Option (List ℕ)) (crew crew_after : CrewCounts)
      → ServesNobody facts door_facts last calls keeper_facts asked input served.KeeperFault objects left old new crew crew_after → KeeperFailed keeper_facts objects.keeper left.keeper
  nobody_failed input objects left old new crew crew_after nobody =
      let over = nobody.serves in
      subst (λ (l : Lent D K P). KeeperFailed keeper_facts l.keeper left.keeper) (sym over.was)
      (subst (λ (l : Lent D K P). KeeperFailed keeper_facts (Some over.objects.keeper) l.keeper) (sym over.is)
      (failed_to_load keeper_facts asked.keep over.objects.keeper over.left.keeper over.serves.2))

  with_fault : (input : Input) (objects left : Lent D K P) (old new : Option (List ℕ)) (crew crew_after : CrewCounts)
      → EndsWith facts door_facts last calls keeper_facts asked input ends.KeeperFault objects left old new crew crew_after → KeeperFailed keeper_facts objects.keeper left.keeper
  with_fault input objects left old new crew crew_after (inl has) = served_failed input objects left old new crew crew_after has
  with_fault input objects left old new crew crew_after (inr nobody) = nobody_failed input objects left old new crew crew_after nobody

  failed_at : (bytes : Option (List ℕ)) (objects left : Lent D K P) (old new : Option (List ℕ)) (crew crew_after : CrewCounts)
      → EndsAt facts door_facts last calls keeper_facts asked bytes ends.KeeperFault objects left old new crew crew_after → KeeperFailed keeper_facts objects.keeper left.keeper
  failed_at bytes objects left old new crew crew_after (inl ends_so) = with_fault ends_so.0 objects left old new crew crew_after ends_so.2
  failed_at bytes objects left old new crew crew_after (inr refused) = absurd refused.0

  -- a run that ended so had a keeper that failed
  pub keeper_failed : (bytes : Option (List ℕ)) (end : ServerEnd) (objects left : Lent D K P) (old new : Option (List ℕ)) (crew crew_after : CrewCounts) → end ≡ ends.KeeperFault
      → EndsAt facts door_facts last calls keeper_facts asked bytes end objects left old new crew crew_after → KeeperFailed keeper_facts objects.keeper left.keeper
  keeper_failed bytes end objects left old new crew crew_after is ends_so =
      failed_at bytes objects left old new crew crew_after (subst (λ (e : ServerEnd). EndsAt facts door_facts last calls keeper_facts asked bytes e objects left old new crew crew_after) is ends_so)

  -- nobody was served, since the keeper gave bad rows
  nobody_fed : (input : Input) (objects left : Lent D K P) (old new : Option (List ℕ)) (crew crew_after : CrewCounts)
      → ServesNobody facts door_facts last calls keeper_facts asked input served.BadStore objects left old new crew crew_after → GaveBadRows keeper_facts left.keeper
  nobody_fed input objects left old new crew crew_after nobody =
      let over = nobody.serves in
      subst (λ (l : Lent D K P). GaveBadRows keeper_facts l.keeper) (sym over.is)
      (bad_rows keeper_facts asked.keep over.objects.keeper over.left.keeper over.serves.2)

  bad_at : (bytes : Option (List ℕ)) (objects left : Lent D K P) (old new : Option (List ℕ)) (crew crew_after : CrewCounts)
      → EndsAt facts door_facts last calls keeper_facts asked bytes ends.BadStore objects left old new crew crew_after → GaveBadRows keeper_facts left.keeper
  bad_at bytes objects left old new crew crew_after (inl ends_so) = nobody_fed ends_so.0 objects left old new crew crew_after ends_so.2
  bad_at bytes objects left old new crew crew_after (inr refused) = absurd refused.0

  -- a run that ended so had a keeper that gave bad rows
  pub rows_were_bad : (bytes : Option (List ℕ)) (end : ServerEnd) (objects left : Lent D K P) (old new : Option (List ℕ)) (crew crew_after : CrewCounts) → end ≡ ends.BadStore
      → EndsAt facts door_facts last calls keeper_facts asked bytes end objects left old new crew crew_after → GaveBadRows keeper_facts left.keeper
  rows_were_bad bytes end objects left old new crew crew_after is ends_so =
      bad_at bytes objects left old new crew crew_after (subst (λ (e : ServerEnd). EndsAt facts door_facts last calls keeper_facts asked bytes e objects left old new crew crew_after) is ends_so)
